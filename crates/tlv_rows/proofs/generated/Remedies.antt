-- What may be done of an input that does not parse.
-- `tests/make-rows` writes this file from tests/rows_of_definitions/remedies.rows.
use Rattle.std.proofs.Common.{◌≡◌, false, true, [], ◌∷◌, ◌++◌, None, Some, codes, refl}
use Rattle.std.specs.Prelude.{replicate}
use Rattle.std.specs.Fmt.{digits}
use Rattle.hex.specs.Hex.{encode_with}
use Rattle.tlv_head.specs.declared.header.Class.TheVariants.{Universal}
use Rattle.tlv_head.specs.declared.header.Size.TheVariants.{Definite, Indefinite}
use Rattle.tlv_rows.proofs.Words.Octets.{octets}
use Rattle.tlv_reasons.specs.declared.text_changes.TextChange.TheVariants.{LineEnds, Replaced, Utf8}
use Rattle.tlv_reasons.specs.declared.octet_changes.OctetChange.TheVariants.{Missing, PutIn}
use Rattle.tlv_reasons.specs.declared.kinds.FileKind.TheVariants as kind
use Rattle.tlv_reasons.specs.declared.moves.Move.TheVariants as move
use Rattle.tlv_reasons.specs.declared.traces.Trace.TheVariants as trace
use Rattle.tlv_head.specs.declared.fault.FaultCode.TheVariants.{Short, StrayEnd}
use Rattle.tlv_reasons.specs.declared.sentence.Sentence.TheVariants.{LengthInFront, ManyKinds, NextRecord}
use Rattle.tlv_reasons.specs.declared.sentence.Sentence.TheVariants.{NextRecordUpTo, NoneLost, OctetsMoved}
use Rattle.tlv_reasons.specs.declared.sentence.Sentence.TheVariants.{OneOctet, OtherChain, OtherKind, OtherLength}
use Rattle.tlv_reasons.specs.declared.sentence.Sentence.TheVariants.{Overwritten, ParsesFrom, SomeLost, SomePutIn, Spaced}
use Rattle.tlv_reasons.specs.declared.sentence.Sentence.TheVariants.{StandsTwice, TextChanged, TextFollows, ThreeLengths}
use Rattle.tlv_reasons.specs.declared.sentence.Sentence.TheVariants.{Traced, TryAnew, TwoLengths}
use Rattle.tlv_reasons.specs.FileKinds.{digit_of, file_kind, hex_number}
use Rattle.tlv_reasons.specs.Moves.{undone_move}
use Rattle.tlv_reasons.specs.NextRecord.{is_far}
use Rattle.tlv_reasons.specs.NextStart.{is_near_end}
use Rattle.tlv_reasons.specs.Overwritten.{run_around}
use Rattle.tlv_reasons.specs.Remedies.{lengths_in, named_at, record_sentence, replaced_before, start_in, undoable}
use Rattle.tlv_reasons.specs.Remedies.{unless_mended}
use Rattle.tlv_reasons.specs.Sizes.{difference_of, size_sentence_of}
use Rattle.tlv_reasons.specs.Sentences.{sentence_text}
use Rattle.tlv_reasons.specs.Values.{all_in_words, first_pairs, octets_between, octets_in_words}
use Rattle.tlv_reasons.specs.TextCopies.{has_replacement, latin1_of_utf8, with_lf_alone}
use Rattle.tlv_reasons.specs.Traces.{trace_of}
use Rattle.tlv_reasons.specs.Suspects.{distinct}
use Rattle.tlv_reasons.specs.Window.{window_end}
use Rattle.tlv_reasons.specs.WrongLength.{ending_lengths, flips, input_with_length, length_octets_saying, lengths_within}
use Rattle.tlv_reasons.specs.WrongLength.{most_named, other_lengths, reach_in, reversed_lengths}
use Rattle.tlv_rows.proofs.Words.Headers.{header}
use Rattle.tlv_rows.proofs.Words.Why.{element}

-- Lines that say what may be done of an input that does not parse, word for word.
-- the header at an offset, what it says, and what it would have to say
-- length
row-1 : sentence_text [] (OtherLength (record { offset = 39; said = 10; would = 9 }) (None))
    ≡ (codes "If the header at offset 39 said 9 octets and not 10, all would parse.\n")
unfolding all_in_words digits octets_in_words sentence_text
row-1 = refl

-- one octet
row-2 : sentence_text [] (OtherLength (record { offset = 0; said = 2; would = 1 }) (None))
    ≡ (codes "If the header at offset 0 said 1 octet and not 2, all would parse.\n")
unfolding all_in_words digits octets_in_words sentence_text
row-2 = refl

-- in a window
row-3 : sentence_text [] (OtherLength (record { offset = 39; said = 10; would = 9 }) ((Some 1048600)))
    ≡ (codes "If the header at offset 39 said 9 octets and not 10, all up to offset 1048600 would parse.\n")
unfolding all_in_words digits octets_in_words sentence_text
row-3 = refl

-- two headers, and three
row-4 : sentence_text [] (TwoLengths (record { offset = 2; said = 2; would = 1 }) (record { offset = 5; said = 8; would = 7 }) (None))
    ≡ (codes "If the header at offset 2 said 1 octet and not 2, or that at offset 5 said 7 octets and not 8, all would parse.\n")
unfolding all_in_words digits octets_in_words sentence_text
row-4 = refl

row-5 : sentence_text [] (ThreeLengths (record { offset = 2; said = 2; would = 1 }) (record { offset = 5; said = 8; would = 7 }) (record { offset = 0; said = 8; would = 9 }) (None))
    ≡ (codes "If the header at offset 2 said 1 octet and not 2, or that at offset 5 said 7 octets and not 8, or that at offset 0 said 9 octets and not 8, all would parse.\n")
unfolding all_in_words digits octets_in_words sentence_text
row-5 = refl

-- missing
row-6 : sentence_text [] (OneOctet ((Missing 9)))
    ≡ (codes "If one octet more stood after the header at offset 9, all would parse: an octet of its contents may be missing.\n")
unfolding all_in_words digits octets_in_words sentence_text
row-6 = refl

-- put in
row-7 : sentence_text [] (OneOctet ((PutIn 0)))
    ≡ (codes "If one octet fewer stood after the header at offset 0, all would parse: an octet may have been put in there.\n")
unfolding all_in_words digits octets_in_words sentence_text
row-7 = refl

-- utf8
row-8 : sentence_text [] (TextChanged Utf8)
    ≡ (codes "It was taken for a text in Latin-1 and written in UTF-8. Try: fetch it anew, in binary, or: iconv -f UTF-8 -t ISO-8859-1 FILE | tlvdump-show\n")
unfolding all_in_words digits octets_in_words sentence_text
row-8 = refl

-- line ends
row-9 : sentence_text [] (TextChanged LineEnds)
    ≡ (codes "It was taken for a text: octets 0d were put in front of 0a. Try: fetch it anew, in binary.\n")
unfolding all_in_words digits octets_in_words sentence_text
row-9 = refl

-- replaced
row-10 : sentence_text [] (TextChanged Replaced)
    ≡ (codes "It has the octets ef bf bd, with which programs replace what is no UTF-8: it was copied as a text. Try: fetch it anew, in binary.\n")
unfolding all_in_words digits octets_in_words sentence_text
row-10 = refl

-- other lengths of elements inside one another: those of one header, of two and of four
row-11 : sentence_text [] (OtherChain (record { offsets = (0 ∷ 4 ∷ 502 ∷ 598 ∷ 0 ∷ 0 ∷ 0 ∷ 0 ∷ []); count = 1; by = 1; is_greater = true }))
    ≡ (codes "If the length at 0 were 1 more, all would parse: 1 octet may have been put in there, and it was not raised.\n")
unfolding all_in_words digits octets_in_words sentence_text
row-11 = refl

row-12 : sentence_text [] (OtherChain (record { offsets = (0 ∷ 4 ∷ 502 ∷ 598 ∷ 0 ∷ 0 ∷ 0 ∷ 0 ∷ []); count = 1; by = 2; is_greater = false }))
    ≡ (codes "If the length at 0 were 2 less, all would parse: 2 octets may have been lost there, and it was not lowered.\n")
unfolding all_in_words digits octets_in_words sentence_text
row-12 = refl

row-13 : sentence_text [] (OtherChain (record { offsets = (0 ∷ 4 ∷ 502 ∷ 598 ∷ 0 ∷ 0 ∷ 0 ∷ 0 ∷ []); count = 4; by = 1; is_greater = true }))
    ≡ (codes "If each of the lengths at 0, 4, 502 and 598 were 1 more, all would parse: 1 octet may have been put in there, and they were not raised.\n")
unfolding all_in_words digits octets_in_words sentence_text
row-13 = refl

row-14 : sentence_text [] (OtherChain (record { offsets = (0 ∷ 4 ∷ 502 ∷ 598 ∷ 0 ∷ 0 ∷ 0 ∷ 0 ∷ []); count = 2; by = 2; is_greater = false }))
    ≡ (codes "If each of the lengths at 0 and 4 were 2 less, all would parse: 2 octets may have been lost there, and they were not lowered.\n")
unfolding all_in_words digits octets_in_words sentence_text
row-14 = refl

-- a block
row-15 : sentence_text [] (StandsTwice (record { offset = 40; size = 12 }))
    ≡ (codes "The 12 octets from offset 40 on stand twice. If they stood once, all would parse.\n")
unfolding all_in_words digits octets_in_words sentence_text
row-15 = refl

row-16 : sentence_text (octets "30" ++ replicate 24 0xff ++ octets "05") (Overwritten (record { start = 1; end = 25 }))
    ≡ (codes "The octets from offset 1 on are ff alone: 24. They may stand in place of others.\n")
unfolding digits encode_with first_pairs octets_between octets_in_words sentence_text
row-16 = refl

row-17 : sentence_text (octets "30 00 0a 30 00") (Spaced (record { first = 0; end = 2; gap = 1; count = 2 }))
    ≡ (codes "There are encodings from offset 0 on: 2. Between each two of them other octets stand: 1 octet, first 0a at offset 2. Try: tail -c +1 FILE | head -c 2 | tlvdump-show, for the first.\n")
unfolding digits encode_with first_pairs octets_between octets_in_words sentence_text
row-17 = refl

row-18 : sentence_text (octets "00 02 30 00 00 02 30 00") (Spaced (record { first = 2; end = 4; gap = 2; count = 2 }))
    ≡ (codes "There are encodings from offset 2 on: 2. Between each two of them other octets stand: 2 octets, first 00 02 at offset 4. Try: tail -c +3 FILE | head -c 2 | tlvdump-show, for the first.\n")
unfolding digits encode_with first_pairs octets_between octets_in_words sentence_text
row-18 = refl

row-19 : sentence_text [] (OctetsMoved move.Pairs)
    ≡ (codes "Its octets stand in reverse order in pairs: if each pair were turned round, all would parse. Try: dd conv=swab status=none <FILE | tlvdump-show\n")
unfolding digits encode_with first_pairs octets_between octets_in_words sentence_text
row-19 = refl

row-20 : sentence_text [] (OctetsMoved move.Fours)
    ≡ (codes "Its octets stand in reverse order in fours: if each four were turned round, all would parse. Try: fetch it anew, in binary.\n")
unfolding digits encode_with first_pairs octets_between octets_in_words sentence_text
row-20 = refl

row-21 : sentence_text [] (OctetsMoved move.Reversed)
    ≡ (codes "Its octets stand in reverse order: read from the last to the first, all would parse. Try: fetch it anew, in binary.\n")
unfolding digits encode_with first_pairs octets_between octets_in_words sentence_text
row-21 = refl

row-22 : sentence_text [] (OctetsMoved move.Inverted)
    ≡ (codes "Its bits are inverted: if each were turned round, all would parse. Try: fetch it anew, in binary.\n")
unfolding digits encode_with first_pairs octets_between octets_in_words sentence_text
row-22 = refl

row-23 : sentence_text [] (Traced (trace.AsUtf8 9))
    ≡ (codes "It is UTF-8 throughout, with characters beyond ASCII: 9. It was taken for a text. Try: fetch it anew, in binary.\n")
unfolding digits encode_with first_pairs octets_between octets_in_words sentence_text
row-23 = refl

row-24 : sentence_text [] (Traced (trace.LineEnds 3))
    ≡ (codes "Each of its octets 0a stands behind 0d: 3. It was taken for a text. Try: fetch it anew, in binary.\n")
unfolding digits encode_with first_pairs octets_between octets_in_words sentence_text
row-24 = refl

row-25 : sentence_text [] (Traced (trace.SevenBits 200))
    ≡ (codes "None of its octets is above 7f: 200. It was taken for a text, or the highest bits were cleared. Try: fetch it anew, in binary.\n")
unfolding digits encode_with first_pairs octets_between octets_in_words sentence_text
row-25 = refl

row-26 : sentence_text [] (Traced (trace.QuestionMarks 20))
    ≡ (codes "None of its octets is above 7f, and many are the character ?: 20. It was taken for a text. Try: fetch it anew, in binary.\n")
unfolding digits encode_with first_pairs octets_between octets_in_words sentence_text
row-26 = refl

row-27 : sentence_text [] (Traced trace.HalfZeros)
    ≡ (codes "Nearly every second of its octets is 00. It was taken for a text and written in UTF-16. Try: fetch it anew, in binary.\n")
unfolding digits encode_with first_pairs octets_between octets_in_words sentence_text
row-27 = refl

-- by the first octets
-- zip
row-28 : file_kind (octets "50 4b 03 04 14") ≡ (Some kind.Zip)
unfolding digits encode_with first_pairs octets_between octets_in_words sentence_text
row-28 = refl

-- gzip
row-29 : file_kind (octets "1f 8b 08") ≡ (Some kind.Gzip)
unfolding digits encode_with first_pairs octets_between octets_in_words sentence_text
row-29 = refl

-- bzip2
row-30 : file_kind (octets "42 5a 68 39") ≡ (Some kind.Bzip2)
unfolding digits encode_with first_pairs octets_between octets_in_words sentence_text
row-30 = refl

-- pdf
row-31 : file_kind (octets "25 50 44 46") ≡ (Some kind.Pdf)
unfolding digits encode_with first_pairs octets_between octets_in_words sentence_text
row-31 = refl

-- markup
row-32 : file_kind (octets "3c 3f") ≡ (Some kind.Markup)
unfolding digits encode_with first_pairs octets_between octets_in_words sentence_text
row-32 = refl

-- openssh
row-33 : file_kind (octets "6f 70 65 6e 73 73 68 2d 6b 65 79 2d") ≡ (Some kind.OpenSsh)
unfolding digits encode_with first_pairs octets_between octets_in_words sentence_text
row-33 = refl

-- utf16
row-34 : file_kind (octets "ff fe 41") ≡ (Some kind.Utf16)
unfolding digits encode_with first_pairs octets_between octets_in_words sentence_text
row-34 = refl

-- utf16 high first
row-35 : file_kind (octets "fe ff") ≡ (Some kind.Utf16)
unfolding digits encode_with first_pairs octets_between octets_in_words sentence_text
row-35 = refl

-- pcap
row-36 : file_kind (octets "d4 c3 b2 a1 02") ≡ (Some kind.Capture)
unfolding digits encode_with first_pairs octets_between octets_in_words sentence_text
row-36 = refl

-- pcap nanoseconds
row-37 : file_kind (octets "4d 3c b2 a1") ≡ (Some kind.Capture)
unfolding digits encode_with first_pairs octets_between octets_in_words sentence_text
row-37 = refl

-- pcapng
row-38 : file_kind (octets "0a 0d 0d 0a 1c") ≡ (Some kind.Capture)
unfolding digits encode_with first_pairs octets_between octets_in_words sentence_text
row-38 = refl

-- java
row-39 : file_kind (octets "fe ed fe ed") ≡ (Some kind.KeyStore)
unfolding digits encode_with first_pairs octets_between octets_in_words sentence_text
row-39 = refl

-- an answer of HTTP
row-40 : file_kind (octets "48 54 54 50 2f 31 2e 31 20 32 30 30") ≡ (Some kind.Http)
unfolding digits encode_with first_pairs octets_between octets_in_words sentence_text
row-40 = refl

-- a mark of UTF-8
row-41 : file_kind (octets "ef bb bf 30") ≡ (Some kind.ByteOrderMark)
unfolding digits encode_with first_pairs octets_between octets_in_words sentence_text
row-41 = refl

-- a chunk
row-42 : file_kind (octets "31 31 0d 0a 30 0f 04 0d 01 02 03 04 05 06 07 08 09 0a 0b 0c 0d 0d 0a")
    ≡ (Some kind.Chunks)
unfolding digits encode_with first_pairs octets_between octets_in_words sentence_text
row-42 = refl

-- more behind it
row-43 : file_kind (octets "32 0d 0a 05 00 0d 0a 30") ≡ (Some kind.Chunks)
unfolding digits encode_with first_pairs octets_between octets_in_words sentence_text
row-43 = refl

-- no whole line end behind it
row-44 : file_kind (octets "32 0d 0a 05 00 0d") ≡ None
unfolding digits encode_with first_pairs octets_between octets_in_words sentence_text
row-44 = refl

-- no line end behind the size
row-45 : file_kind (octets "32 0a 05 00 0d 0a") ≡ None
unfolding digits encode_with first_pairs octets_between octets_in_words sentence_text
row-45 = refl

-- nine digits
row-46 : file_kind (octets "30 30 30 30 30 30 30 30 32 0d 0a 05 00 0d 0a") ≡ None
unfolding digits encode_with first_pairs octets_between octets_in_words sentence_text
row-46 = refl

-- the octets have to be there whole
row-47 : file_kind (octets "50 4b 03") ≡ None
unfolding digits encode_with first_pairs octets_between octets_in_words sentence_text
row-47 = refl

row-48 : sentence_text [] (OtherKind kind.Zip) ≡ (codes "It begins as a ZIP file does: unpack it first.\n")
unfolding digits encode_with first_pairs octets_between octets_in_words sentence_text
row-48 = refl

row-49 : sentence_text [] (OtherKind kind.Gzip)
    ≡ (codes "It begins as a file of gzip does. Try: gzip -dc FILE | tlvdump-show\n")
unfolding digits encode_with first_pairs octets_between octets_in_words sentence_text
row-49 = refl

row-50 : sentence_text [] (OtherKind kind.Bzip2)
    ≡ (codes "It begins as a file of bzip2 does. Try: bzip2 -dc FILE | tlvdump-show\n")
unfolding digits encode_with first_pairs octets_between octets_in_words sentence_text
row-50 = refl

row-51 : sentence_text [] (OtherKind kind.Pdf) ≡ (codes "It begins as a PDF file does.\n")
unfolding digits encode_with first_pairs octets_between octets_in_words sentence_text
row-51 = refl

row-52 : sentence_text [] (OtherKind kind.Markup) ≡ (codes "It begins with the character <, as XML and HTML do.\n")
unfolding digits encode_with first_pairs octets_between octets_in_words sentence_text
row-52 = refl

row-53 : sentence_text [] (OtherKind kind.OpenSsh)
    ≡ (codes "It is a key of OpenSSH, which is no encoding by X.690.\n")
unfolding digits encode_with first_pairs octets_between octets_in_words sentence_text
row-53 = refl

row-54 : sentence_text [] (OtherKind kind.Utf16)
    ≡ (codes "It begins as text in UTF-16 does. Try: iconv -f UTF-16 -t UTF-8 FILE | tlvdump-show\n")
unfolding digits encode_with first_pairs octets_between octets_in_words sentence_text
row-54 = refl

row-55 : sentence_text [] (OtherKind kind.Capture)
    ≡ (codes "It begins as a capture of packets (pcap) does: export the octets of a packet first.\n")
unfolding digits encode_with first_pairs octets_between octets_in_words sentence_text
row-55 = refl

row-56 : sentence_text [] (OtherKind kind.KeyStore)
    ≡ (codes "It begins as a key store of Java (JKS) does: export what you need first.\n")
unfolding digits encode_with first_pairs octets_between octets_in_words sentence_text
row-56 = refl

row-57 : sentence_text [] (OtherKind kind.Http)
    ≡ (codes "It begins with the header of an answer of HTTP. Try: sed '1,/^.$/d' FILE | tlvdump-show\n")
unfolding digits encode_with first_pairs octets_between octets_in_words sentence_text
row-57 = refl

row-58 : sentence_text [] (OtherKind kind.ByteOrderMark)
    ≡ (codes "It begins with the byte order mark of a text in UTF-8. Try: tail -c +4 FILE | tlvdump-show\n")
unfolding digits encode_with first_pairs octets_between octets_in_words sentence_text
row-58 = refl

row-59 : sentence_text [] (OtherKind kind.Chunks)
    ≡ (codes "It begins with a chunk of HTTP and its size. Try: fetch it anew with a program that joins the chunks, as curl does.\n")
unfolding digits encode_with first_pairs octets_between octets_in_words sentence_text
row-59 = refl

-- a hexadecimal digit, and numbers
-- 0
row-60 : digit_of 0x30 ≡ (Some 0)
unfolding digits encode_with first_pairs octets_between octets_in_words sentence_text
row-60 = refl

-- 9
row-61 : digit_of 0x39 ≡ (Some 9)
unfolding digits encode_with first_pairs octets_between octets_in_words sentence_text
row-61 = refl

-- a
row-62 : digit_of 0x61 ≡ (Some 10)
unfolding digits encode_with first_pairs octets_between octets_in_words sentence_text
row-62 = refl

-- F
row-63 : digit_of 0x46 ≡ (Some 15)
unfolding digits encode_with first_pairs octets_between octets_in_words sentence_text
row-63 = refl

-- g
row-64 : digit_of 0x67 ≡ None
unfolding digits encode_with first_pairs octets_between octets_in_words sentence_text
row-64 = refl

-- in front of 0
row-65 : digit_of 0x2f ≡ None
unfolding digits encode_with first_pairs octets_between octets_in_words sentence_text
row-65 = refl

-- two digits
row-66 : hex_number 0 (octets "31 30") ≡ 16
unfolding digits encode_with first_pairs octets_between octets_in_words sentence_text
row-66 = refl

-- both cases
row-67 : hex_number 0 (octets "46 66") ≡ 255
unfolding digits encode_with first_pairs octets_between octets_in_words sentence_text
row-67 = refl

-- start
row-68 : sentence_text [] (ParsesFrom 9)
    ≡ (codes "From offset 9 on it parses: what stands in front may be a header of the file or of the record, or damaged. Try: tail -c +10 FILE | tlvdump-show\n")
unfolding digits encode_with first_pairs octets_between octets_in_words sentence_text
row-68 = refl

-- record
row-69 : sentence_text [] (NextRecord 120)
    ≡ (codes "From offset 120 on it parses: the next record may begin there. Try: tail -c +121 FILE | tlvdump-show\n")
unfolding digits encode_with first_pairs octets_between octets_in_words sentence_text
row-69 = refl

-- record up to a fault
row-70 : sentence_text [] (NextRecordUpTo 120 9000)
    ≡ (codes "The next record may begin at offset 120: from there on it parses up to another fault, at offset 9000. Try: tail -c +121 FILE | tlvdump-show\n")
unfolding digits encode_with first_pairs octets_between octets_in_words sentence_text
row-70 = refl

-- the fault of the input is at the first offset, a record is at the second, and the next fault so many octets behind it
-- far behind the record
row-71 : is_far 10 13 StrayEnd 4096 ≡ true
unfolding digits encode_with first_pairs octets_between octets_in_words sentence_text
row-71 = refl

-- nearer
row-72 : is_far 10 13 StrayEnd 4095 ≡ false
unfolding digits encode_with first_pairs octets_between octets_in_words sentence_text
row-72 = refl

-- nearer to the fault
row-73 : is_far 20 13 StrayEnd 4102 ≡ false
unfolding digits encode_with first_pairs octets_between octets_in_words sentence_text
row-73 = refl

-- far behind both
row-74 : is_far 20 13 StrayEnd 4103 ≡ true
unfolding digits encode_with first_pairs octets_between octets_in_words sentence_text
row-74 = refl

-- the input ends inside an encoding
row-75 : is_far 10 13 Short 9000 ≡ false
unfolding digits encode_with first_pairs octets_between octets_in_words sentence_text
row-75 = refl

-- outermost elements that begin with many different octets
-- many
row-76 : sentence_text [] (ManyKinds (record { elements = 5; kinds = 3; primitives = 4 }))
    ≡ (codes "It has 5 outermost elements, which begin with 3 different octets. Primitive: 4. Octets that are no encodings may parse so by chance.\n")
unfolding digits octets_in_words sentence_text
row-76 = refl

-- text behind
row-77 : sentence_text [] (TextFollows 6 8)
    ≡ (codes "Whole encodings end at offset 6. The octets after them are printable text: 8.\n")
unfolding digits octets_in_words sentence_text
row-77 = refl

-- What the length of the outermost element says: the octets, the element, its end, and the sentence.
-- all there
row-78 : size_sentence_of (octets "30 02 05 00") (element 0 16 (Definite 2) 2 (Some 4)) 4
    ≡ (Some (NoneLost (element 0 16 (Definite 2) 2 (Some 4))))
row-78 = refl

-- one lost
row-79 : size_sentence_of (octets "30 02 05") (element 0 16 (Definite 2) 2 (Some 4)) 4
    ≡ (Some (SomeLost (element 0 16 (Definite 2) 2 (Some 4)) 3))
row-79 = refl

-- one too many
row-80 : size_sentence_of (octets "30 02 05 00 05") (element 0 16 (Definite 2) 2 (Some 4)) 4
    ≡ (Some (SomePutIn (element 0 16 (Definite 2) 2 (Some 4)) 5))
row-80 = refl

-- another record
row-81 : size_sentence_of (octets "30 02 05 00 30") (element 0 16 (Definite 2) 2 (Some 4)) 4 ≡ None
row-81 = refl

-- by how many octets an input of so many is longer or shorter than one that ends at the offset
-- as long
row-82 : difference_of 9 9 ≡ None
row-82 = refl

-- longer
row-83 : difference_of 10 9 ≡ (Some (record { by = 1; is_longer = true }))
row-83 = refl

-- shorter
row-84 : difference_of 9 11 ≡ (Some (record { by = 2; is_longer = false }))
row-84 = refl

-- the most
row-85 : difference_of 4097 1 ≡ (Some (record { by = 4096; is_longer = true }))
row-85 = refl

-- more
row-86 : difference_of 4098 1 ≡ None
row-86 = refl

-- where the first element ends: whether it is constructed, the octets of the input, and the distance
-- at the end
row-87 : is_near_end false 40 0 ≡ true
row-87 = refl

-- a primitive
row-88 : is_near_end false 40 1 ≡ false
row-88 = refl

-- a quarter
row-89 : is_near_end true 40 10 ≡ true
row-89 = refl

-- more
row-90 : is_near_end true 40 11 ≡ false
row-90 = refl

-- What was done to all octets, if it is undone.
row-91 : undone_move move.Pairs (octets "01 02 03 04 05") ≡ (octets "02 01 04 03 05")
row-91 = refl

row-92 : undone_move move.Fours (octets "01 02 03 04 05 06 07") ≡ (octets "04 03 02 01 05 06 07")
row-92 = refl

row-93 : undone_move move.Reversed (octets "01 02 03") ≡ (octets "03 02 01")
row-93 = refl

row-94 : undone_move move.Inverted (octets "00 30 ff") ≡ (octets "ff cf 00")
row-94 = refl

-- Traces of a text: in an octet less there is none.
-- characters
row-95 : trace_of (octets "30 c3 bf c3 bf c3 bf c3 bf c3 bf c3 bf c3 bf c3 bf") ≡ (Some (trace.AsUtf8 8))
row-95 = refl

-- too few
row-96 : trace_of (octets "30 c3 bf c3 bf c3 bf c3 bf c3 bf c3 bf c3 bf") ≡ None
row-96 = refl

-- the last is cut off
row-97 : trace_of (octets "30 c3 bf c3 bf c3 bf c3 bf c3 bf c3 bf c3 bf c3 bf e2 82") ≡ (Some (trace.AsUtf8 9))
row-97 = refl

-- no character begins so
row-98 : trace_of (octets "30 c3 bf c3 bf c3 bf c3 bf c3 bf c3 bf c3 bf c3 bf 82") ≡ None
row-98 = refl

-- a length below 128
row-99 : trace_of (octets "30 20 c3 bf c3 bf c3 bf c3 bf c3 bf c3 bf c3 bf c3 bf") ≡ None
row-99 = refl

-- line ends
row-100 : trace_of (octets "30 0d 0a 0d 0a 0d 0a" ++ replicate 293 0x80) ≡ (Some (trace.LineEnds 3))
row-100 = refl

-- too few
row-101 : trace_of (octets "30 0d 0a 0d 0a" ++ replicate 293 0x80) ≡ None
row-101 = refl

-- one alone
row-102 : trace_of (octets "30 0d 0a 0d 0a 0d 0a 0a" ++ replicate 400 0x80) ≡ None
row-102 = refl

-- a text of lines
row-103 : trace_of (octets "30 0d 0a 0d 0a 0d 0a" ++ replicate 292 0x80) ≡ None
row-103 = refl

-- UTF-16
row-104 : trace_of (octets "80 00 80 00 80 00 80 00 80 00 80 00 80 00 80 00 80 00 80 00 80 00 80 00 80 00 80 00 80 00 80 00" ++
    octets "80 00 80 00 80 00 80 00 80 00 80 00 80 00 80 00 80 00 80 00 80 00 80 00 80 00 80 00 80 00 80 00" ++
    octets "80 00 80 00 80 00 80 00 80 00 80 00 80 00 80 00 80 00 80 00 80 00 80 00 80 00 80 00 80 00 80 00" ++
    octets "80 00 80 00 80 00 80 00 80 00 80 00 80 00 80 00 80 00 80 00 80 00 80 00 80 00 80 00 80 00 80 00" ++
    octets "80 00 80 00 80 00 80 00 80 00 80 00 80 00 80 00 80 00 80 00 80 00 80 00 80 00 80 00 80 00 80 00" ++
    octets "80 00 80 00 80 00 80 00 80 00 80 00 80 00 80 00 80 00 80 00 80 00 80 00 80 00 80 00 80 00 80 00" ++
    octets "80 00 80 00 80 00 80 00")
    ≡ (Some trace.HalfZeros)
row-104 = refl

-- nearly
row-105 : trace_of (octets "00 80 00 80 00 80 00 80 00 80 00 80 00 80 00 80 00 80 00 80 00 80 00 80 00 80 00 80 00 80 00 80" ++
    octets "00 80 00 80 00 80 00 80 00 80 00 80 00 80 00 80 00 80 00 80 00 80 00 80 00 80 00 80 00 80 00 80" ++
    octets "00 80 00 80 00 80 00 80 00 80 00 80 00 80 00 80 00 80 00 80 00 80 00 80 00 80 00 80 00 80 00 80" ++
    octets "00 80 00 80 00 80 00 80 00 80 00 80 00 80 00 80 00 80 00 80 00 80 00 80 00 80 00 80 00 80 00 80" ++
    octets "00 80 00 80 00 80 00 80 00 80 00 80 00 80 00 80 00 80 00 80 00 80 00 80 00 80 00 80 00 80 00 80" ++
    octets "00 80 00 80 00 80 00 80 00 80 00 80 00 80 00 80 00 80 00 80 01 80 01 80 01 80 01 80 01 80 01 80" ++
    octets "01 80 01 80 01 80 01 80")
    ≡ (Some trace.HalfZeros)
row-105 = refl

-- too few
row-106 : trace_of (octets "00 80 00 80 00 80 00 80 00 80 00 80 00 80 00 80 00 80 00 80 00 80 00 80 00 80 00 80 00 80 00 80" ++
    octets "00 80 00 80 00 80 00 80 00 80 00 80 00 80 00 80 00 80 00 80 00 80 00 80 00 80 00 80 00 80 00 80" ++
    octets "00 80 00 80 00 80 00 80 00 80 00 80 00 80 00 80 00 80 00 80 00 80 00 80 00 80 00 80 00 80 00 80" ++
    octets "00 80 00 80 00 80 00 80 00 80 00 80 00 80 00 80 00 80 00 80 00 80 00 80 00 80 00 80 00 80 00 80" ++
    octets "00 80 00 80 00 80 00 80 00 80 00 80 00 80 00 80 00 80 00 80 00 80 00 80 00 80 00 80 00 80 00 80" ++
    octets "00 80 00 80 00 80 00 80 00 80 00 80 00 80 00 80 00 80 01 80 01 80 01 80 01 80 01 80 01 80 01 80" ++
    octets "01 80 01 80 01 80 01 80")
    ≡ None
row-106 = refl

-- NULL, NULL and so on
row-107 : trace_of (octets "05 00 05 00 05 00 05 00 05 00 05 00 05 00 05 00 05 00 05 00 05 00 05 00 05 00 05 00 05 00 05 00" ++
    octets "05 00 05 00 05 00 05 00 05 00 05 00 05 00 05 00 05 00 05 00 05 00 05 00 05 00 05 00 05 00 05 00" ++
    octets "05 00 05 00 05 00 05 00 05 00 05 00 05 00 05 00 05 00 05 00 05 00 05 00 05 00 05 00 05 00 05 00" ++
    octets "05 00 05 00 05 00 05 00 05 00 05 00 05 00 05 00 05 00 05 00 05 00 05 00 05 00 05 00 05 00 05 00" ++
    octets "05 00 05 00 05 00 05 00 05 00 05 00 05 00 05 00 05 00 05 00 05 00 05 00 05 00 05 00 05 00 05 00" ++
    octets "05 00 05 00 05 00 05 00 05 00 05 00 05 00 05 00 05 00 05 00 05 00 05 00 05 00 05 00 05 00 05 00" ++
    octets "05 00 05 00 05 00 05 00")
    ≡ None
row-107 = refl

-- seven bits
row-108 : trace_of (octets "30 01" ++ replicate 126 0x05) ≡ (Some (trace.SevenBits 128))
row-108 = refl

-- too few
row-109 : trace_of (octets "30 02" ++ replicate 125 0x05) ≡ None
row-109 = refl

-- a short element
row-110 : trace_of (octets "30 03" ++ replicate 126 0x05) ≡ None
row-110 = refl

-- a primitive
row-111 : trace_of (octets "02 01" ++ replicate 126 0x05) ≡ None
row-111 = refl

-- a tenth
row-112 : trace_of (octets "30 01" ++
    replicate 113 0x05 ++
    octets "3f 3f 3f 3f 3f 3f 3f 3f 3f 3f 3f 3f 3f")
    ≡ (Some (trace.QuestionMarks 13))
row-112 = refl

-- fewer
row-113 : trace_of (octets "30 01" ++
    replicate 114 0x05 ++
    octets "3f 3f 3f 3f 3f 3f 3f 3f 3f 3f 3f 3f")
    ≡ (Some (trace.SevenBits 128))
row-113 = refl

-- Equal octets in a row around an offset.
-- from the first
row-114 : run_around (octets "01" ++ replicate 24 0x00 ++ octets "05") 1 ≡ (Some (record { start = 1; end = 25 }))
row-114 = refl

-- from the last
row-115 : run_around (octets "01" ++ replicate 24 0x00 ++ octets "05") 24 ≡ (Some (record { start = 1; end = 25 }))
row-115 = refl

-- up to the end
row-116 : run_around (octets "01" ++ replicate 24 0xff) 9 ≡ (Some (record { start = 1; end = 25 }))
row-116 = refl

-- too few
row-117 : run_around (octets "01" ++ replicate 23 0x00 ++ octets "05") 1 ≡ None
row-117 = refl

-- spaces
row-118 : run_around (replicate 30 0x20) 9 ≡ None
row-118 = refl

-- in front
row-119 : run_around (octets "01" ++ replicate 24 0x00 ++ octets "05") 0 ≡ None
row-119 = refl

-- at the end
row-120 : run_around (replicate 24 0x00) 24 ≡ None
row-120 = refl

-- What is said in front of the sentences about the fault.
-- utf8
row-121 : undoable (Some Utf8) ≡ (Some Utf8)
row-121 = refl

-- line ends
row-122 : undoable (Some LineEnds) ≡ (Some LineEnds)
row-122 = refl

-- replaced
row-123 : undoable (Some Replaced) ≡ None
row-123 = refl

-- nothing
row-124 : undoable None ≡ None
row-124 = refl

-- a trace
row-125 : replaced_before (Traced trace.HalfZeros) (octets "ef bf bd") ≡ (Some (TextChanged Replaced))
row-125 = refl

-- no such octets
row-126 : replaced_before (Traced trace.HalfZeros) (octets "ef bf") ≡ None
row-126 = refl

-- no trace
row-127 : replaced_before (OctetsMoved move.Pairs) (octets "ef bf bd") ≡ None
row-127 = refl

-- one
row-128 : lengths_in (Some (OtherLength (record { offset = 2; said = 2; would = 1 }) None))
    ≡ ((record { offset = 2; said = 2; would = 1 }) ∷ [])
row-128 = refl

-- none
row-129 : lengths_in (Some (ParsesFrom 3)) ≡ []
row-129 = refl

-- another start
row-130 : start_in (Some (ParsesFrom 3)) ≡ (Some 3)
row-130 = refl

-- none
row-131 : start_in (Some (NextRecord 3)) ≡ None
row-131 = refl

-- up to the end
row-132 : record_sentence (record { offset = 3; fault = None }) ≡ (NextRecord 3)
row-132 = refl

-- up to a fault
row-133 : record_sentence (record { offset = 3; fault = (Some 9000) }) ≡ (NextRecordUpTo 3 9000)
row-133 = refl

-- a length in front is not said to be wrong if something is known that would mend the input
-- mended
row-134 : unless_mended true (LengthInFront (element 2 2 (Definite 1) 4 (Some 5)) ∷ TryAnew ∷ []) ≡ (TryAnew ∷ [])
row-134 = refl

-- not mended
row-135 : unless_mended false (LengthInFront (element 2 2 (Definite 1) 4 (Some 5)) ∷ TryAnew ∷ [])
    ≡ (LengthInFront (element 2 2 (Definite 1) 4 (Some 5)) ∷ TryAnew ∷ [])
row-135 = refl

-- the second
row-136 : named_at 5 ((record { offset = 2; said = 2; would = 1 }) ∷ (record { offset = 5; said = 8; would = 7 }) ∷ [])
    ≡ (Some (record { offset = 5; said = 8; would = 7 }))
row-136 = refl

-- none
row-137 : named_at 0 ((record { offset = 2; said = 2; would = 1 }) ∷ (record { offset = 5; said = 8; would = 7 }) ∷ [])
    ≡ None
row-137 = refl

-- Octets that were taken for a text, and what they were.
-- line end
row-138 : with_lf_alone (octets "30 0d 0a 05") ≡ (octets "30 0a 05")
row-138 = refl

-- two returns
row-139 : with_lf_alone (octets "0d 0d 0a") ≡ (octets "0d 0a")
row-139 = refl

-- others
row-140 : with_lf_alone (octets "0a 0d 05 0d") ≡ (octets "0a 0d 05 0d")
row-140 = refl

-- characters
row-141 : latin1_of_utf8 (octets "30 c2 80 c3 bf") ≡ Some (octets "30 80 ff")
row-141 = refl

-- last
row-142 : latin1_of_utf8 (octets "c2 bf 7f") ≡ Some (octets "bf 7f")
row-142 = refl

-- a character above 255, overlong octets, an octet that is lacking, and one that no character begins with
row-143 : latin1_of_utf8 (octets "c4 80") ≡ None
row-143 = refl

-- overlong
row-144 : latin1_of_utf8 (octets "c1 bf") ≡ None
row-144 = refl

-- lacking
row-145 : latin1_of_utf8 (octets "30 c3") ≡ None
row-145 = refl

-- stray
row-146 : latin1_of_utf8 (octets "80") ≡ None
row-146 = refl

-- replacement
row-147 : has_replacement (octets "30 ef ef bf bd") ≡ true
row-147 = refl

-- part
row-148 : has_replacement (octets "ef bf be ef bf") ≡ false
row-148 = refl

-- Headers that are tried, each only once, and how many are named.
-- once
row-149 : distinct (9 ∷ 5 ∷ 9 ∷ 2 ∷ 5 ∷ 0 ∷ []) ≡ (9 ∷ 5 ∷ 2 ∷ 0 ∷ [])
row-149 = refl

row-150 : most_named true ≡ 3
row-150 = refl

row-151 : most_named false ≡ 1
row-151 = refl

-- where a window of 2^20 octets ends, if more octets follow
row-152 : window_end (octets "30 01 05") 1 ≡ None
row-152 = refl

-- Lengths that are tried, and octets that say them.
-- near
row-153 : lengths_within 3 5 ≡ (4 ∷ 2 ∷ 5 ∷ 1 ∷ 6 ∷ 0 ∷ 7 ∷ 8 ∷ [])
row-153 = refl

-- one bit
row-154 : flips 5 4 ≡ (4 ∷ 7 ∷ 1 ∷ 13 ∷ [])
row-154 = refl

-- 01 02 and 02 01
-- reverse
row-155 : reversed_lengths 3 258 ≡ (513 ∷ [])
row-155 = refl

-- five octets after the first
row-156 : reversed_lengths 6 1 ≡ (4294967296 ∷ [])
row-156 = refl

-- one octet after the first, and six
row-157 : reversed_lengths 2 5 ≡ []
row-157 = refl

row-158 : reversed_lengths 7 1 ≡ []
row-158 = refl

-- contents from the offset 5 on
-- up to the end
row-159 : ending_lengths true 5 12 ≡ (7 ∷ [])
row-159 = refl

-- no contents
row-160 : ending_lengths true 5 5 ≡ (0 ∷ [])
row-160 = refl

-- too near
row-161 : ending_lengths true 5 4 ≡ []
row-161 = refl

-- primitive
row-162 : ending_lengths false 5 12 ≡ []
row-162 = refl

-- where it should end: three open elements, one of indefinite length
-- the innermost
row-163 : reach_in (element 0 16 (Definite 98) 2 (Some 100) ∷ element 10 16 Indefinite 12 None ∷ element 20 16 (Definite 38) 22 (Some 60) ∷ []) 30 200
    ≡ 60
row-163 = refl

-- not itself
row-164 : reach_in (element 0 16 (Definite 98) 2 (Some 100) ∷ element 10 16 Indefinite 12 None ∷ element 20 16 (Definite 38) 22 (Some 60) ∷ []) 20 200
    ≡ 100
row-164 = refl

-- the input
row-165 : reach_in (element 0 16 (Definite 98) 2 (Some 100) ∷ element 10 16 Indefinite 12 None ∷ element 20 16 (Definite 38) 22 (Some 60) ∷ []) 0 200
    ≡ 200
row-165 = refl

-- not behind the input
row-166 : reach_in (element 0 16 (Definite 98) 2 (Some 100) ∷ element 10 16 Indefinite 12 None ∷ element 20 16 (Definite 38) 22 (Some 60) ∷ []) 30 50
    ≡ 50
row-166 = refl

-- of a SEQUENCE at the offset 1, in a search, wide or not, if it should end at an offset
-- the short form says no length above 127
row-167 : other_lengths (header 1 Universal true 16 (Definite 126) "30" "7e") true 100
    ≡ (127 ∷ 125 ∷ 124 ∷ 123 ∷ 122 ∷ 121 ∷ 127 ∷ 124 ∷ 122 ∷ 118 ∷ 110 ∷ 94 ∷ 62 ∷ 97 ∷ [])
row-167 = refl

-- no end of a primitive
row-168 : other_lengths (header 1 Universal false 16 (Definite 126) "30" "7e") true 100
    ≡ (127 ∷ 125 ∷ 124 ∷ 123 ∷ 122 ∷ 121 ∷ 127 ∷ 124 ∷ 122 ∷ 118 ∷ 110 ∷ 94 ∷ 62 ∷ [])
row-168 = refl

-- only those nearby
row-169 : other_lengths (header 1 Universal true 16 (Definite 126) "30" "7e") false 100
    ≡ (127 ∷ 125 ∷ 124 ∷ 123 ∷ 122 ∷ 121 ∷ [])
row-169 = refl

-- two octets say no length above 255, and may say one below 128
row-170 : other_lengths (header 1 Universal true 16 (Definite 255) "30" ("81 ff")) true 250
    ≡ (254 ∷ 253 ∷ 252 ∷ 251 ∷ 250 ∷ 254 ∷ 253 ∷ 251 ∷ 247 ∷ 239 ∷ 223 ∷ 191 ∷ 127 ∷ 246 ∷ [])
row-170 = refl

-- three octets, in reverse order too, and 256 more and less
row-171 : other_lengths (header 1 Universal true 16 (Definite 258) "30" ("82 01 02")) true 4
    ≡ (259 ∷ 257 ∷ 260 ∷ 256 ∷ 261 ∷ 255 ∷ 262 ∷ 254 ∷ 263 ∷ 253 ∷ 259 ∷ 256 ∷ 262 ∷ 266 ∷ 274 ∷ 290 ∷ 322 ∷ 386 ∷ 2 ∷ 770 ∷ 1282 ∷ 2306 ∷ 4354 ∷ 8450 ∷ 16642 ∷ 33026 ∷ 513 ∷ 514 ∷ 2 ∷ [])
row-171 = refl

-- padded
row-172 : other_lengths (header 1 Universal true 16 (Definite 0) "30" ("82 00 00")) true 50
    ≡ (1 ∷ 2 ∷ 3 ∷ 4 ∷ 5 ∷ 1 ∷ 2 ∷ 4 ∷ 8 ∷ 16 ∷ 32 ∷ 64 ∷ 128 ∷ 256 ∷ 512 ∷ 1024 ∷ 2048 ∷ 4096 ∷ 8192 ∷ 16384 ∷ 32768 ∷ 0 ∷ 256 ∷ 45 ∷ [])
row-172 = refl

-- indefinite
row-173 : other_lengths (header 1 Universal true 16 Indefinite "30" "80") true 50 ≡ []
row-173 = refl

-- octets
row-174 : length_octets_saying 258 (octets "83 00 00 09") ≡ (octets "83 00 01 02")
row-174 = refl

-- input
row-175 : input_with_length (octets "00 30 81 03 05 00") (header 1 Universal true 16 (Definite 3) "30" ("81 03")) 2
    ≡ (octets "00 30 81 02 05 00")
row-175 = refl
