-- The words of the sentences. Each ends with a line feed.
use Rattle.std.specs.Prelude.{ℕ, ◌-◌, Bool, true, false, eqb, if◌then◌else◌, List, [], ◌∷◌, ◌++◌, codes, flat_map}
use Rattle.tlv_head.specs.declared.fault.FaultCode.{FaultCode}
use Rattle.tlv_head.specs.declared.fault.FaultCode.TheVariants.{IndefinitePrimitive, LengthTooLarge, ReservedLength}
use Rattle.tlv_head.specs.declared.fault.FaultCode.TheVariants.{TagTooLong}
use Rattle.tlv_reasons.specs.declared.chains.Chain.{Chain}
use Rattle.tlv_reasons.specs.declared.kinds.FileKind.{FileKind}
use Rattle.tlv_reasons.specs.declared.kinds.FileKind.TheVariants as kind
use Rattle.tlv_reasons.specs.declared.moves.Move.{Move}
use Rattle.tlv_reasons.specs.declared.moves.Move.TheVariants as move
use Rattle.tlv_reasons.specs.declared.octet_changes.OctetChange.TheVariants.{Missing, PutIn}
use Rattle.tlv_reasons.specs.declared.sentence.Sentence.{Sentence}
use Rattle.tlv_reasons.specs.declared.sentence.Sentence.TheVariants as say
use Rattle.tlv_reasons.specs.declared.text_changes.TextChange.{TextChange}
use Rattle.tlv_reasons.specs.declared.text_changes.TextChange.TheVariants.{LineEnds, Replaced, Utf8}
use Rattle.tlv_reasons.specs.declared.traces.Trace.{Trace}
use Rattle.tlv_reasons.specs.declared.traces.Trace.TheVariants as trace
use Rattle.tlv_reasons.specs.declared.value.Value.{Value}
use Rattle.tlv_reasons.specs.declared.value.Value.TheVariants.{Broken, Code, Header, LackingZeros, Message, Name, Number}
use Rattle.tlv_reasons.specs.declared.value.Value.TheVariants.{All, Octets, Offsets, Pairs}
use Rattle.tlv_reasons.specs.Elements.{offset_sum}
use Rattle.tlv_reasons.specs.OpenHolders.{element_end}
use Rattle.tlv_reasons.specs.Values.{value_text}

-- the words about a header that is refused with this code: F06 to F09
abbrev pub refused_header_words : FaultCode → List ℕ
refused_header_words TagTooLong = codes "The header at offset % has more than nine octets of tag number:%.\n"
refused_header_words ReservedLength =
    codes "The header at offset % has the first length octet ff, which X.690 reserves:%.\n"
refused_header_words IndefinitePrimitive =
    codes "The header at offset % is that of a primitive, which cannot have the indefinite length:%.\n"
refused_header_words LengthTooLarge = codes "The header at offset % announces a length of 2^40 or more:%.\n"
refused_header_words code = codes "The header at offset %:%.\n"

-- the words about what was done to an input as if it were a text
abbrev pub text_change_words : TextChange → List ℕ
text_change_words Utf8 =
    codes "It was taken for a text in Latin-1 and written in UTF-8. "
    ++ codes "Try: fetch it anew, in binary, or: iconv -f UTF-8 -t ISO-8859-1 FILE | tlvdump-show\n"
text_change_words LineEnds =
    codes "It was taken for a text: octets 0d were put in front of 0a. Try: fetch it anew, in binary.\n"
text_change_words Replaced =
    codes "It has the octets ef bf bd, with which programs replace what is no UTF-8: it was copied as a text. "
    ++ codes "Try: fetch it anew, in binary.\n"

-- the words about other lengths of elements inside one another: whether they would be greater, and whether it is one
abbrev pub chain_words_by : Bool → Bool → List ℕ
chain_words_by true true =
    codes "If the length at % were % more, all would parse: % may have been put in there, and it was not raised.\n"
chain_words_by true false =
    codes "If each of the lengths at % were % more, all would parse: % may have been put in there, "
    ++ codes "and they were not raised.\n"
chain_words_by false true =
    codes "If the length at % were % less, all would parse: % may have been lost there, and it was not lowered.\n"
chain_words_by false false =
    codes "If each of the lengths at % were % less, all would parse: % may have been lost there, "
    ++ codes "and they were not lowered.\n"

abbrev pub chain_words : Chain → List ℕ
chain_words c = chain_words_by c.is_greater (eqb c.count 1)

-- the words about what shows that an input was taken for a text, and the values in them
abbrev pub trace_words : Trace → List ℕ × List Value
trace_words (trace.AsUtf8 count) = (
  codes "It is UTF-8 throughout, with characters beyond ASCII: %. It was taken for a text. "
      ++ codes "Try: fetch it anew, in binary.\n",
  Number count ∷ [],
)
trace_words (trace.LineEnds count) = (
  codes "Each of its octets 0a stands behind 0d: %. It was taken for a text. Try: fetch it anew, in binary.\n",
  Number count ∷ [],
)
trace_words (trace.SevenBits count) = (
  codes "None of its octets is above 7f: %. It was taken for a text, or the highest bits were cleared. "
      ++ codes "Try: fetch it anew, in binary.\n",
  Number count ∷ [],
)
trace_words (trace.QuestionMarks count) = (
  codes "None of its octets is above 7f, and many are the character ?: %. It was taken for a text. "
      ++ codes "Try: fetch it anew, in binary.\n",
  Number count ∷ [],
)
trace_words trace.HalfZeros = (
  codes "Nearly every second of its octets is 00. It was taken for a text and written in UTF-16. "
      ++ codes "Try: fetch it anew, in binary.\n",
  [],
)

-- the words about what was done to all octets of an input
abbrev pub move_words : Move → List ℕ
move_words move.Pairs =
    codes "Its octets stand in reverse order in pairs: if each pair were turned round, all would parse. "
    ++ codes "Try: dd conv=swab status=none <FILE | tlvdump-show\n"
move_words move.Fours =
    codes "Its octets stand in reverse order in fours: if each four were turned round, all would parse. "
    ++ codes "Try: fetch it anew, in binary.\n"
move_words move.Reversed =
    codes "Its octets stand in reverse order: read from the last to the first, all would parse. "
    ++ codes "Try: fetch it anew, in binary.\n"
move_words move.Inverted =
    codes "Its bits are inverted: if each were turned round, all would parse. Try: fetch it anew, in binary.\n"

-- the words about another kind of file
abbrev pub file_kind_words : FileKind → List ℕ
file_kind_words kind.Zip = codes "It begins as a ZIP file does: unpack it first.\n"
file_kind_words kind.Gzip = codes "It begins as a file of gzip does. Try: gzip -dc FILE | tlvdump-show\n"
file_kind_words kind.Bzip2 = codes "It begins as a file of bzip2 does. Try: bzip2 -dc FILE | tlvdump-show\n"
file_kind_words kind.Pdf = codes "It begins as a PDF file does.\n"
file_kind_words kind.Markup = codes "It begins with the character <, as XML and HTML do.\n"
file_kind_words kind.OpenSsh = codes "It is a key of OpenSSH, which is no encoding by X.690.\n"
file_kind_words kind.Utf16 =
    codes "It begins as text in UTF-16 does. Try: iconv -f UTF-16 -t UTF-8 FILE | tlvdump-show\n"
file_kind_words kind.Capture =
    codes "It begins as a capture of packets (pcap) does: export the octets of a packet first.\n"
file_kind_words kind.KeyStore =
    codes "It begins as a key store of Java (JKS) does: export what you need first.\n"
file_kind_words kind.Http =
    codes "It begins with the header of an answer of HTTP. Try: sed '1,/^.$/d' FILE | tlvdump-show\n"
file_kind_words kind.ByteOrderMark =
    codes "It begins with the byte order mark of a text in UTF-8. Try: tail -c +4 FILE | tlvdump-show\n"
file_kind_words kind.Chunks =
    codes "It begins with a chunk of HTTP and its size. Try: fetch it anew with a program that joins the chunks, "
    ++ codes "as curl does.\n"

-- the words of a sentence, with % for each value, and the values
abbrev pub words_of : Sentence → List ℕ × List Value
words_of (say.Parses size) = (codes "It parses: %, which are whole encodings.\n", Octets size ∷ [])
words_of (say.ManyKinds k) = (
  codes "It has % outermost elements, which begin with % different octets. Primitive: %. "
      ++ codes "Octets that are no encodings may parse so by chance.\n",
  Number k.elements ∷ Number k.kinds ∷ Number k.primitives ∷ [],
)
words_of (say.DoesNotParse fault) =
    (codes "It does not parse: fault at %: % %.\n", Number fault.offset ∷ Code fault ∷ Message fault ∷ [])
words_of (say.Breaks x) = (codes "The %.\n", Broken x ∷ [])
words_of (say.LeftOver end left) =
    (codes "Whole encodings end at offset %. Left over: %.\n", Number end ∷ Octets left ∷ [])
words_of (say.BlanksFollow end left) = (
  codes "Whole encodings end at offset %. The octets after them are line ends or spaces: %.\n",
  Number end ∷ Number left ∷ [],
)
words_of (say.FillerFollows end left) = (
  codes "Whole encodings end at offset %. The octets after them are% alone, as filler is: %.\n",
  Number end ∷ Pairs end (offset_sum end 1) ∷ Number left ∷ [],
)
words_of (say.TextFollows end left) = (
  codes "Whole encodings end at offset %. The octets after them are printable text: %.\n",
  Number end ∷ Number left ∷ [],
)
words_of (say.TryWhole end) = (codes "Try: head -c % FILE, for the whole encodings.\n", Number end ∷ [])
-- F01
words_of say.NoOctets = (codes "The input is empty.\n", [])
words_of (say.ZerosAlone size) = (codes "The input has octets 00 alone: %.\n", Number size ∷ [])
words_of say.TryWriter = (codes "Try: look whether the program that should write it failed.\n", [])
-- F02
words_of (say.EndsInHeader offset end) =
    (codes "The input ends inside the header at offset %:%.\n", Number offset ∷ Pairs offset end ∷ [])
words_of (say.EndsInPrimitive e) = (codes "The input ends inside the %. %\n", Name e ∷ Header e ∷ [])
words_of (say.MissingThere count) = (codes "Missing there: %.\n", Octets count ∷ [])
words_of (say.EndsBetweenZeros e) =
    (codes "The input ends between the two octets 00 that end the %.\n", Name e ∷ [])
words_of (say.EndsInHolder e) = (codes "The input ends inside the %. %\n", Name e ∷ Header e ∷ [])
words_of (say.EndsWithInput e) = (
  codes "The % ends with the input, at offset %: its length leaves no room for what is missing.\n",
  Name e ∷ Number (element_end e) ∷ [],
)
words_of (say.EndsBehindInput e end) = (
  codes "The outermost element of definite length that is not whole, the %, would end at offset %. "
      ++ codes "Missing up to there: %.\n",
  Name e ∷ Number (element_end e) ∷ Octets (element_end e - end) ∷ [],
)
words_of (say.NotEnded count) =
    (codes "Elements with an indefinite length that are not ended: %; each needs two octets 00.\n", Number count ∷ [])
words_of say.TryGreater =
    (codes "Try: look for a length that is too small, or fetch the input anew, in binary.\n", [])
words_of say.TryWholeCopy = (
  codes "Try: fetch the input anew, since the copy was cut; or, where it is whole, "
      ++ codes "look for a length that is too great.\n",
  [],
)
-- F03
words_of (say.BeginsWithZeros zeros) =
    (codes "The input begins with octets 00: %. No element begins with such an octet.\n", Number zeros ∷ [])
words_of (say.ZerosFollow end zeros left) = (
  codes "Whole encodings end at offset %. Octets 00 follow: %. Left over: %.\n",
  Number end ∷ Number zeros ∷ Octets left ∷ [],
)
words_of say.TryPadding = (codes "Try: --padding, which allows octets 00 between the encodings.\n", [])
words_of (say.TryFront offset) =
    (codes "Try: head -c % FILE, for what stands in front of them.\n", Number offset ∷ [])
words_of (say.ZeroInside e offset) = (
  codes "Inside the %, which ends at offset %, an element should begin at offset %. "
      ++ codes "There is an octet 00, with which none begins. %\n",
  Name e ∷ Number (element_end e) ∷ Number offset ∷ Header e ∷ [],
)
words_of (say.LeftInside left) =
    (codes "Left over: %. Its length, or one in front of that offset, is wrong.\n", Octets left ∷ [])
-- F04
words_of (say.NoSecondZero e offset) = (
  codes "At offset % the octets 00 00 should end the %, but the second is%. %\n",
  Number (offset - 1) ∷ Name e ∷ Pairs offset (offset_sum offset 1) ∷ Header e ∷ [],
)
-- F05
words_of (say.EndMissing e holder unfinished) = (
  codes "The % is not ended where the % ends, at offset %. Missing there: %. % %\n",
  Name e ∷ Name holder ∷ Number (element_end holder) ∷ LackingZeros unfinished ∷ Header e ∷ Header holder ∷ [],
)
-- F06 to F09
words_of (say.RefusedHeader code offset refused) =
    (refused_header_words code, Number offset ∷ Pairs offset (offset_sum refused 1) ∷ [])
words_of say.NoEncoding =
    (codes "No encoding begins so. Try: file FILE, which knows files of other kinds.\n", [])
words_of (say.TryLook offset) = (
  codes "Try: look at the element that ends at offset %, or begins there: its length may be wrong; "
      ++ codes "or fetch the input anew, in binary.\n",
  Number offset ∷ [],
)
-- F10
words_of (say.TooDeep offset) =
    (codes "At offset % element 129 would be open. The program holds 128.\n", Number offset ∷ [])
words_of say.TryDeeper =
    (codes "Try: tail -c +M FILE, where M is 1 and the offset of an element some levels deep.\n", [])
-- F11
words_of (say.HeaderPast offset holder) = (
  codes "The header at offset % runs past the end of the %, which ends at offset %. %\n",
  Number offset ∷ Name holder ∷ Number (element_end holder) ∷ Header holder ∷ [],
)
words_of (say.LeftInHolder offset holder) =
    (codes "Left over: %,%.\n", Octets (element_end holder - offset) ∷ Pairs offset (element_end holder) ∷ [])
words_of (say.CompletesHeader offset e) =
    (codes "The octet at offset % completes the header of the %. %\n", Number offset ∷ Name e ∷ Header e ∷ [])
words_of (say.ElementPast e holder) = (
  codes "It would end at offset %, but the % ends at offset %. Missing there: %. %\n",
  Number (element_end e) ∷ Name holder ∷ Number (element_end holder)
      ∷ Octets (element_end e - element_end holder) ∷ Header holder ∷ [],
)
words_of say.OneOfTwo =
    (codes "One of the two lengths is wrong, or octets between them are missing or were put in.\n", [])
-- lengths in front
words_of say.TryAnew = (
  codes "Try: fetch the input anew, in binary; or go on at the next record, with tail -c +M FILE, "
      ++ codes "where M is its offset and 1.\n",
  [],
)
words_of (say.LengthInFront e) =
    (codes "Or a length in front is wrong: that of the %. %\n", Name e ∷ Header e ∷ [])
-- what would mend the input
words_of (say.OtherLength w end) = (
  codes "If the header at offset % said % and not %, % would parse.\n",
  Number w.offset ∷ Octets w.would ∷ Number w.said ∷ All end ∷ [],
)
words_of (say.TwoLengths v w end) = (
  codes "If the header at offset % said % and not %, or that at offset % said % and not %, % would parse.\n",
  Number v.offset ∷ Octets v.would ∷ Number v.said ∷ Number w.offset ∷ Octets w.would ∷ Number w.said ∷ All end ∷ [],
)
words_of (say.ThreeLengths v w x end) = (
  codes "If the header at offset % said % and not %, or that at offset % said % and not %, "
      ++ codes "or that at offset % said % and not %, % would parse.\n",
  Number v.offset ∷ Octets v.would ∷ Number v.said ∷ Number w.offset ∷ Octets w.would ∷ Number w.said
      ∷ Number x.offset ∷ Octets x.would ∷ Number x.said ∷ All end ∷ [],
)
words_of (say.OneOctet (Missing offset)) = (
  codes "If one octet more stood after the header at offset %, all would parse: "
      ++ codes "an octet of its contents may be missing.\n",
  Number offset ∷ [],
)
words_of (say.OneOctet (PutIn offset)) = (
  codes "If one octet fewer stood after the header at offset %, all would parse: "
      ++ codes "an octet may have been put in there.\n",
  Number offset ∷ [],
)
words_of (say.NoneLost e) = (
  codes "By its length the % ends with the input, at offset %: no octet was lost or put in.\n",
  Name e ∷ Number (element_end e) ∷ [],
)
words_of (say.SomeLost e end) = (
  codes "By its length the % ends at offset %, the input at offset %. Missing: %.\n",
  Name e ∷ Number (element_end e) ∷ Number end ∷ Octets (element_end e - end) ∷ [],
)
words_of (say.SomePutIn e end) = (
  codes "By its length the % ends at offset %, the input at offset %. Too many: %.\n",
  Name e ∷ Number (element_end e) ∷ Number end ∷ Octets (end - element_end e) ∷ [],
)
words_of (say.OtherChain c) = (chain_words c, Offsets c ∷ Number c.by ∷ Octets c.by ∷ [])
words_of (say.StandsTwice block) = (
  codes "The % from offset % on stand twice. If they stood once, all would parse.\n",
  Octets block.size ∷ Number block.offset ∷ [],
)
words_of (say.Overwritten run) = (
  codes "The octets from offset % on are% alone: %. They may stand in place of others.\n",
  Number run.start ∷ Pairs run.start (offset_sum run.start 1) ∷ Number (run.end - run.start) ∷ [],
)
words_of (say.Spaced s) = (
  codes "There are encodings from offset % on: %. Between each two of them other octets stand: %, "
      ++ codes "first% at offset %. Try: tail -c +% FILE | head -c % | tlvdump-show, for the first.\n",
  Number s.first ∷ Number s.count ∷ Octets s.gap ∷ Pairs s.end (offset_sum s.end s.gap) ∷ Number s.end
      ∷ Number (offset_sum s.first 1) ∷ Number (s.end - s.first) ∷ [],
)
words_of (say.TextChanged change) = (text_change_words change, [])
words_of (say.Traced trace) = trace_words trace
words_of (say.OctetsMoved change) = (move_words change, [])
words_of (say.OtherKind kind) = (file_kind_words kind, [])
-- other offsets: `tail` counts octets from 1
words_of (say.ParsesFrom offset) = (
  codes "From offset % on it parses: what stands in front may be a header of the file or of the record, or damaged. "
      ++ codes "Try: tail -c +% FILE | tlvdump-show\n",
  Number offset ∷ Number (offset_sum offset 1) ∷ [],
)
words_of (say.NextRecord offset) = (
  codes "From offset % on it parses: the next record may begin there. Try: tail -c +% FILE | tlvdump-show\n",
  Number offset ∷ Number (offset_sum offset 1) ∷ [],
)
words_of (say.NextRecordUpTo offset fault) = (
  codes "The next record may begin at offset %: from there on it parses up to another fault, at offset %. "
      ++ codes "Try: tail -c +% FILE | tlvdump-show\n",
  Number offset ∷ Number fault ∷ Number (offset_sum offset 1) ∷ [],
)

-- what stands for an octet of the words, if these values come next: for % the first of them
abbrev pub octet_or_value : List ℕ → ℕ → List Value → List ℕ
octet_or_value octets x [] = x ∷ []
octet_or_value octets x (v ∷ vs) = if eqb x 0x25 then value_text octets v else x ∷ []

-- the values that come then
abbrev pub values_after : ℕ → List Value → List Value
values_after x [] = []
values_after x (v ∷ vs) = if eqb x 0x25 then vs else v ∷ vs

-- the words with the values in them
abbrev pub filled : List ℕ → List ℕ → List Value → List ℕ
filled octets [] vs = []
filled octets (x ∷ words) vs = octet_or_value octets x vs ++ filled octets words (values_after x vs)

-- the text of a sentence about these octets
unfoldable pub sentence_text : List ℕ → Sentence → List ℕ
sentence_text octets s = filled octets (words_of s).0 (words_of s).1

-- the text of sentences, one after another
abbrev pub sentences_text : List ℕ → List Sentence → List ℕ
sentences_text octets sentences = flat_map (sentence_text octets) sentences
