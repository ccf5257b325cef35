-- Inputs with strings that are named by their offsets, and what is said of them. The third column is the element whose header
-- is at the open end.
-- `tests/make-rows` writes this file from tests/rows_of_definitions/why.rows.
use Rattle.std.proofs.Common.{◌≡◌, [], ◌∷◌, None, Some, refl}
use Rattle.std.specs.Fmt.{digits}
use Rattle.hex.specs.Hex.{encode_with}
use Rattle.tlv_head.specs.declared.header.Size.TheVariants.{Definite}
use Rattle.tlv_rows.proofs.Words.Octets.{lines, octets}
use Rattle.tlv_reasons.specs.Sentences.{sentence_text}
use Rattle.tlv_reasons.specs.Values.{first_pairs, header_closing, header_octets, header_opening, header_sentence}
use Rattle.tlv_reasons.specs.Values.{named_element, octets_between, octets_in_words, size_in_words}
use Rattle.tlv_rows.proofs.Words.Why.{element, why_inside, reasons_inside}

-- no octets
row-1 : why_inside [] [] None
    ≡ (lines ("It does not parse: fault at 0: F01 empty input." ∷ "The input is empty." ∷ "Try: look whether the program that should write it failed." ∷ []))
unfolding digits encode_with octets_in_words octets_between first_pairs named_element size_in_words header_opening header_closing header_octets header_sentence sentence_text
row-1 = refl

-- a primitive lacks an octet
row-2 : why_inside [] (octets "30 05 02 01") None
    ≡ (lines ("It does not parse: fault at 4: F02 input ends inside an encoding." ∷ "The input ends inside the INTEGER at offset 2. The header at offset 2, 02 01, says that its contents are 1 octet." ∷ "Missing there: 1 octet." ∷ "The outermost element of definite length that is not whole, the SEQUENCE at offset 0, would end at offset 7. Missing up to there: 3 octets." ∷ "Try: fetch the input anew, since the copy was cut; or, where it is whole, look for a length that is too great." ∷ []))
unfolding digits encode_with octets_in_words octets_between first_pairs named_element size_in_words header_opening header_closing header_octets header_sentence sentence_text
row-2 = refl

-- a header lacks an octet
row-3 : why_inside [] (octets "30 82 01") None
    ≡ (lines ("It does not parse: fault at 3: F02 input ends inside an encoding." ∷ "The input ends inside the header at offset 0: 30 82 01." ∷ "Try: fetch the input anew, since the copy was cut; or, where it is whole, look for a length that is too great." ∷ []))
unfolding digits encode_with octets_in_words octets_between first_pairs named_element size_in_words header_opening header_closing header_octets header_sentence sentence_text
row-3 = refl

-- a second octet 00 is lacking
row-4 : why_inside [] (octets "30 80 00") None
    ≡ (lines ("It does not parse: fault at 3: F02 input ends inside an encoding." ∷ "The input ends between the two octets 00 that end the SEQUENCE at offset 0." ∷ "Elements with an indefinite length that are not ended: 1; each needs two octets 00." ∷ "Try: fetch the input anew, since the copy was cut; or, where it is whole, look for a length that is too great." ∷ []))
unfolding digits encode_with octets_in_words octets_between first_pairs named_element size_in_words header_opening header_closing header_octets header_sentence sentence_text
row-4 = refl

-- no room for what is missing
row-5 : why_inside [] (octets "30 04 30 80 05 00") None
    ≡ (lines ("It does not parse: fault at 6: F02 input ends inside an encoding." ∷ "The input ends inside the SEQUENCE at offset 2. The header at offset 2, 30 80, says that its contents are an indefinite number of octets." ∷ "The SEQUENCE at offset 0 ends with the input, at offset 6: its length leaves no room for what is missing." ∷ "Elements with an indefinite length that are not ended: 1; each needs two octets 00." ∷ "Try: look for a length that is too small, or fetch the input anew, in binary." ∷ "Or a length in front is wrong: that of the NULL at offset 4. The header at offset 4, 05 00, says that its contents are 0 octets." ∷ []))
unfolding digits encode_with octets_in_words octets_between first_pairs named_element size_in_words header_opening header_closing header_octets header_sentence sentence_text
row-5 = refl

-- most of the input is whole encodings
row-6 : why_inside [] (octets "05 00 30 80 00 00 02 02 01") None
    ≡ (lines ("It does not parse: fault at 9: F02 input ends inside an encoding." ∷ "Whole encodings end at offset 6. Left over: 3 octets." ∷ "Try: head -c 6 FILE, for the whole encodings." ∷ "The input ends inside the INTEGER at offset 6. The header at offset 6, 02 02, says that its contents are 2 octets." ∷ "Missing there: 1 octet." ∷ "Try: fetch the input anew, since the copy was cut; or, where it is whole, look for a length that is too great." ∷ []))
unfolding digits encode_with octets_in_words octets_between first_pairs named_element size_in_words header_opening header_closing header_octets header_sentence sentence_text
row-6 = refl

-- filler follows whole encodings
row-7 : why_inside [] (octets "05 00 ff ff ff") None
    ≡ (lines ("It does not parse: fault at 5: F02 input ends inside an encoding." ∷ "Whole encodings end at offset 2. The octets after them are ff alone, as filler is: 3." ∷ "Try: head -c 2 FILE, for the whole encodings." ∷ []))
unfolding digits encode_with octets_in_words octets_between first_pairs named_element size_in_words header_opening header_closing header_octets header_sentence sentence_text
row-7 = refl

-- printable text follows whole encodings: 8 octets or more
row-8 : why_inside [] (octets "05 00 41 42 43 44 45 46 47 48") None
    ≡ (lines ("It does not parse: fault at 10: F02 input ends inside an encoding." ∷ "Whole encodings end at offset 2. The octets after them are printable text: 8." ∷ "Try: head -c 2 FILE, for the whole encodings." ∷ []))
unfolding digits encode_with octets_in_words octets_between first_pairs named_element size_in_words header_opening header_closing header_octets header_sentence sentence_text
row-8 = refl

row-9 : why_inside [] (octets "05 00 41 42 43 44 45 46 47") None
    ≡ (lines ("It does not parse: fault at 9: F02 input ends inside an encoding." ∷ "The input ends inside the [APPLICATION 1] at offset 2. The header at offset 2, 41 42, says that its contents are 66 octets." ∷ "Missing there: 61 octets." ∷ "Try: fetch the input anew, since the copy was cut; or, where it is whole, look for a length that is too great." ∷ "Or a length in front is wrong: that of the NULL at offset 0. The header at offset 0, 05 00, says that its contents are 0 octets." ∷ "Whole encodings end at offset 2. Left over: 7 octets." ∷ "Try: head -c 2 FILE, for the whole encodings." ∷ []))
unfolding digits encode_with octets_in_words octets_between first_pairs named_element size_in_words header_opening header_closing header_octets header_sentence sentence_text
row-9 = refl

-- octets 00 follow whole encodings
row-10 : why_inside [] (octets "05 00 00 00 00") None
    ≡ (lines ("It does not parse: fault at 2: F03 end-of-contents outside an indefinite element." ∷ "Whole encodings end at offset 2. Octets 00 follow: 3. Left over: 3 octets." ∷ "Try: --padding, which allows octets 00 between the encodings." ∷ "Try: head -c 2 FILE, for what stands in front of them." ∷ []))
unfolding digits encode_with octets_in_words octets_between first_pairs named_element size_in_words header_opening header_closing header_octets header_sentence sentence_text
row-10 = refl

-- an octet 00 where an element should begin
row-11 : why_inside [] (octets "30 04 05 00 00 00") None
    ≡ (lines ("It does not parse: fault at 4: F03 end-of-contents outside an indefinite element." ∷ "Inside the SEQUENCE at offset 0, which ends at offset 6, an element should begin at offset 4. There is an octet 00, with which none begins. The header at offset 0, 30 04, says that its contents are 4 octets." ∷ "Left over: 2 octets. Its length, or one in front of that offset, is wrong." ∷ "Try: fetch the input anew, in binary; or go on at the next record, with tail -c +M FILE, where M is its offset and 1." ∷ "Or a length in front is wrong: that of the NULL at offset 2. The header at offset 2, 05 00, says that its contents are 0 octets." ∷ []))
unfolding digits encode_with octets_in_words octets_between first_pairs named_element size_in_words header_opening header_closing header_octets header_sentence sentence_text
row-11 = refl

-- another octet than the second 00
row-12 : why_inside [] (octets "30 80 00 05") None
    ≡ (lines ("It does not parse: fault at 3: F04 octet 00 not followed by 00." ∷ "At offset 2 the octets 00 00 should end the SEQUENCE at offset 0, but the second is 05. The header at offset 0, 30 80, says that its contents are an indefinite number of octets." ∷ "Try: fetch the input anew, in binary; or go on at the next record, with tail -c +M FILE, where M is its offset and 1." ∷ []))
unfolding digits encode_with octets_in_words octets_between first_pairs named_element size_in_words header_opening header_closing header_octets header_sentence sentence_text
row-12 = refl

-- an element is not ended
row-13 : why_inside [] (octets "30 05 a1 80 02 01 05 00") None
    ≡ (lines ("It does not parse: fault at 7: F05 no end-of-contents inside the enclosing length." ∷ "The [1] at offset 2 is not ended where the SEQUENCE at offset 0 ends, at offset 7. Missing there: 2 octets, 00 00. The header at offset 2, a1 80, says that its contents are an indefinite number of octets. The header at offset 0, 30 05, says that its contents are 5 octets." ∷ "Try: fetch the input anew, in binary; or go on at the next record, with tail -c +M FILE, where M is its offset and 1." ∷ "Or a length in front is wrong: that of the INTEGER at offset 4. The header at offset 4, 02 01, says that its contents are 1 octet." ∷ []))
unfolding digits encode_with octets_in_words octets_between first_pairs named_element size_in_words header_opening header_closing header_octets header_sentence sentence_text
row-13 = refl

-- a reserved length octet
row-14 : why_inside [] (octets "04 ff") None
    ≡ (lines ("It does not parse: fault at 1: F07 length octet ff is reserved." ∷ "The header at offset 0 has the first length octet ff, which X.690 reserves: 04 ff." ∷ "No encoding begins so. Try: file FILE, which knows files of other kinds." ∷ []))
unfolding digits encode_with octets_in_words octets_between first_pairs named_element size_in_words header_opening header_closing header_octets header_sentence sentence_text
row-14 = refl

-- a primitive with the indefinite length
row-15 : why_inside [] (octets "30 02 04 80") None
    ≡ (lines ("It does not parse: fault at 3: F08 indefinite length of a primitive." ∷ "The header at offset 2 is that of a primitive, which cannot have the indefinite length: 04 80." ∷ "Try: look at the element that ends at offset 2, or begins there: its length may be wrong; or fetch the input anew, in binary." ∷ "Or a length in front is wrong: that of the SEQUENCE at offset 0. The header at offset 0, 30 02, says that its contents are 2 octets." ∷ []))
unfolding digits encode_with octets_in_words octets_between first_pairs named_element size_in_words header_opening header_closing header_octets header_sentence sentence_text
row-15 = refl

-- an element runs past the end of another
row-16 : why_inside [] (octets "30 03 02 02 01") (Some (element 2 2 (Definite 2) 4 (Some 6)))
    ≡ (lines ("It does not parse: fault at 3: F11 element runs past the enclosing length." ∷ "The octet at offset 3 completes the header of the INTEGER at offset 2. The header at offset 2, 02 02, says that its contents are 2 octets." ∷ "It would end at offset 6, but the SEQUENCE at offset 0 ends at offset 5. Missing there: 1 octet. The header at offset 0, 30 03, says that its contents are 3 octets." ∷ "One of the two lengths is wrong, or octets between them are missing or were put in." ∷ "Try: fetch the input anew, in binary; or go on at the next record, with tail -c +M FILE, where M is its offset and 1." ∷ []))
unfolding digits encode_with octets_in_words octets_between first_pairs named_element size_in_words header_opening header_closing header_octets header_sentence sentence_text
row-16 = refl

-- a header runs past the end of an element
row-17 : why_inside [] (octets "30 02 30 82 01 01") None
    ≡ (lines ("It does not parse: fault at 4: F11 element runs past the enclosing length." ∷ "The header at offset 2 runs past the end of the SEQUENCE at offset 0, which ends at offset 4. The header at offset 0, 30 02, says that its contents are 2 octets." ∷ "Left over: 2 octets, 30 82." ∷ "One of the two lengths is wrong, or octets between them are missing or were put in." ∷ "Try: fetch the input anew, in binary; or go on at the next record, with tail -c +M FILE, where M is its offset and 1." ∷ []))
unfolding digits encode_with octets_in_words octets_between first_pairs named_element size_in_words header_opening header_closing header_octets header_sentence sentence_text
row-17 = refl

-- an element runs past the end of the string that it is in
row-18 : why_inside (0 ∷ []) (octets "04 03 30 05 00") (Some (element 2 16 (Definite 5) 4 (Some 9)))
    ≡ (lines ("It does not parse: fault at 3: F11 element runs past the enclosing length." ∷ "The octet at offset 3 completes the header of the SEQUENCE at offset 2. The header at offset 2, 30 05, says that its contents are 5 octets." ∷ "It would end at offset 9, but the OCTET STRING at offset 0 ends at offset 5. Missing there: 4 octets. The header at offset 0, 04 03, says that its contents are 3 octets." ∷ "One of the two lengths is wrong, or octets between them are missing or were put in." ∷ "Try: fetch the input anew, in binary; or go on at the next record, with tail -c +M FILE, where M is its offset and 1." ∷ []))
unfolding digits encode_with octets_in_words octets_between first_pairs named_element size_in_words header_opening header_closing header_octets header_sentence sentence_text
row-18 = refl

-- the length that is wrong is inside of the string, which has an element in front of it
row-19 : why_inside (4 ∷ []) (octets "30 09 05 00 04 05 30 03 02 02 01") (Some (element 8 2 (Definite 2) 10 (Some 12)))
    ≡ (lines ("It does not parse: fault at 9: F11 element runs past the enclosing length." ∷ "The octet at offset 9 completes the header of the INTEGER at offset 8. The header at offset 8, 02 02, says that its contents are 2 octets." ∷ "It would end at offset 12, but the SEQUENCE at offset 6 ends at offset 11. Missing there: 1 octet. The header at offset 6, 30 03, says that its contents are 3 octets." ∷ "One of the two lengths is wrong, or octets between them are missing or were put in." ∷ "Try: fetch the input anew, in binary; or go on at the next record, with tail -c +M FILE, where M is its offset and 1." ∷ []))
unfolding digits encode_with octets_in_words octets_between first_pairs named_element size_in_words header_opening header_closing header_octets header_sentence sentence_text
row-19 = refl

-- an octet 00 in a string
row-20 : why_inside (0 ∷ []) (octets "04 04 05 00 00 00") None
    ≡ (lines ("It does not parse: fault at 4: F03 end-of-contents outside an indefinite element." ∷ "Inside the OCTET STRING at offset 0, which ends at offset 6, an element should begin at offset 4. There is an octet 00, with which none begins. The header at offset 0, 04 04, says that its contents are 4 octets." ∷ "Left over: 2 octets. Its length, or one in front of that offset, is wrong." ∷ "Try: fetch the input anew, in binary; or go on at the next record, with tail -c +M FILE, where M is its offset and 1." ∷ "Or a length in front is wrong: that of the NULL at offset 2. The header at offset 2, 05 00, says that its contents are 0 octets." ∷ []))
unfolding digits encode_with octets_in_words octets_between first_pairs named_element size_in_words header_opening header_closing header_octets header_sentence sentence_text
row-20 = refl

-- a string holds no encodings
row-21 : why_inside (0 ∷ []) (octets "03 02 05 00") None
    ≡ (lines ("It does not parse: fault at 2: F12 first octet of a wrapped BIT STRING is not 00." ∷ []))
unfolding digits encode_with octets_in_words octets_between first_pairs named_element size_in_words header_opening header_closing header_octets header_sentence sentence_text
row-21 = refl

-- the header of a string alone is there
row-22 : why_inside (0 ∷ []) (octets "03 04") None
    ≡ (lines ("It does not parse: fault at 2: F02 input ends inside an encoding." ∷ "The input ends inside the header at offset 0: 03 04." ∷ "Try: fetch the input anew, since the copy was cut; or, where it is whole, look for a length that is too great." ∷ []))
unfolding digits encode_with octets_in_words octets_between first_pairs named_element size_in_words header_opening header_closing header_octets header_sentence sentence_text
row-22 = refl

-- what a string holds parses
row-23 : why_inside (0 ∷ []) (octets "04 02 05 00") None
    ≡ (lines ("It parses: 4 octets, which are whole encodings." ∷ []))
unfolding digits encode_with octets_in_words octets_between first_pairs named_element size_in_words header_opening header_closing header_octets header_sentence sentence_text
row-23 = refl

-- the same without the first line
-- reasons
row-24 : reasons_inside (2 ∷ []) (octets "30 05 03 03 00 04 80") None
    ≡ (lines ("The header at offset 5 is that of a primitive, which cannot have the indefinite length: 04 80." ∷ "Try: look at the element that ends at offset 5, or begins there: its length may be wrong; or fetch the input anew, in binary." ∷ "Or a length in front is wrong: that of the BIT STRING at offset 2. The header at offset 2, 03 03, says that its contents are 3 octets." ∷ []))
unfolding digits encode_with octets_in_words octets_between first_pairs named_element size_in_words header_opening header_closing header_octets header_sentence sentence_text
row-24 = refl

-- no reasons
row-25 : reasons_inside (0 ∷ []) (octets "04 02 05 00") None ≡ (lines [])
unfolding digits encode_with octets_in_words octets_between first_pairs named_element size_in_words header_opening header_closing header_octets header_sentence sentence_text
row-25 = refl
