-- Elements that are spelled in another way than the rules want, elements of SETs that are out of order, and strings whose
-- segments have characters that are not of their type: short inputs. They are written by hand, from the rules.
-- `tests/make-rows` writes this file from tests/rows_of_definitions/spellings.rows.
use Rattle.std.proofs.Common.{◌≡◌, false, true, [], ◌∷◌, ◌++◌, None, refl}
use Rattle.std.specs.Prelude.{replicate}
use Rattle.std.specs.Fmt.{digits}
use Rattle.tlv_show.specs.declared.rules.Rules.TheVariants.{Ber, Der, Cer}
use Rattle.tlv_walk.specs.Framing.{plain_framing}
use Rattle.tlv_walk.proofs.GrammarLemmas.Readings.{reading}
use Rattle.tlv_rows.proofs.Words.Octets.{framing_of, octets}
use Rattle.tlv_show.specs.Spellings.{is_misspelled}
use Rattle.tlv_show.specs.SetOrder.{out_of_order_offsets, zeros}
use Rattle.tlv_rows.proofs.Words.Checks.{check, check_all, finds}
use Rattle.tlv_show.specs.SegmentCharacters.{wrong_character_offsets}

-- Whether elements are spelled in another way than the rules want.
-- shortest length
row-1 : is_misspelled Der (reading plain_framing (octets "02 01 05")) ≡ false
row-1 = refl

-- longer length
row-2 : is_misspelled Der (reading plain_framing (octets "02 81 01 05")) ≡ true
row-2 = refl

-- longer length cer
row-3 : is_misspelled Cer (reading plain_framing (octets "02 81 01 05")) ≡ true
row-3 = refl

-- both are allowed by BER, so there the law does not hold
row-4 : is_misspelled Ber (reading plain_framing (octets "02 81 01 05")) ≡ false
row-4 = refl

-- low form
row-5 : is_misspelled Der (reading plain_framing (octets "82 01 05")) ≡ false
row-5 = refl

-- high form
row-6 : is_misspelled Der (reading plain_framing (octets "9f 02 01 05")) ≡ true
row-6 = refl

-- fewest digits
row-7 : is_misspelled Der (reading plain_framing (octets "9f 1f 00")) ≡ false
row-7 = refl

-- more digits
row-8 : is_misspelled Der (reading plain_framing (octets "9f 80 1f 00")) ≡ true
row-8 = refl

-- the first is by DER, the second by CER
row-9 : is_misspelled Der (reading plain_framing (octets "30 03 02 01 05")) ≡ false
row-9 = refl

-- definite cer
row-10 : is_misspelled Cer (reading plain_framing (octets "30 03 02 01 05")) ≡ true
row-10 = refl

-- indefinite der
row-11 : is_misspelled Der (reading plain_framing (octets "30 80 02 01 05 00 00")) ≡ true
row-11 = refl

-- indefinite cer
row-12 : is_misspelled Cer (reading plain_framing (octets "30 80 02 01 05 00 00")) ≡ false
row-12 = refl

-- the universal primitive 0 has no low form, and B01 all the same
row-13 : is_misspelled Ber (reading plain_framing (octets "1f 00 00")) ≡ true
row-13 = refl

-- the number 0 of another class, in the high form and in the low form
row-14 : is_misspelled Ber (reading plain_framing (octets "5f 00 00")) ≡ true
row-14 = refl

-- low 0
row-15 : is_misspelled Ber (reading plain_framing (octets "40 00")) ≡ false
row-15 = refl

-- the string at the offset 0 is read as encodings
-- wrapper
row-16 : is_misspelled Der (reading (framing_of (0 ∷ []) false) (octets "04 02 05 00")) ≡ false
row-16 = refl

-- longer wrapper
row-17 : is_misspelled Der (reading (framing_of (0 ∷ []) false) (octets "04 81 02 05 00")) ≡ true
row-17 = refl

-- Elements of SETs that are out of order: short inputs. The offsets are written by hand, from the rules.
-- later is smaller
row-18 : out_of_order_offsets Der None None (reading plain_framing (octets "31 06 02 01 05 02 01 03")) ≡ (5 ∷ [])
unfolding digits zeros
row-18 = refl

-- in order
row-19 : out_of_order_offsets Der None None (reading plain_framing (octets "31 06 02 01 03 02 01 05")) ≡ []
unfolding digits zeros
row-19 = refl

-- equal neighbours
row-20 : out_of_order_offsets Der None None (reading plain_framing (octets "31 06 02 01 05 02 01 05")) ≡ []
unfolding digits zeros
row-20 = refl

-- not a SET
row-21 : out_of_order_offsets Der None None (reading plain_framing (octets "30 06 02 01 05 02 01 03")) ≡ []
unfolding digits zeros
row-21 = refl

-- the later tag comes after the other, though the octets are greater too
row-22 : out_of_order_offsets Der None None (reading plain_framing (octets "31 05 04 01 00 05 00")) ≡ []
unfolding digits zeros
row-22 = refl

-- the tag 4 is before the tag 16, and 04 before 30
row-23 : out_of_order_offsets Der None None (reading plain_framing (octets "31 05 30 00 04 01 00")) ≡ (4 ∷ [])
unfolding digits zeros
row-23 = refl

-- the same under CER, where the tags are not the same
row-24 : out_of_order_offsets Cer None None (reading plain_framing (octets "31 05 30 00 04 01 00")) ≡ []
unfolding digits zeros
row-24 = refl

-- later is smaller cer
row-25 : out_of_order_offsets Cer None None (reading plain_framing (octets "31 80 02 01 05 02 01 03 00 00"))
    ≡ (5 ∷ [])
unfolding digits zeros
row-25 = refl

-- in a SET in a SET
row-26 : out_of_order_offsets Der None None (reading plain_framing (octets "31 08 31 06 02 01 05 02 01 03"))
    ≡ (7 ∷ [])
unfolding digits zeros
row-26 = refl

-- the elements differ inside
row-27 : out_of_order_offsets Der None None (reading plain_framing (octets "31 0a 30 03 02 01 05 30 03 02 01 03"))
    ≡ (7 ∷ [])
unfolding digits zeros
row-27 = refl

-- the octets that differ are the 66th
row-28 : out_of_order_offsets Der None None (reading plain_framing (octets "31 80 04 40" ++
    replicate 63 0x00 ++
    octets "05 04 40" ++
    replicate 63 0x00 ++
    octets "03 00 00"))
    ≡ []
unfolding digits zeros
row-28 = refl

-- the 64th octets differ
row-29 : out_of_order_offsets Der None None (reading plain_framing (octets "31 80 04 3e" ++
    replicate 61 0x00 ++
    octets "05 04 3e" ++
    replicate 61 0x00 ++
    octets "03 00 00"))
    ≡ (66 ∷ [])
unfolding digits zeros
row-29 = refl

-- out of order der
row-30 : check_all plain_framing Der (octets "31 06 02 01 05 02 01 03")
    ≡ finds ("5 S05 element of a SET is out of order" ∷ [])
unfolding digits zeros
row-30 = refl

-- the same by BER, and of the listed findings
row-31 : check_all plain_framing Ber (octets "31 06 02 01 05 02 01 03") ≡ finds []
unfolding digits zeros
row-31 = refl

-- out of order cer
row-32 : check_all plain_framing Cer (octets "31 80 02 01 05 02 01 03 00 00")
    ≡ finds ("5 S05 element of a SET is out of order" ∷ [])
unfolding digits zeros
row-32 = refl

-- in the order of the codes
row-33 : check_all plain_framing Cer (octets "31 80 24 80 04 01 05 00 00 24 80 04 01 03 00 00 00 00")
    ≡ finds ("2 C05 constructed string fits in 1000 octets" ∷ "9 S05 element of a SET is out of order" ∷ "9 C05 constructed string fits in 1000 octets" ∷ [])
unfolding digits zeros
row-33 = refl

-- found with the end of the later element
row-34 : check_all plain_framing Der (octets "31 0a 30 03 02 01 05 30 03 02 01 03")
    ≡ finds ("7 S05 element of a SET is out of order" ∷ [])
unfolding digits zeros
row-34 = refl

-- out of order listed
row-35 : check plain_framing Der (octets "31 06 02 01 05 02 01 03") ≡ finds []
unfolding digits zeros
row-35 = refl

-- Strings whose segments have characters that are not of their type: short inputs. The offsets are written by hand, from
-- the rules.
-- not printable
row-36 : wrong_character_offsets (reading plain_framing (octets "33 03 04 01 5f")) ≡ (0 ∷ [])
row-36 = refl

-- printable
row-37 : wrong_character_offsets (reading plain_framing (octets "33 03 04 01 5a")) ≡ []
row-37 = refl

-- not numeric
row-38 : wrong_character_offsets (reading plain_framing (octets "32 03 04 01 41")) ≡ (0 ∷ [])
row-38 = refl

-- numeric
row-39 : wrong_character_offsets (reading plain_framing (octets "32 05 04 03 31 20 32")) ≡ []
row-39 = refl

-- not ia5
row-40 : wrong_character_offsets (reading plain_framing (octets "36 03 04 01 80")) ≡ (0 ∷ [])
row-40 = refl

-- ia5
row-41 : wrong_character_offsets (reading plain_framing (octets "36 03 04 01 7f")) ≡ []
row-41 = refl

-- not visible
row-42 : wrong_character_offsets (reading plain_framing (octets "3a 03 04 01 1f")) ≡ (0 ∷ [])
row-42 = refl

-- visible
row-43 : wrong_character_offsets (reading plain_framing (octets "3a 03 04 01 20")) ≡ []
row-43 = refl

-- indefinite
row-44 : wrong_character_offsets (reading plain_framing (octets "33 80 04 01 5f 00 00")) ≡ (0 ∷ [])
row-44 = refl

-- once for a string
row-45 : wrong_character_offsets (reading plain_framing (octets "33 09 04 01 5a 04 01 5f 04 01 5f")) ≡ (0 ∷ [])
row-45 = refl

-- the tag of the segment does not matter
row-46 : wrong_character_offsets (reading plain_framing (octets "33 03 02 01 5f")) ≡ (0 ∷ [])
row-46 = refl

-- a segment in a constructed segment
row-47 : wrong_character_offsets (reading plain_framing (octets "33 05 24 03 04 01 5f")) ≡ []
row-47 = refl

-- the inner string alone
row-48 : wrong_character_offsets (reading plain_framing (octets "33 05 33 03 04 01 5f")) ≡ (2 ∷ [])
row-48 = refl

-- after inner segment
row-49 : wrong_character_offsets (reading plain_framing (octets "33 08 24 03 04 01 5a 04 01 5f")) ≡ (0 ∷ [])
row-49 = refl

-- no segment
row-50 : wrong_character_offsets (reading plain_framing (octets "33 00")) ≡ []
row-50 = refl

-- a primitive string has no segments
row-51 : wrong_character_offsets (reading plain_framing (octets "13 01 5f")) ≡ []
row-51 = refl

-- a TeletexString
row-52 : wrong_character_offsets (reading plain_framing (octets "34 03 04 01 5f")) ≡ []
row-52 = refl

-- the tag [APPLICATION 19]
row-53 : wrong_character_offsets (reading plain_framing (octets "73 03 04 01 5f")) ≡ []
row-53 = refl

-- octets are missing
row-54 : wrong_character_offsets (reading plain_framing (octets "33 06 04 01 5f")) ≡ []
row-54 = refl

-- the string at the offset 2 is read as encodings
-- a string that holds an encoding; IA5String has all its contents octets
row-55 : wrong_character_offsets (reading (framing_of (2 ∷ []) false) (octets "36 05 04 03 04 01 41")) ≡ []
row-55 = refl

-- the header 04 01 in the string that holds an encoding
row-56 : wrong_character_offsets (reading (framing_of (2 ∷ []) false) (octets "33 05 04 03 04 01 41")) ≡ (0 ∷ [])
row-56 = refl

-- wrapping bit string
row-57 : wrong_character_offsets (reading (framing_of (2 ∷ []) false) (octets "36 06 03 04 00 04 01 41")) ≡ []
row-57 = refl

-- 00, before the element in a BIT STRING
row-58 : wrong_character_offsets (reading (framing_of (2 ∷ []) false) (octets "3a 06 03 04 00 41 01 41")) ≡ (0 ∷ [])
row-58 = refl

-- the inner string in a string that holds encodings
row-59 : wrong_character_offsets (reading (framing_of (2 ∷ []) false) (octets "36 07 04 05 33 03 04 01 5f"))
    ≡ (4 ∷ [])
row-59 = refl

-- both
row-60 : wrong_character_offsets (reading (framing_of (2 ∷ []) false) (octets "36 07 04 05 36 03 04 01 80"))
    ≡ (4 ∷ 0 ∷ [])
row-60 = refl

-- listed ber
row-61 : check_all plain_framing Ber (octets "33 03 04 01 5f")
    ≡ finds ("0 B28 segments have characters not of the type" ∷ [])
unfolding digits zeros
row-61 = refl

-- the same by DER
row-62 : check_all plain_framing Der (octets "33 03 04 01 5f")
    ≡ finds ("0 D02 constructed string" ∷ "0 B28 segments have characters not of the type" ∷ [])
unfolding digits zeros
row-62 = refl

-- listed cer
row-63 : check_all plain_framing Cer (octets "33 80 04 01 5f 00 00")
    ≡ finds ("0 B28 segments have characters not of the type" ∷ "0 C05 constructed string fits in 1000 octets" ∷ [])
unfolding digits zeros
row-63 = refl

-- B28 comes before S05, and S05 before C05
row-64 : check_all plain_framing Cer (octets "31 80 33 80 04 01 60 00 00 33 80 04 01 5f 00 00 00 00")
    ≡ finds ("2 B28 segments have characters not of the type" ∷ "2 C05 constructed string fits in 1000 octets" ∷ "9 B28 segments have characters not of the type" ∷ "9 S05 element of a SET is out of order" ∷ "9 C05 constructed string fits in 1000 octets" ∷ [])
unfolding digits zeros
row-64 = refl

-- the same of the listed findings
row-65 : check plain_framing Der (octets "33 03 04 01 5f") ≡ finds ("0 D02 constructed string" ∷ [])
unfolding digits zeros
row-65 = refl
