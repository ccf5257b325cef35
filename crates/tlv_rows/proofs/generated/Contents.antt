-- What short contents say, the findings on them, and how they are shown.
-- `tests/make-rows` writes this file from tests/rows_of_definitions/contents.rows.
use Rattle.std.proofs.Common.{◌≡◌, false, true, [], ◌∷◌, ◌++◌, None, Some, codes, refl}
use Rattle.std.specs.Prelude.{map, negsuc, pos, replicate}
use Rattle.std.specs.Fmt.{digits}
use Rattle.hex.specs.Hex.{encode_with}
use Rattle.tlv_head.specs.declared.header.Class.TheVariants.{Universal, Context}
use Rattle.tlv_head.specs.declared.header.Size.TheVariants.{Definite}
use Rattle.tlv_rows.proofs.Words.Octets.{lines, octets}
use Rattle.tlv_head.specs.UniversalTypes as universal
use Rattle.tlv_head.specs.declared.type_table.Rule.TheVariants as rules
use Rattle.tlv_head.specs.declared.kind.Kind.TheVariants.{Integer, Octets, Text, Utf8}
use Rattle.tlv_head.specs.Kind.{kind_of}
use Rattle.tlv_value.specs.AllChecks.{are_labels, all_contents_findings, type_findings}
use Rattle.tlv_value.specs.Arcs.{arcs_of, subidentifiers}
use Rattle.tlv_value.specs.Number.{decimal_of}
use Rattle.tlv_value.specs.Rows.{rows_of}
use Rattle.tlv_value.specs.Times.{canonical_generalized_time_form, canonical_utc_time_form}
use Rattle.tlv_value.specs.Times.{generalized_time_form, utc_time_form}
use Rattle.tlv_value.specs.Value.{used_digits, no_names, octets_value, on_line_text}
use Rattle.tlv_value.specs.declared.finding.Finding.TheVariants.{B08, B11, B12, B15, B18, B19, B20, B21}
use Rattle.tlv_value.specs.declared.finding.Finding.TheVariants.{B24, B25, B26, B29, S02, S03, S04, S06}
use Rattle.tlv_rows.proofs.Words.Headers.{header}
use Rattle.tlv_value.specs.Checks.{allowed_contents}
use Rattle.tlv_value.specs.Types.{types_with}
use Rattle.tlv_value.specs.ValueLines.{whole_lines}
use Rattle.tlv_value.specs.TextBeside.{incomplete_lines_with, shown_row_lines_with}
use Rattle.tlv_value.specs.TextBeside.{whole_lines_with, on_line_text_with, row_text_with}
use Rattle.tlv_rows.proofs.Words.Checks.{at_most, full}

-- What short contents say: numbers, arcs, bits, rows, times and labels.
-- enumerated kind
row-1 : kind_of Universal 10 ≡ Integer
row-1 = refl

-- tagged
row-2 : kind_of Context 2 ≡ Octets
row-2 = refl

-- minus 128
row-3 : decimal_of (octets "80") ≡ (Some (negsuc 127))
row-3 = refl

-- padded 128
row-4 : decimal_of (octets "00 80") ≡ (Some (pos 128))
row-4 = refl

-- no number
row-5 : decimal_of [] ≡ None
row-5 = refl

-- 1.2.840
row-6 : arcs_of false (subidentifiers (octets "2a 86 48")) ≡ (1 ∷ 2 ∷ 840 ∷ [])
row-6 = refl

-- 2.40
row-7 : arcs_of false (subidentifiers (octets "78")) ≡ (2 ∷ 40 ∷ [])
row-7 = refl

-- three bits
row-8 : used_digits 5 (octets "bf") ≡ (codes " 101")
row-8 = refl

-- two rows
row-9 : rows_of Octets (octets "01 02 03 04 05 06 07 08 09 0a 0b 0c 0d 0e 0f 10 11")
    ≡ (octets "01 02 03 04 05 06 07 08 09 0a 0b 0c 0d 0e 0f 10") ∷ (octets "11") ∷ []
row-9 = refl

-- kept together
row-10 : rows_of Utf8 (replicate 62 0x61 ++ octets "e2 82 ac 62") ≡ (replicate 62 0x61) ∷ (octets "e2 82 ac 62") ∷ []
row-10 = refl

-- as octets they would not be
row-11 : rows_of Text (replicate 62 0x61 ++ octets "e2 82 ac 62")
    ≡ (replicate 62 0x61 ++ octets "e2 82") ∷ (octets "ac 62") ∷ []
row-11 = refl

-- utc
row-12 : utc_time_form (octets "39 31 30 35 30 36 32 33 34 35 34 30 2b 30 30 30 30") ≡ true
row-12 = refl

-- utc not canonical
row-13 : canonical_utc_time_form (octets "39 31 30 35 30 36 32 33 34 35 34 30 2b 30 30 30 30") ≡ false
row-13 = refl

-- general
row-14 : generalized_time_form (octets "31 39 39 32 30 37 32 32 31 33") ≡ true
row-14 = refl

-- general without digits
row-15 : generalized_time_form (octets "31 39 39 32 30 37 32 32 31 33 32 31 30 30 2e 5a") ≡ false
row-15 = refl

-- general canonical
row-16 : canonical_generalized_time_form (octets "31 39 39 32 30 37 32 32 31 33 32 31 30 30 2e 33 5a") ≡ true
row-16 = refl

-- the labels of a RELATIVE-OID-IRI, and of an OID-IRI without its first octet
-- two labels
row-17 : are_labels (octets "61 2f 62") ≡ true
row-17 = refl

-- no label
row-18 : are_labels [] ≡ false
row-18 = refl

-- last label empty
row-19 : are_labels (octets "61 2f") ≡ false
row-19 = refl

-- label empty
row-20 : are_labels (octets "61 2f 2f 62") ≡ false
row-20 = refl

-- first label empty
row-21 : are_labels (octets "2f 61") ≡ false
row-21 = refl

-- The findings on contents, by the type of the element.
-- padded integer
row-22 : all_contents_findings (header 0 Universal false 2 (Definite 0) "" "") (octets "00 7f") ≡ (B08 ∷ [])
row-22 = refl

-- true of one
row-23 : all_contents_findings (header 0 Universal false 1 (Definite 0) "" "") (octets "01") ≡ (S02 ∷ [])
row-23 = refl

-- unused set
row-24 : all_contents_findings (header 0 Universal false 3 (Definite 0) "" "") (octets "05 bf") ≡ (S03 ∷ [])
row-24 = refl

-- no octet
row-25 : all_contents_findings (header 0 Universal false 3 (Definite 0) "" "") (octets "03") ≡ (B15 ∷ [])
row-25 = refl

-- padded and unfinished
row-26 : all_contents_findings (header 0 Universal false 13 (Definite 0) "" "") (octets "05 80") ≡ (B11 ∷ B12 ∷ [])
row-26 = refl

-- month 13
row-27 : all_contents_findings (header 0 Universal false 23 (Definite 0) "" "") (octets "39 31 31 33 30 36 32 33 34 35 5a")
    ≡ (B19 ∷ [])
row-27 = refl

-- without seconds
row-28 : all_contents_findings (header 0 Universal false 23 (Definite 0) "" "") (octets "39 31 30 35 30 36 32 33 34 35 5a")
    ≡ (S04 ∷ [])
row-28 = refl

-- a REAL: of no form (B20), of a form that is not canonical (S06), with the value 0 (B29), or canonical
-- plus zero
row-29 : type_findings universal.real [] ≡ []
row-29 = refl

-- minus zero
row-30 : type_findings universal.real (octets "43") ≡ []
row-30 = refl

-- plus infinity
row-31 : type_findings universal.real (octets "40") ≡ []
row-31 = refl

-- no special
row-32 : type_findings universal.real (octets "44") ≡ (B20 ∷ [])
row-32 = refl

-- two octets
row-33 : type_findings universal.real (octets "40 00") ≡ (B20 ∷ [])
row-33 = refl

-- no exponent
row-34 : type_findings universal.real (octets "80") ≡ (B20 ∷ [])
row-34 = refl

-- no mantissa
row-35 : type_findings universal.real (octets "80 00") ≡ (B20 ∷ [])
row-35 = refl

-- one
row-36 : type_findings universal.real (octets "80 00 01") ≡ []
row-36 = refl

-- even
row-37 : type_findings universal.real (octets "80 00 02") ≡ (S06 ∷ [])
row-37 = refl

-- mantissa zero
row-38 : type_findings universal.real (octets "80 00 00") ≡ (B29 ∷ S06 ∷ [])
row-38 = refl

-- leading zero
row-39 : type_findings universal.real (octets "80 00 00 01") ≡ (S06 ∷ [])
row-39 = refl

-- base 8
row-40 : type_findings universal.real (octets "90 00 01") ≡ (S06 ∷ [])
row-40 = refl

-- base 16
row-41 : type_findings universal.real (octets "a0 00 01") ≡ (S06 ∷ [])
row-41 = refl

-- reserved base
row-42 : type_findings universal.real (octets "b0 00 01") ≡ (B20 ∷ [])
row-42 = refl

-- scaled
row-43 : type_findings universal.real (octets "84 00 01") ≡ (S06 ∷ [])
row-43 = refl

-- padded exponent
row-44 : type_findings universal.real (octets "81 00 01 01") ≡ (S06 ∷ [])
row-44 = refl

-- two exponent octets
row-45 : type_findings universal.real (octets "81 01 00 01") ≡ []
row-45 = refl

-- size zero
row-46 : type_findings universal.real (octets "83 00 01") ≡ (B20 ∷ [])
row-46 = refl

-- size one
row-47 : type_findings universal.real (octets "83 01 00 01") ≡ (S06 ∷ [])
row-47 = refl

-- size four
row-48 : type_findings universal.real (octets "83 04 01 00 00 00 01") ≡ []
row-48 = refl

-- size four padded
row-49 : type_findings universal.real (octets "83 04 00 01 00 00 01") ≡ (B20 ∷ [])
row-49 = refl

-- no decimal form
row-50 : type_findings universal.real (octets "04") ≡ (B20 ∷ [])
row-50 = refl

-- nr1 empty
row-51 : type_findings universal.real (octets "01") ≡ (B20 ∷ [])
row-51 = refl

-- nr1 letter
row-52 : type_findings universal.real (octets "01 41") ≡ (B20 ∷ [])
row-52 = refl

-- nr1
row-53 : type_findings universal.real (octets "01 20 20 2d 30 35") ≡ (S06 ∷ [])
row-53 = refl

-- nr1 two signs
row-54 : type_findings universal.real (octets "01 2d 2d 35") ≡ (B20 ∷ [])
row-54 = refl

-- nr1 mark
row-55 : type_findings universal.real (octets "01 35 2e") ≡ (B20 ∷ [])
row-55 = refl

-- nr2
row-56 : type_findings universal.real (octets "02 2b 35 2c 30") ≡ (S06 ∷ [])
row-56 = refl

-- nr2 mark first
row-57 : type_findings universal.real (octets "02 2e 35") ≡ (S06 ∷ [])
row-57 = refl

-- nr2 mark last
row-58 : type_findings universal.real (octets "02 35 2e") ≡ (S06 ∷ [])
row-58 = refl

-- nr2 no digit
row-59 : type_findings universal.real (octets "02 2e") ≡ (B20 ∷ [])
row-59 = refl

-- nr2 no mark
row-60 : type_findings universal.real (octets "02 35") ≡ (B20 ∷ [])
row-60 = refl

-- nr3 no mark
row-61 : type_findings universal.real (octets "03 31 45 30") ≡ (S06 ∷ [])
row-61 = refl

-- nr3 no exponent
row-62 : type_findings universal.real (octets "03 31 2e") ≡ (B20 ∷ [])
row-62 = refl

-- nr3 no exponent digit
row-63 : type_findings universal.real (octets "03 31 2e 45 2b") ≡ (B20 ∷ [])
row-63 = refl

-- nr3 canonical
row-64 : type_findings universal.real (octets "03 2d 31 30 35 2e 45 2b 30") ≡ []
row-64 = refl

-- nr3 negative exponent
row-65 : type_findings universal.real (octets "03 31 2e 45 2d 31 30") ≡ []
row-65 = refl

-- nr3 zero exponent
row-66 : type_findings universal.real (octets "03 31 2e 45 30") ≡ (S06 ∷ [])
row-66 = refl

-- nr3 minus zero exponent
row-67 : type_findings universal.real (octets "03 31 2e 45 2d 30") ≡ (S06 ∷ [])
row-67 = refl

-- nr3 small letter
row-68 : type_findings universal.real (octets "03 31 2e 65 2b 30") ≡ (S06 ∷ [])
row-68 = refl

-- nr3 comma
row-69 : type_findings universal.real (octets "03 31 2c 45 2b 30") ≡ (S06 ∷ [])
row-69 = refl

-- nr3 last zero
row-70 : type_findings universal.real (octets "03 31 30 2e 45 2b 30") ≡ (S06 ∷ [])
row-70 = refl

-- nr3 first zero
row-71 : type_findings universal.real (octets "03 30 31 2e 45 2b 30") ≡ (S06 ∷ [])
row-71 = refl

-- nr3 space
row-72 : type_findings universal.real (octets "03 20 31 2e 45 2b 30") ≡ (S06 ∷ [])
row-72 = refl

-- nr3 plus
row-73 : type_findings universal.real (octets "03 31 2e 45 2b 35") ≡ (S06 ∷ [])
row-73 = refl

-- nr1 zero
row-74 : type_findings universal.real (octets "01 2d 30 30") ≡ (B29 ∷ S06 ∷ [])
row-74 = refl

-- nr2 zero
row-75 : type_findings universal.real (octets "02 30 2c 30") ≡ (B29 ∷ S06 ∷ [])
row-75 = refl

-- nr3 zero
row-76 : type_findings universal.real (octets "03 30 2e 45 35") ≡ (B29 ∷ S06 ∷ [])
row-76 = refl

-- nr2 not zero
row-77 : type_findings universal.real (octets "02 30 2e 31 30") ≡ (S06 ∷ [])
row-77 = refl

-- long mantissa zero
row-78 : type_findings universal.real (octets "c0 05 00 00") ≡ (B29 ∷ S06 ∷ [])
row-78 = refl

-- dates, times, relative identifiers and wide strings; the type 33 is that of a DATE-TIME
-- seven digits
row-79 : type_findings universal.date (octets "32 30 32 30 30 31 30") ≡ (B21 ∷ [])
row-79 = refl

-- no 29
row-80 : type_findings universal.date (octets "32 30 32 33 30 32 32 39") ≡ (B21 ∷ [])
row-80 = refl

-- year 1900
row-81 : type_findings universal.date (octets "31 39 30 30 30 32 32 39") ≡ (B21 ∷ [])
row-81 = refl

-- year 2000
row-82 : type_findings universal.date (octets "32 30 30 30 30 32 32 39") ≡ []
row-82 = refl

-- midnight
row-83 : type_findings universal.time_of_day (octets "32 34 30 30 30 30") ≡ []
row-83 = refl

-- after midnight
row-84 : type_findings universal.time_of_day (octets "32 34 30 30 30 31") ≡ (B21 ∷ [])
row-84 = refl

-- leap second
row-85 : type_findings universal.time_of_day (octets "32 33 35 39 36 30") ≡ []
row-85 = refl

-- second 61
row-86 : type_findings universal.time_of_day (octets "32 33 35 39 36 31") ≡ (B21 ∷ [])
row-86 = refl

-- a DATE-TIME
row-87 : type_findings 33 (octets "32 30 31 36 31 32 33 31 32 33 35 39 36 30") ≡ []
row-87 = refl

-- end of day
row-88 : type_findings 33 (octets "32 30 32 34 31 32 33 31 32 34 30 30 30 30") ≡ []
row-88 = refl

-- empty relative
row-89 : type_findings universal.relative_oid [] ≡ (B24 ∷ [])
row-89 = refl

-- surrogate
row-90 : type_findings universal.bmp_string (octets "00 41 d8 00") ≡ (B25 ∷ [])
row-90 = refl

-- no unit
row-91 : type_findings universal.bmp_string (octets "00 41 d8") ≡ (B18 ∷ [])
row-91 = refl

-- last character
row-92 : type_findings universal.universal_string (octets "00 10 ff ff") ≡ []
row-92 = refl

-- above 10ffff
row-93 : type_findings universal.universal_string (octets "00 11 00 00") ≡ (B25 ∷ [])
row-93 = refl

-- february 30
row-94 : type_findings universal.utc_time (octets "32 33 30 32 33 30 31 32 30 30 30 30 5a") ≡ (B26 ∷ [])
row-94 = refl

-- some century
row-95 : type_findings universal.utc_time (octets "30 30 30 32 32 39 31 32 30 30 30 30 5a") ≡ []
row-95 = refl

-- february 30 short
row-96 : type_findings universal.generalized_time (octets "32 30 32 33 30 32 33 30 31 32") ≡ (B26 ∷ S04 ∷ [])
row-96 = refl

-- The types that the table has for each rule.
-- BOOLEAN
row-97 : types_with rules.OneOctet ≡ (1 ∷ [])
row-97 = refl

-- INTEGER, ENUMERATED
row-98 : types_with rules.Shortest ≡ (2 ∷ 10 ∷ [])
row-98 = refl

-- BIT STRING
row-99 : types_with rules.UnusedBits ≡ (3 ∷ [])
row-99 = refl

-- NULL
row-100 : types_with rules.NoOctets ≡ (5 ∷ [])
row-100 = refl

-- OBJECT IDENTIFIER, RELATIVE-OID
row-101 : types_with rules.Subidentifiers ≡ (6 ∷ 13 ∷ [])
row-101 = refl

-- REAL
row-102 : types_with rules.RealForm ≡ (9 ∷ [])
row-102 = refl

-- UTCTime, GeneralizedTime
row-103 : types_with rules.TimeForm ≡ (23 ∷ 24 ∷ [])
row-103 = refl

-- DATE, TIME-OF-DAY, DATE-TIME
row-104 : types_with rules.DateForm ≡ (31 ∷ 32 ∷ 33 ∷ [])
row-104 = refl

-- OID-IRI, RELATIVE-OID-IRI
row-105 : types_with rules.IriForm ≡ (35 ∷ 36 ∷ [])
row-105 = refl

-- the strings of characters that have a row of `allowed_contents`
row-106 : types_with rules.Characters ≡ (map (λ row. row.0) allowed_contents)
row-106 = refl

-- Text beside pairs of digits, on short contents.
-- on the line of the element
-- three letters
row-107 : on_line_text_with true (octets_value (octets "61 62 63")).on_line ≡ (codes " 61 62 63  |abc|")
unfolding digits encode_with
row-107 = refl

-- two letters
row-108 : on_line_text_with true (octets_value (octets "61 62")).on_line ≡ (codes " 61 62")
unfolding digits encode_with
row-108 = refl

-- the first and the last printable character, and the octets before and after these
row-109 : on_line_text_with true (octets_value (octets "20 7e 7c")).on_line ≡ (codes " 20 7e 7c  | ~||")
unfolding digits encode_with
row-109 = refl

-- octet 1f
row-110 : on_line_text_with true (octets_value (octets "61 1f 62")).on_line ≡ (codes " 61 1f 62")
unfolding digits encode_with
row-110 = refl

-- octet 7f
row-111 : on_line_text_with true (octets_value (octets "61 62 7f")).on_line ≡ (codes " 61 62 7f")
unfolding digits encode_with
row-111 = refl

-- octet 80
row-112 : on_line_text_with true (octets_value (octets "80 61 62")).on_line ≡ (codes " 80 61 62")
unfolding digits encode_with
row-112 = refl

-- without text
-- letters without text
row-113 : on_line_text (octets_value (octets "61 62 63")).on_line ≡ (codes " 61 62 63")
unfolding digits encode_with
row-113 = refl

-- in a row
-- of pairs
row-114 : row_text_with true Integer (octets "61 62 63") ≡ (codes "61 62 63  |abc|")
unfolding digits encode_with
row-114 = refl

-- of characters
row-115 : row_text_with true Text (octets "61 62 63") ≡ (codes "\"abc\"")
unfolding digits encode_with
row-115 = refl

-- all lines of an element with the tag [0]
-- on the line
row-116 : whole_lines_with true no_names (header 0 Context false 0 (Definite 9) "80" "09") full (octets "61 2e 65 78 61 6d 70 6c 65")
    ≡ (lines ("       0      9: [0] 61 2e 65 78 61 6d 70 6c 65  |a.example|" ∷ []))
unfolding digits encode_with
row-116 = refl

-- in rows
row-117 : whole_lines_with true no_names (header 0 Context false 0 (Definite 17) "80" "11") full (octets "30 31 32 33 34 35 36 37 38 39 61 62 63 64 65 66 67")
    ≡ (lines ("       0     17: [0]" ∷ "                   30 31 32 33 34 35 36 37 38 39 61 62 63 64 65 66  |0123456789abcdef|" ∷ "                   67" ∷ []))
unfolding digits encode_with
row-117 = refl

-- without text
row-118 : whole_lines no_names (header 0 Context false 0 (Definite 9) "80" "09") full (octets "61 2e 65 78 61 6d 70 6c 65")
    ≡ (lines ("       0      9: [0] 61 2e 65 78 61 6d 70 6c 65" ∷ []))
unfolding digits encode_with
row-118 = refl

-- the first row is shown without the last octet
-- incomplete rows
row-119 : incomplete_lines_with true (header 0 Context false 0 (Definite 17) "80" "11") full (octets "30 31 32 33 34 35 36 37 38 39 61 62 63 64 65 66")
    ≡ (lines ("       0     17: [0]" ∷ "                   30 31 32 33 34 35 36 37 38 39 61 62 63 64 65 66  |0123456789abcdef|" ∷ []))
unfolding digits encode_with
row-119 = refl

-- rows that are left out
-- rows left out
row-120 : shown_row_lines_with true Integer (at_most 1) (codes "abc" ∷ codes "def" ∷ codes "ghi" ∷ [])
    ≡ (lines ("                   61 62 63  |abc|" ∷ "                   ..." ∷ []))
unfolding digits encode_with
row-120 = refl

-- no dots if there are no more rows than the limit
row-121 : shown_row_lines_with true Integer (at_most 1) (codes "abc" ∷ [])
    ≡ (lines ("                   61 62 63  |abc|" ∷ []))
unfolding digits encode_with
row-121 = refl
