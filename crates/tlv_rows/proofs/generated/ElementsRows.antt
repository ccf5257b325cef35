-- What commands make of the inputs of tests/rows/elements.rows, shown by computing.
-- `tests/make-rows` writes this file.
use Rattle.std.proofs.Common.{◌≡◌, false, [], ◌∷◌, ◌++◌, None, refl}
use Rattle.std.specs.Prelude.{replicate}
use Rattle.std.specs.Fmt.{digits}
use Rattle.std.specs.Str.{chars, is_utf8}
use Rattle.hex.specs.Hex.{encode_with}
use lib.Utf8.{encode}
use Rattle.tlv_show.specs.declared.rules.Rules.TheVariants.{Ber}
use Rattle.tlv_walk.specs.Framing.{plain_framing}
use Rattle.tlv_rows.proofs.Words.Octets.{lines, octets}
use Rattle.tlv_rows.proofs.Words.Runs.{clean_result, dump, result}

-- a primitive
row-1 : result (dump Ber None false plain_framing) (octets "02 01 05")
    ≡ clean_result (lines (
    "       0      1: INTEGER 5" ∷ []))
unfolding digits encode_with is_utf8 chars encode
row-1 = refl

-- a constructed string of definite length
row-2 : result (dump Ber None false plain_framing) (octets "3a 09 04 03 4a 6f 6e 04 02 65 73")
    ≡ clean_result (lines (
    "       0      9: VisibleString {" ∷
    "       2      3:   OCTET STRING 4a 6f 6e" ∷
    "       7      2:   OCTET STRING 65 73" ∷
    "                 }" ∷ []))
unfolding digits encode_with is_utf8 chars encode
row-2 = refl

-- the same string of indefinite length
row-3 : result (dump Ber None false plain_framing) (octets "3a 80 04 03 4a 6f 6e 04 02 65 73 00 00")
    ≡ clean_result (lines (
    "       0  indef: VisibleString {" ∷
    "       2      3:   OCTET STRING 4a 6f 6e" ∷
    "       7      2:   OCTET STRING 65 73" ∷
    "      11    end: }" ∷ []))
unfolding digits encode_with is_utf8 chars encode
row-3 = refl

-- two encodings
row-4 : result (dump Ber None false plain_framing) (octets "05 00 05 00")
    ≡ clean_result (lines (
    "       0      0: NULL" ∷
    "       2      0: NULL" ∷ []))
unfolding digits encode_with is_utf8 chars encode
row-4 = refl

row-5 : result (dump Ber None false plain_framing) (octets "30 00 31 80 00 00")
    ≡ clean_result (lines (
    "       0      0: SEQUENCE {" ∷
    "                 }" ∷
    "       2  indef: SET {" ∷
    "       4    end: }" ∷ []))
unfolding digits encode_with is_utf8 chars encode
row-5 = refl

-- an application tag in the high form
row-6 : result (dump Ber None false plain_framing) (octets "5f 1f 01 00")
    ≡ clean_result (lines (
    "       0      1: [APPLICATION 31] 00" ∷ []))
unfolding digits encode_with is_utf8 chars encode
row-6 = refl

-- nine octets of tag number
row-7 : result (dump Ber None false plain_framing) (octets "9f 81 80 80 80 80 80 80 80 00 00")
    ≡ clean_result (lines (
    "       0      0: [72057594037927936]" ∷ []))
unfolding digits encode_with is_utf8 chars encode
row-7 = refl

row-8 : result (dump Ber None false plain_framing) (octets "41 00 82 00 c3 00 e4 00")
    ≡ clean_result (lines (
    "       0      0: [APPLICATION 1]" ∷
    "       2      0: [2]" ∷
    "       4      0: [PRIVATE 3]" ∷
    "       6      0: [PRIVATE 4] {" ∷
    "                 }" ∷ []))
unfolding digits encode_with is_utf8 chars encode
row-8 = refl

-- A header of 137 octets
row-9 : result (dump Ber None false plain_framing) (octets "9f 81 80 80 80 80 80 80 80 00 fe" ++
    replicate 125 0x00 ++
    octets "01 aa")
    ≡ clean_result (lines (
    "       0      1: [72057594037927936] aa" ∷ []))
unfolding digits encode_with is_utf8 chars encode
row-9 = refl

row-10 : result (dump Ber None false plain_framing) (octets "30 0b a0 03 02 01 02 a1 80 05 00 00 00")
    ≡ clean_result (lines (
    "       0     11: SEQUENCE {" ∷
    "       2      3:   [0] {" ∷
    "       4      1:     INTEGER 2" ∷
    "                   }" ∷
    "       7  indef:   [1] {" ∷
    "       9      0:     NULL" ∷
    "      11    end:   }" ∷
    "                 }" ∷ []))
unfolding digits encode_with is_utf8 chars encode
row-10 = refl
