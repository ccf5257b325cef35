-- What commands make of the inputs of tests/rows/each_finding.rows, shown by computing.
-- `tests/make-rows` writes this file.
use Rattle.std.proofs.Common.{◌≡◌, [], ◌∷◌, refl}
use Rattle.std.specs.Fmt.{digits}
use Rattle.std.specs.Str.{chars, is_utf8}
use Rattle.hex.specs.Hex.{encode_with}
use lib.Utf8.{encode}
use Rattle.tlv_show.specs.declared.rules.Rules.TheVariants.{Ber, Der, Cer}
use Rattle.tlv_walk.specs.Framing.{plain_framing}
use Rattle.tlv_rows.proofs.Words.Octets.{lines, octets}
use Rattle.tlv_rows.proofs.Words.Runs.{check, notice_result, result}

row-1 : result (check Ber plain_framing) (octets "1f 02 01 05")
    ≡ notice_result 1 "findings: 1" (lines (
    "0 B01 high form for a number below 31" ∷ []))
unfolding digits encode_with is_utf8 chars encode
row-1 = refl

row-2 : result (check Ber plain_framing) (octets "9f 80 1f 00")
    ≡ notice_result 1 "findings: 1" (lines (
    "0 B02 tag number begins with zero bits" ∷ []))
unfolding digits encode_with is_utf8 chars encode
row-2 = refl

row-3 : result (check Ber plain_framing) (octets "0f 00")
    ≡ notice_result 1 "findings: 1" (lines (
    "0 B03 unassigned universal number" ∷ []))
unfolding digits encode_with is_utf8 chars encode
row-3 = refl

row-4 : result (check Ber plain_framing) (octets "21 00")
    ≡ notice_result 1 "findings: 1" (lines (
    "0 B04 type must be primitive" ∷ []))
unfolding digits encode_with is_utf8 chars encode
row-4 = refl

row-5 : result (check Ber plain_framing) (octets "10 00")
    ≡ notice_result 1 "findings: 1" (lines (
    "0 B05 type must be constructed" ∷ []))
unfolding digits encode_with is_utf8 chars encode
row-5 = refl

row-6 : result (check Ber plain_framing) (octets "01 02 01 01")
    ≡ notice_result 1 "findings: 1" (lines (
    "0 B06 BOOLEAN is not one octet" ∷ []))
unfolding digits encode_with is_utf8 chars encode
row-6 = refl

row-7 : result (check Ber plain_framing) (octets "02 00")
    ≡ notice_result 1 "findings: 1" (lines (
    "0 B07 no contents of an integer" ∷ []))
unfolding digits encode_with is_utf8 chars encode
row-7 = refl

row-8 : result (check Ber plain_framing) (octets "02 02 00 7f")
    ≡ notice_result 1 "findings: 1" (lines (
    "0 B08 integer is padded" ∷ []))
unfolding digits encode_with is_utf8 chars encode
row-8 = refl

row-9 : result (check Ber plain_framing) (octets "05 01 aa")
    ≡ notice_result 1 "findings: 1" (lines (
    "0 B09 NULL has contents" ∷ []))
unfolding digits encode_with is_utf8 chars encode
row-9 = refl

row-10 : result (check Ber plain_framing) (octets "06 00")
    ≡ notice_result 1 "findings: 1" (lines (
    "0 B10 no contents of an object identifier" ∷ []))
unfolding digits encode_with is_utf8 chars encode
row-10 = refl

row-11 : result (check Ber plain_framing) (octets "06 02 80 01")
    ≡ notice_result 1 "findings: 1" (lines (
    "0 B11 subidentifier is padded" ∷ []))
unfolding digits encode_with is_utf8 chars encode
row-11 = refl

row-12 : result (check Ber plain_framing) (octets "06 02 2a 86")
    ≡ notice_result 1 "findings: 1" (lines (
    "0 B12 last subidentifier is unfinished" ∷ []))
unfolding digits encode_with is_utf8 chars encode
row-12 = refl

row-13 : result (check Ber plain_framing) (octets "03 00")
    ≡ notice_result 1 "findings: 1" (lines (
    "0 B13 no first octet of a bit string" ∷ []))
unfolding digits encode_with is_utf8 chars encode
row-13 = refl

row-14 : result (check Ber plain_framing) (octets "03 02 08 00")
    ≡ notice_result 1 "findings: 1" (lines (
    "0 B14 more than 7 unused bits" ∷ []))
unfolding digits encode_with is_utf8 chars encode
row-14 = refl

row-15 : result (check Ber plain_framing) (octets "03 01 03")
    ≡ notice_result 1 "findings: 1" (lines (
    "0 B15 unused bits of no octet" ∷ []))
unfolding digits encode_with is_utf8 chars encode
row-15 = refl

row-16 : result (check Ber plain_framing) (octets "23 08 03 02 01 00 03 02 00 ff")
    ≡ notice_result 1 "findings: 1" (lines (
    "6 B16 segment follows unused bits" ∷ []))
unfolding digits encode_with is_utf8 chars encode
row-16 = refl

row-17 : result (check Ber plain_framing) (octets "24 03 0c 01 61")
    ≡ notice_result 1 "findings: 1" (lines (
    "2 B17 segment has another tag" ∷ []))
unfolding digits encode_with is_utf8 chars encode
row-17 = refl

row-18 : result (check Ber plain_framing) (octets "12 01 41")
    ≡ notice_result 1 "findings: 1" (lines (
    "0 B18 characters not of the type" ∷ []))
unfolding digits encode_with is_utf8 chars encode
row-18 = refl

row-19 : result (check Der plain_framing) (octets "30 80 00 00")
    ≡ notice_result 1 "findings: 1" (lines (
    "0 D01 indefinite length" ∷ []))
unfolding digits encode_with is_utf8 chars encode
row-19 = refl

row-20 : result (check Der plain_framing) (octets "24 00")
    ≡ notice_result 1 "findings: 1" (lines (
    "0 D02 constructed string" ∷ []))
unfolding digits encode_with is_utf8 chars encode
row-20 = refl

row-21 : result (check Cer plain_framing) (octets "30 00")
    ≡ notice_result 1 "findings: 1" (lines (
    "0 C01 definite length of a constructed element" ∷ []))
unfolding digits encode_with is_utf8 chars encode
row-21 = refl

row-22 : result (check Cer plain_framing) (octets "24 80 24 80 00 00 00 00")
    ≡ notice_result 2 "findings: 2" (lines (
    "2 C03 segment is constructed" ∷
    "2 C05 constructed string fits in 1000 octets" ∷ []))
unfolding digits encode_with is_utf8 chars encode
row-22 = refl

row-23 : result (check Cer plain_framing) (octets "24 80 04 01 00 04 01 00 00 00")
    ≡ notice_result 2 "findings: 2" (lines (
    "5 C04 segment follows one not of 1000 octets" ∷
    "0 C05 constructed string fits in 1000 octets" ∷ []))
unfolding digits encode_with is_utf8 chars encode
row-23 = refl

row-24 : result (check Cer plain_framing) (octets "24 80 04 01 00 00 00")
    ≡ notice_result 1 "findings: 1" (lines (
    "0 C05 constructed string fits in 1000 octets" ∷ []))
unfolding digits encode_with is_utf8 chars encode
row-24 = refl

row-25 : result (check Cer plain_framing) (octets "24 80 04 00 00 00")
    ≡ notice_result 2 "findings: 2" (lines (
    "0 C05 constructed string fits in 1000 octets" ∷
    "0 C06 last segment is empty" ∷ []))
unfolding digits encode_with is_utf8 chars encode
row-25 = refl

row-26 : result (check Der plain_framing) (octets "3a 80 04 03 4a 6f 6e 04 02 65 73 00 00")
    ≡ notice_result 2 "findings: 2" (lines (
    "0 D01 indefinite length" ∷
    "0 D02 constructed string" ∷ []))
unfolding digits encode_with is_utf8 chars encode
row-26 = refl

row-27 : result (check Ber plain_framing) (octets "1f 00 00")
    ≡ notice_result 3 "findings: 3" (lines (
    "0 B01 high form for a number below 31" ∷
    "0 B02 tag number begins with zero bits" ∷
    "0 B03 unassigned universal number" ∷ []))
unfolding digits encode_with is_utf8 chars encode
row-27 = refl
