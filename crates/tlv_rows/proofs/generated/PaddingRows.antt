-- What commands make of the inputs of tests/rows/padding.rows, shown by computing.
-- `tests/make-rows` writes this file.
use Rattle.std.proofs.Common.{◌≡◌, false, true, [], ◌∷◌, None, refl}
use Rattle.std.specs.Fmt.{digits}
use Rattle.std.specs.Str.{chars, is_utf8}
use Rattle.hex.specs.Hex.{encode_with}
use lib.Utf8.{encode}
use Rattle.tlv_head.specs.declared.fault.FaultCode.TheVariants.{Empty, StrayEnd}
use Rattle.tlv_show.specs.declared.rules.Rules.TheVariants.{Ber, Der}
use Rattle.tlv_rows.proofs.Words.Octets.{framing_of, lines, octets}
use Rattle.tlv_rows.proofs.Words.Runs.{check, clean_result, dump, extract}
use Rattle.tlv_rows.proofs.Words.Runs.{fault_result, indef, notice_result, result}

-- padding before, between and after
row-1 : result (dump Ber None false (framing_of [] true)) (octets "00 00 05 00 00 00 05 00 00")
    ≡ clean_result (lines (
    "       0    pad: padding" ∷
    "       2      0: NULL" ∷
    "       4    pad: padding" ∷
    "       6      0: NULL" ∷
    "       8    pad: padding" ∷ []))
unfolding digits encode_with is_utf8 chars encode
row-1 = refl

-- padding without first columns
row-2 : result (dump Ber None true (framing_of [] true)) (octets "00 00 05 00 00 00 05 00 00")
    ≡ clean_result (lines (
    "padding" ∷
    "NULL" ∷
    "padding" ∷
    "NULL" ∷
    "padding" ∷ []))
unfolding digits encode_with is_utf8 chars encode
row-2 = refl

-- padding alone
row-3 : result (dump Ber None false (framing_of [] true)) (octets "00 00 00")
    ≡ fault_result 0 Empty 3 "fault at 3: F01 empty input" (lines (
    "       0    pad: padding" ∷ []))
unfolding digits encode_with is_utf8 chars encode
row-3 = refl

-- octets 00 in a definite element
row-4 : result (dump Ber None false (framing_of [] true)) (octets "30 02 00 00")
    ≡ fault_result 0 StrayEnd 2 "fault at 2: F03 end-of-contents outside an indefinite element" (lines (
    "       0      2: SEQUENCE {" ∷ []))
unfolding digits encode_with is_utf8 chars encode
row-4 = refl

-- octets 00 within a string
row-5 : result (dump Ber None false (framing_of (0 ∷ []) true)) (octets "04 02 00 00")
    ≡ fault_result 0 StrayEnd 2 "fault at 2: F03 end-of-contents outside an indefinite element" (lines (
    "       0      2: OCTET STRING wraps {" ∷ []))
unfolding digits encode_with is_utf8 chars encode
row-5 = refl

-- an offset within it is that of no string
row-6 : result (dump Ber None false (framing_of (0 ∷ []) true)) (octets "00 04 00")
    ≡ notice_result 0 "E7 no string to read at offset 0" (lines (
    "       0    pad: padding" ∷
    "       1      0: OCTET STRING" ∷ []))
unfolding digits encode_with is_utf8 chars encode
row-6 = refl

row-7 : result (check Der (framing_of [] true)) (octets "00 00 05 00 00 00")
    ≡ clean_result []
unfolding digits encode_with is_utf8 chars encode
row-7 = refl

-- a check
row-8 : result (check Der (framing_of [] true)) (octets "00 00 00")
    ≡ fault_result 0 Empty 3 "fault at 3: F01 empty input" []
unfolding digits encode_with is_utf8 chars encode
row-8 = refl

-- an element after padding
row-9 : result (extract 1 false (framing_of [] true)) (octets "00 05 00 00")
    ≡ clean_result (octets "05 00")
unfolding digits encode_with is_utf8 chars encode
row-9 = refl

-- padding is no element
row-10 : result (extract 0 false (framing_of [] true)) (octets "00 05 00 00")
    ≡ notice_result 0 "E4 no element at offset 0" []
unfolding digits encode_with is_utf8 chars encode
row-10 = refl

-- padding alone
row-11 : result (extract 0 false (framing_of [] true)) (octets "00 00 00")
    ≡ fault_result 0 Empty 3 "fault at 3: F01 empty input" []
unfolding digits encode_with is_utf8 chars encode
row-11 = refl

-- it is copied
row-12 : result (indef true) (octets "30 80 00 00 00 30 02 05 00")
    ≡ clean_result (octets "30 80 00 00 00 30 80 05 00 00 00")
unfolding digits encode_with is_utf8 chars encode
row-12 = refl

-- nothing changes any more
row-13 : result (indef true) (octets "30 80 00 00 00 30 80 05 00 00 00")
    ≡ clean_result (octets "30 80 00 00 00 30 80 05 00 00 00")
unfolding digits encode_with is_utf8 chars encode
row-13 = refl

-- it is copied
row-14 : result (indef true) (octets "00 00 00")
    ≡ fault_result 0 Empty 3 "fault at 3: F01 empty input" (octets "00 00 00")
unfolding digits encode_with is_utf8 chars encode
row-14 = refl

-- padding after an indefinite element
row-15 : result (dump Ber None false (framing_of [] true)) (octets "30 80 00 00 00 30 02 05 00")
    ≡ clean_result (lines (
    "       0  indef: SEQUENCE {" ∷
    "       2    end: }" ∷
    "       4    pad: padding" ∷
    "       5      2: SEQUENCE {" ∷
    "       7      0:   NULL" ∷
    "                 }" ∷ []))
unfolding digits encode_with is_utf8 chars encode
row-15 = refl

-- an offset within padding
row-16 : result (dump Ber None false (framing_of (0 ∷ []) true)) (octets "00 05 00 00")
    ≡ notice_result 0 "E7 no string to read at offset 0" (lines (
    "       0    pad: padding" ∷
    "       1      0: NULL" ∷
    "       3    pad: padding" ∷ []))
unfolding digits encode_with is_utf8 chars encode
row-16 = refl

row-17 : result (indef true) (octets "00 00 05 00 00 00 05 00 00")
    ≡ clean_result (octets "00 00 05 00 00 00 05 00 00")
unfolding digits encode_with is_utf8 chars encode
row-17 = refl

row-18 : result (indef true) (octets "30 02 00 00")
    ≡ fault_result 0 StrayEnd 2 "fault at 2: F03 end-of-contents outside an indefinite element" (octets "30 80")
unfolding digits encode_with is_utf8 chars encode
row-18 = refl

row-19 : result (dump Ber None false (framing_of [] true)) (octets "00 00 05 00 00")
    ≡ clean_result (lines (
    "       0    pad: padding" ∷
    "       2      0: NULL" ∷
    "       4    pad: padding" ∷ []))
unfolding digits encode_with is_utf8 chars encode
row-19 = refl

row-20 : result (check Der (framing_of [] true)) (octets "00 05 00 00")
    ≡ clean_result []
unfolding digits encode_with is_utf8 chars encode
row-20 = refl

-- padding after a string whose contents are read
row-21 : result (check Der (framing_of (0 ∷ []) true)) (octets "04 06 30 80 05 00 00 00 00")
    ≡ notice_result 1 "findings: 1" (lines (
    "2 D01 indefinite length" ∷ []))
unfolding digits encode_with is_utf8 chars encode
row-21 = refl
