-- What commands make of the inputs of tests/rows/inside.rows, shown by computing.
-- `tests/make-rows` writes this file.
use Rattle.std.proofs.Common.{◌≡◌, false, true, [], ◌∷◌, None, refl}
use Rattle.std.specs.Fmt.{digits}
use Rattle.std.specs.Str.{chars, is_utf8}
use Rattle.hex.specs.Hex.{encode_with}
use lib.Utf8.{encode}
use Rattle.tlv_head.specs.declared.fault.FaultCode.TheVariants.{Short, StrayEnd, Overrun, BadInside}
use Rattle.tlv_show.specs.declared.rules.Rules.TheVariants.{Ber, Der, Cer}
use Rattle.tlv_walk.specs.Framing.{plain_framing}
use Rattle.tlv_rows.proofs.Words.Octets.{framing_of, lines, octets}
use Rattle.tlv_rows.proofs.Words.Runs.{check, clean_result, dump, extract, fault_result, notice_result, result}

-- an OCTET STRING that wraps
row-1 : result (dump Ber None false (framing_of (0 ∷ []) false)) (octets "04 05 30 03 02 01 07")
    ≡ clean_result (lines (
    "       0      5: OCTET STRING wraps {" ∷
    "       2      3:   SEQUENCE {" ∷
    "       4      1:     INTEGER 7" ∷
    "                   }" ∷
    "                 }" ∷ []))
unfolding digits encode_with is_utf8 chars encode
row-1 = refl

-- a BIT STRING that wraps
row-2 : result (dump Ber None false (framing_of (0 ∷ []) false)) (octets "03 04 00 02 01 05")
    ≡ clean_result (lines (
    "       0      4: BIT STRING wraps {" ∷
    "       3      1:   INTEGER 5" ∷
    "                 }" ∷ []))
unfolding digits encode_with is_utf8 chars encode
row-2 = refl

-- a BIT STRING with unused bits
row-3 : result (dump Ber None false (framing_of (0 ∷ []) false)) (octets "03 04 01 02 01 05")
    ≡ fault_result 0 BadInside 2 "fault at 2: F12 first octet of a wrapped BIT STRING is not 00" (lines (
    "       0      4: BIT STRING wraps {" ∷ []))
unfolding digits encode_with is_utf8 chars encode
row-3 = refl

-- an OCTET STRING that wraps nothing
row-4 : result (dump Ber None false (framing_of (0 ∷ []) false)) (octets "04 00")
    ≡ clean_result (lines (
    "       0      0: OCTET STRING wraps {" ∷
    "                 }" ∷ []))
unfolding digits encode_with is_utf8 chars encode
row-4 = refl

-- end-of-contents octets within a string
row-5 : result (dump Ber None false (framing_of (0 ∷ []) false)) (octets "04 02 00 00")
    ≡ fault_result 0 StrayEnd 2 "fault at 2: F03 end-of-contents outside an indefinite element" (lines (
    "       0      2: OCTET STRING wraps {" ∷ []))
unfolding digits encode_with is_utf8 chars encode
row-5 = refl

-- an element that ends beyond a string
row-6 : result (dump Ber None false (framing_of (0 ∷ []) false)) (octets "04 03 02 02 05")
    ≡ fault_result 0 Overrun 3 "fault at 3: F11 element runs past the enclosing length" (lines (
    "       0      3: OCTET STRING wraps {" ∷ []))
unfolding digits encode_with is_utf8 chars encode
row-6 = refl

-- an offset within the header of a string
row-7 : result (dump Ber None false (framing_of (0 ∷ 1 ∷ []) false)) (octets "04 02 05 00")
    ≡ notice_result 0 "E7 no string to read at offset 1" (lines (
    "       0      2: OCTET STRING wraps {" ∷
    "       2      0:   NULL" ∷
    "                 }" ∷ []))
unfolding digits encode_with is_utf8 chars encode
row-7 = refl

row-8 : result (dump Ber None false (framing_of (0 ∷ 2 ∷ []) false)) (octets "30 04 04 02 05 00")
    ≡ notice_result 0 "E7 no string to read at offset 0" (lines (
    "       0      4: SEQUENCE {" ∷
    "       2      2:   OCTET STRING wraps {" ∷
    "       4      0:     NULL" ∷
    "                   }" ∷
    "                 }" ∷ []))
unfolding digits encode_with is_utf8 chars encode
row-8 = refl

row-9 : result (dump Ber None false (framing_of (0 ∷ 2 ∷ []) false)) (octets "04 04 04 02 05 00")
    ≡ clean_result (lines (
    "       0      4: OCTET STRING wraps {" ∷
    "       2      2:   OCTET STRING wraps {" ∷
    "       4      0:     NULL" ∷
    "                   }" ∷
    "                 }" ∷ []))
unfolding digits encode_with is_utf8 chars encode
row-9 = refl

-- A string that holds an encoding is not read unless it is named
row-10 : result (dump Ber None false (framing_of (2 ∷ []) false)) (octets "30 08 04 02 05 00 04 02 05 00")
    ≡ clean_result (lines (
    "       0      8: SEQUENCE {" ∷
    "       2      2:   OCTET STRING wraps {" ∷
    "       4      0:     NULL" ∷
    "                   }" ∷
    "       6      2:   OCTET STRING 05 00" ∷
    "                 }" ∷ []))
unfolding digits encode_with is_utf8 chars encode
row-10 = refl

-- A constructed string, a context tag and an offset past the end are no strings to read
row-11 : result (dump Ber None false (framing_of (0 ∷ []) false)) (octets "24 04 04 02 05 00")
    ≡ notice_result 0 "E7 no string to read at offset 0" (lines (
    "       0      4: OCTET STRING {" ∷
    "       2      2:   OCTET STRING 05 00" ∷
    "                 }" ∷ []))
unfolding digits encode_with is_utf8 chars encode
row-11 = refl

row-12 : result (dump Ber None false (framing_of (0 ∷ []) false)) (octets "84 02 05 00")
    ≡ notice_result 0 "E7 no string to read at offset 0" (lines (
    "       0      2: [4] 05 00" ∷ []))
unfolding digits encode_with is_utf8 chars encode
row-12 = refl

-- an offset after the input
row-13 : result (dump Ber None false (framing_of (1099511627776 ∷ []) false)) (octets "05 00")
    ≡ notice_result 0 "E7 no string to read at offset 1099511627776" (lines (
    "       0      0: NULL" ∷ []))
unfolding digits encode_with is_utf8 chars encode
row-13 = refl

-- At a fault E7 is not reported
row-14 : result (dump Ber None false (framing_of (7 ∷ []) false)) (octets "30 01 02")
    ≡ fault_result 0 Short 3 "fault at 3: F02 input ends inside an encoding" (lines (
    "       0      1: SEQUENCE {" ∷ []))
unfolding digits encode_with is_utf8 chars encode
row-14 = refl

-- E7 takes precedence over findings, and a fault over both
row-15 : result (dump Ber None false (framing_of (0 ∷ []) false)) (octets "03 00")
    ≡ notice_result 1 "E7 no string to read at offset 0" (lines (
    "       0      0: BIT STRING" ∷
    "       0    B13: no first octet of a bit string" ∷ []))
unfolding digits encode_with is_utf8 chars encode
row-15 = refl

-- a finding on what it holds
row-16 : result (check Der (framing_of (0 ∷ []) false)) (octets "04 06 30 80 05 00 00 00")
    ≡ notice_result 1 "findings: 1" (lines (
    "2 D01 indefinite length" ∷ []))
unfolding digits encode_with is_utf8 chars encode
row-16 = refl

-- a check
row-17 : result (check Der (framing_of (0 ∷ []) false)) (octets "03 00")
    ≡ notice_result 1 "E7 no string to read at offset 0" (lines (
    "0 B13 no first octet of a bit string" ∷ []))
unfolding digits encode_with is_utf8 chars encode
row-17 = refl

-- a wrapper with a finding of its own header
row-18 : result (dump Der None false (framing_of (0 ∷ []) false)) (octets "04 81 02 05 00")
    ≡ notice_result 1 "findings: 1" (lines (
    "       0    S01: length is not the shortest" ∷
    "       0      2: OCTET STRING wraps {" ∷
    "       3      0:   NULL" ∷
    "                 }" ∷ []))
unfolding digits encode_with is_utf8 chars encode
row-18 = refl

-- an element in a wrapper
row-19 : result (extract 4 false (framing_of (0 ∷ []) false)) (octets "04 05 30 03 02 01 07")
    ≡ clean_result (octets "02 01 07")
unfolding digits encode_with is_utf8 chars encode
row-19 = refl

-- the first contents octet of a wrapping BIT STRING
row-20 : result (extract 0 true (framing_of (0 ∷ []) false)) (octets "03 04 00 02 01 05")
    ≡ clean_result (octets "00 02 01 05")
unfolding digits encode_with is_utf8 chars encode
row-20 = refl

-- A damaged wrapper ends where what it holds ends
row-21 : result (extract 0 false (framing_of (0 ∷ []) false)) (octets "04 05 30")
    ≡ fault_result 0 Short 3 "fault at 3: F02 input ends inside an encoding" (octets "04 05")
unfolding digits encode_with is_utf8 chars encode
row-21 = refl

-- 00 in a wrapper
row-22 : result (extract 0 false (framing_of (0 ∷ []) false)) (octets "04 02 00 00")
    ≡ fault_result 0 StrayEnd 2 "fault at 2: F03 end-of-contents outside an indefinite element" (octets "04 02")
unfolding digits encode_with is_utf8 chars encode
row-22 = refl

-- extract reports no E7
row-23 : result (extract 0 false (framing_of (1 ∷ 2 ∷ []) false)) (octets "05 00")
    ≡ clean_result (octets "05 00")
unfolding digits encode_with is_utf8 chars encode
row-23 = refl

row-24 : result (extract 7 false (framing_of (1 ∷ []) false)) (octets "05 00")
    ≡ notice_result 0 "E4 no element at offset 7" []
unfolding digits encode_with is_utf8 chars encode
row-24 = refl

-- the same OCTET STRING, not named
row-25 : result (dump Ber None false plain_framing) (octets "04 05 30 03 02 01 07")
    ≡ clean_result (lines (
    "       0      5: OCTET STRING 30 03 02 01 07" ∷ []))
unfolding digits encode_with is_utf8 chars encode
row-25 = refl

-- an indefinite element within a string
row-26 : result (dump Ber None false (framing_of (0 ∷ []) false)) (octets "04 06 30 80 05 00 00 00")
    ≡ clean_result (lines (
    "       0      6: OCTET STRING wraps {" ∷
    "       2  indef:   SEQUENCE {" ∷
    "       4      0:     NULL" ∷
    "       6    end:   }" ∷
    "                 }" ∷ []))
unfolding digits encode_with is_utf8 chars encode
row-26 = refl

-- an OCTET STRING with its tag in the high form
row-27 : result (dump Ber None false (framing_of (0 ∷ []) false)) (octets "1f 04 02 05 00")
    ≡ notice_result 1 "findings: 1" (lines (
    "       0    B01: high form for a number below 31" ∷
    "       0      2: OCTET STRING wraps {" ∷
    "       3      0:   NULL" ∷
    "                 }" ∷ []))
unfolding digits encode_with is_utf8 chars encode
row-27 = refl

-- a BIT STRING without its first contents octet
row-28 : result (dump Ber None false (framing_of (0 ∷ []) false)) (octets "03 04")
    ≡ fault_result 0 Short 2 "fault at 2: F02 input ends inside an encoding" (lines (
    "       0      4: BIT STRING wraps {" ∷ []))
unfolding digits encode_with is_utf8 chars encode
row-28 = refl

-- a fault, and an offset without a string
row-29 : result (dump Ber None false (framing_of (1 ∷ []) false)) (octets "30 03 02 02 01")
    ≡ fault_result 0 Overrun 3 "fault at 3: F11 element runs past the enclosing length" (lines (
    "       0      3: SEQUENCE {" ∷ []))
unfolding digits encode_with is_utf8 chars encode
row-29 = refl

-- a constructed OCTET STRING
row-30 : result (dump Ber None false (framing_of (0 ∷ []) false)) (octets "24 00")
    ≡ notice_result 0 "E7 no string to read at offset 0" (lines (
    "       0      0: OCTET STRING {" ∷
    "                 }" ∷ []))
unfolding digits encode_with is_utf8 chars encode
row-30 = refl

-- a context-specific tag
row-31 : result (dump Ber None false (framing_of (0 ∷ []) false)) (octets "84 00")
    ≡ notice_result 0 "E7 no string to read at offset 0" (lines (
    "       0      0: [4]" ∷ []))
unfolding digits encode_with is_utf8 chars encode
row-31 = refl

-- a string of another type
row-32 : result (dump Ber None false (framing_of (0 ∷ []) false)) (octets "0c 00")
    ≡ notice_result 0 "E7 no string to read at offset 0" (lines (
    "       0      0: UTF8String \"\"" ∷ []))
unfolding digits encode_with is_utf8 chars encode
row-32 = refl

-- an offset passed over, one of a string, and one after the input
row-33 : result (dump Ber None false (framing_of (1 ∷ 2 ∷ 9 ∷ []) false)) (octets "05 00 04 02 05 00")
    ≡ notice_result 0 "E7 no string to read at offset 1" (lines (
    "       0      0: NULL" ∷
    "       2      2: OCTET STRING wraps {" ∷
    "       4      0:   NULL" ∷
    "                 }" ∷ []))
unfolding digits encode_with is_utf8 chars encode
row-33 = refl

-- it must be 00
row-34 : result (extract 0 false (framing_of (0 ∷ []) false)) (octets "03 04 01 02 01 05")
    ≡ fault_result 0 BadInside 2 "fault at 2: F12 first octet of a wrapped BIT STRING is not 00" (octets "03 04")
unfolding digits encode_with is_utf8 chars encode
row-34 = refl

-- else there are no contents
row-35 : result (extract 0 true (framing_of (0 ∷ []) false)) (octets "03 04 01 02 01 05")
    ≡ fault_result 0 BadInside 2 "fault at 2: F12 first octet of a wrapped BIT STRING is not 00" []
unfolding digits encode_with is_utf8 chars encode
row-35 = refl

-- a wrapper of nothing
row-36 : result (extract 0 false (framing_of (0 ∷ []) false)) (octets "04 00 05")
    ≡ clean_result (octets "04 00")
unfolding digits encode_with is_utf8 chars encode
row-36 = refl

row-37 : result (dump Ber None false (framing_of (0 ∷ 9 ∷ []) false)) (octets "04 02 00 00")
    ≡ fault_result 0 StrayEnd 2 "fault at 2: F03 end-of-contents outside an indefinite element" (lines (
    "       0      2: OCTET STRING wraps {" ∷ []))
unfolding digits encode_with is_utf8 chars encode
row-37 = refl

row-38 : result (check Der (framing_of (0 ∷ []) false)) (octets "03 00 00")
    ≡ fault_result 1 StrayEnd 2 "fault at 2: F03 end-of-contents outside an indefinite element" (lines (
    "0 B13 no first octet of a bit string" ∷ []))
unfolding digits encode_with is_utf8 chars encode
row-38 = refl

-- of offsets without a string nothing is reported
row-39 : result (extract 0 false (framing_of (1 ∷ []) false)) (octets "05 00")
    ≡ clean_result (octets "05 00")
unfolding digits encode_with is_utf8 chars encode
row-39 = refl

-- it is a segment as before, and what it holds is none
row-40 : result (check Cer (framing_of (2 ∷ []) false)) (octets "24 80 04 02 05 00 00 00")
    ≡ notice_result 1 "findings: 1" (lines (
    "0 C05 constructed string fits in 1000 octets" ∷ []))
unfolding digits encode_with is_utf8 chars encode
row-40 = refl

-- an offset that is in padding
row-41 : result (dump Ber None false (framing_of (0 ∷ 1 ∷ []) true)) (octets "00 04 00")
    ≡ notice_result 0 "E7 no string to read at offset 0" (lines (
    "       0    pad: padding" ∷
    "       1      0: OCTET STRING wraps {" ∷
    "                 }" ∷ []))
unfolding digits encode_with is_utf8 chars encode
row-41 = refl

-- a BIT STRING without its first contents octet
row-42 : result (dump Ber None false (framing_of (0 ∷ []) false)) (octets "03 01")
    ≡ fault_result 0 Short 2 "fault at 2: F02 input ends inside an encoding" (lines (
    "       0      1: BIT STRING wraps {" ∷ []))
unfolding digits encode_with is_utf8 chars encode
row-42 = refl

-- a string that is not whole, and an offset of no string
row-43 : result (dump Ber None false (framing_of (0 ∷ 2 ∷ []) false)) (octets "04 03 05 00")
    ≡ fault_result 0 Short 4 "fault at 4: F02 input ends inside an encoding" (lines (
    "       0      3: OCTET STRING wraps {" ∷
    "       2      0:   NULL" ∷ []))
unfolding digits encode_with is_utf8 chars encode
row-43 = refl

-- contents that end beyond the string
row-44 : result (dump Ber None false (framing_of (0 ∷ 2 ∷ []) false)) (octets "04 03 02 02 05")
    ≡ fault_result 0 Overrun 3 "fault at 3: F11 element runs past the enclosing length" (lines (
    "       0      3: OCTET STRING wraps {" ∷ []))
unfolding digits encode_with is_utf8 chars encode
row-44 = refl
