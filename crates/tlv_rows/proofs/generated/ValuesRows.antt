-- What commands make of the inputs of tests/rows/values.rows, shown by computing.
-- `tests/make-rows` writes this file.
use Rattle.std.proofs.Common.{◌≡◌, false, [], ◌∷◌, ◌++◌, None, refl}
use Rattle.std.specs.Prelude.{replicate}
use Rattle.std.specs.Fmt.{digits}
use Rattle.std.specs.Str.{chars, is_utf8}
use Rattle.hex.specs.Hex.{encode_with}
use lib.Utf8.{encode}
use Rattle.tlv_head.specs.declared.fault.FaultCode.TheVariants.{Short}
use Rattle.tlv_show.specs.declared.rules.Rules.TheVariants.{Ber}
use Rattle.tlv_walk.specs.Framing.{plain_framing}
use Rattle.tlv_rows.proofs.Words.Octets.{lines, octets}
use Rattle.tlv_rows.proofs.Words.Runs.{clean_result, dump, fault_result, notice_result, result}

row-1 : result (dump Ber None false plain_framing) (octets "01 01 00 01 01 ff 01 01 01")
    ≡ clean_result (lines (
    "       0      1: BOOLEAN FALSE" ∷
    "       3      1: BOOLEAN TRUE" ∷
    "       6      1: BOOLEAN TRUE" ∷ []))
unfolding digits encode_with is_utf8 chars encode
row-1 = refl

-- the largest number that is shown in decimal
row-2 : result (dump Ber None false plain_framing) (octets "02 10 7f ff ff ff ff ff ff ff ff ff ff ff ff ff ff ff")
    ≡ clean_result (lines (
    "       0     16: INTEGER 170141183460469231731687303715884105727" ∷ []))
unfolding digits encode_with is_utf8 chars encode
row-2 = refl

row-3 : result (dump Ber None false plain_framing) (octets "02 10 80 00 00 00 00 00 00 00 00 00 00 00 00 00 00 00")
    ≡ clean_result (lines (
    "       0     16: INTEGER -170141183460469231731687303715884105728" ∷ []))
unfolding digits encode_with is_utf8 chars encode
row-3 = refl

-- contents in rows
row-4 : result (dump Ber None false plain_framing) (octets "02 11 00 80 00 00 00 00 00 00 00 00 00 00 00 00 00 00 00")
    ≡ clean_result (lines (
    "       0     17: INTEGER" ∷
    "                   00 80 00 00 00 00 00 00 00 00 00 00 00 00 00 00" ∷
    "                   00" ∷ []))
unfolding digits encode_with is_utf8 chars encode
row-4 = refl

row-5 : result (dump Ber None false plain_framing) (octets "02 01 80 02 01 00 02 02 ff 7f 0a 01 07")
    ≡ clean_result (lines (
    "       0      1: INTEGER -128" ∷
    "       3      1: INTEGER 0" ∷
    "       6      2: INTEGER -129" ∷
    "      10      1: ENUMERATED 7" ∷ []))
unfolding digits encode_with is_utf8 chars encode
row-5 = refl

-- a length in the long form
row-6 : result (dump Ber None false plain_framing) (octets "04 81 03 aa bb cc")
    ≡ clean_result (lines (
    "       0      3: OCTET STRING aa bb cc" ∷ []))
unfolding digits encode_with is_utf8 chars encode
row-6 = refl

row-7 : result (dump Ber None false plain_framing)
    (octets "04 10 ab ab ab ab ab ab ab ab ab ab ab ab ab ab ab ab 04 11" ++
    replicate 17 0xcd)
    ≡ clean_result (lines (
    "       0     16: OCTET STRING ab ab ab ab ab ab ab ab ab ab ab ab ab ab ab ab" ∷
    "      18     17: OCTET STRING" ∷
    "                   cd cd cd cd cd cd cd cd cd cd cd cd cd cd cd cd" ∷
    "                   cd" ∷ []))
unfolding digits encode_with is_utf8 chars encode
row-7 = refl

row-8 : result (dump Ber None false plain_framing) (octets "09 03 80 00 01 0e 01 00 1f 1f 01 31 80 01 01")
    ≡ clean_result (lines (
    "       0      3: REAL 80 00 01" ∷
    "       5      1: TIME 00" ∷
    "       8      1: DATE 31" ∷
    "      12      1: [0] 01" ∷ []))
unfolding digits encode_with is_utf8 chars encode
row-8 = refl

row-9 : result (dump Ber None false plain_framing) (octets "03 02 05 a0")
    ≡ clean_result (lines (
    "       0      2: BIT STRING 3 bits 101" ∷ []))
unfolding digits encode_with is_utf8 chars encode
row-9 = refl

-- a BIT STRING of no bits
row-10 : result (dump Ber None false plain_framing) (octets "03 01 00")
    ≡ clean_result (lines (
    "       0      1: BIT STRING 0 bits" ∷ []))
unfolding digits encode_with is_utf8 chars encode
row-10 = refl

row-11 : result (dump Ber None false plain_framing) (octets "03 02 07 80")
    ≡ clean_result (lines (
    "       0      2: BIT STRING 1 bits 1" ∷ []))
unfolding digits encode_with is_utf8 chars encode
row-11 = refl

row-12 : result (dump Ber None false plain_framing) (octets "03 09 00 0f f0 aa aa aa aa aa aa")
    ≡ clean_result (lines (
    "       0      9: BIT STRING 64 bits 0000111111110000101010101010101010101010101010101010101010101010" ∷ []))
unfolding digits encode_with is_utf8 chars encode
row-12 = refl

-- 72 bits
row-13 : result (dump Ber None false plain_framing) (octets "03 0a 00 ff ff ff ff ff ff ff ff ff")
    ≡ clean_result (lines (
    "       0     10: BIT STRING 72 bits" ∷
    "                   ff ff ff ff ff ff ff ff ff" ∷ []))
unfolding digits encode_with is_utf8 chars encode
row-13 = refl

row-14 : result (dump Ber None false plain_framing) (octets "03 12 04" ++ replicate 17 0xa0)
    ≡ clean_result (lines (
    "       0     18: BIT STRING 132 bits" ∷
    "                   a0 a0 a0 a0 a0 a0 a0 a0 a0 a0 a0 a0 a0 a0 a0 a0" ∷
    "                   a0" ∷ []))
unfolding digits encode_with is_utf8 chars encode
row-14 = refl

-- TRUE, which is not ff
row-15 : result (dump Ber None false plain_framing) (octets "01 01 01")
    ≡ clean_result (lines (
    "       0      1: BOOLEAN TRUE" ∷ []))
unfolding digits encode_with is_utf8 chars encode
row-15 = refl

-- FALSE
row-16 : result (dump Ber None false plain_framing) (octets "01 01 00")
    ≡ clean_result (lines (
    "       0      1: BOOLEAN FALSE" ∷ []))
unfolding digits encode_with is_utf8 chars encode
row-16 = refl

-- a negative INTEGER
row-17 : result (dump Ber None false plain_framing) (octets "02 01 80")
    ≡ clean_result (lines (
    "       0      1: INTEGER -128" ∷ []))
unfolding digits encode_with is_utf8 chars encode
row-17 = refl

-- a BIT STRING with unused bits
row-18 : result (dump Ber None false plain_framing) (octets "03 02 05 bf")
    ≡ clean_result (lines (
    "       0      2: BIT STRING 3 bits 101" ∷ []))
unfolding digits encode_with is_utf8 chars encode
row-18 = refl

-- the line of a long BIT STRING comes with its first contents octet
row-19 : result (dump Ber None false plain_framing) (octets "03 0a 00 ff ff")
    ≡ fault_result 0 Short 5 "fault at 5: F02 input ends inside an encoding" (lines (
    "       0     10: BIT STRING 72 bits" ∷ []))
unfolding digits encode_with is_utf8 chars encode
row-19 = refl

-- an open BIT STRING with a full row
row-20 : result (dump Ber None false plain_framing) (octets "03 13 00" ++ replicate 17 0xff)
    ≡ fault_result 0 Short 20 "fault at 20: F02 input ends inside an encoding" (lines (
    "       0     19: BIT STRING 144 bits" ∷
    "                   ff ff ff ff ff ff ff ff ff ff ff ff ff ff ff ff" ∷ []))
unfolding digits encode_with is_utf8 chars encode
row-20 = refl

-- numbers and BOOLEANs of no octets and of others
row-21 : result (dump Ber None false plain_framing) (octets "0a 01 ff 0a 00 01 00 01 11" ++ replicate 17 0xff)
    ≡ notice_result 3 "findings: 3" (lines (
    "       0      1: ENUMERATED -1" ∷
    "       3      0: ENUMERATED" ∷
    "       3    B07: no contents of an integer" ∷
    "       5      0: BOOLEAN" ∷
    "       5    B06: BOOLEAN is not one octet" ∷
    "       7     17: BOOLEAN" ∷
    "                   ff ff ff ff ff ff ff ff ff ff ff ff ff ff ff ff" ∷
    "                   ff" ∷
    "       7    B06: BOOLEAN is not one octet" ∷ []))
unfolding digits encode_with is_utf8 chars encode
row-21 = refl

-- bits, and BIT STRINGs whose bits cannot be shown
row-22 : result (dump Ber None false plain_framing)
    (octets "03 09 07 80 00 00 00 00 00 00 80 03 02 00 80 03 0a 07 00 00 00 00 00 00 00 00 80 03 12 00" ++
    replicate 17 0xa5 ++
    octets "03 0a 08 ff ff ff ff ff ff ff ff ff 03 02 08 00 03 12 ff" ++
    replicate 17 0xa5)
    ≡ notice_result 3 "findings: 3" (lines (
    "       0      9: BIT STRING 57 bits 100000000000000000000000000000000000000000000000000000001" ∷
    "      11      2: BIT STRING 8 bits 10000000" ∷
    "      15     10: BIT STRING 65 bits" ∷
    "                   00 00 00 00 00 00 00 00 80" ∷
    "      27     18: BIT STRING 136 bits" ∷
    "                   a5 a5 a5 a5 a5 a5 a5 a5 a5 a5 a5 a5 a5 a5 a5 a5" ∷
    "                   a5" ∷
    "      47     10: BIT STRING" ∷
    "                   08 ff ff ff ff ff ff ff ff ff" ∷
    "      47    B14: more than 7 unused bits" ∷
    "      59      2: BIT STRING 08 00" ∷
    "      59    B14: more than 7 unused bits" ∷
    "      63     18: BIT STRING" ∷
    "                   ff a5 a5 a5 a5 a5 a5 a5 a5 a5 a5 a5 a5 a5 a5 a5" ∷
    "                   a5 a5" ∷
    "      63    B14: more than 7 unused bits" ∷ []))
unfolding digits encode_with is_utf8 chars encode
row-22 = refl
