-- What commands make of the inputs of tests/rows/layouts.rows, shown by computing.
-- `tests/make-rows` writes this file.
use Rattle.std.proofs.Common.{◌≡◌, false, true, [], ◌∷◌, ◌++◌, None, Some, refl}
use Rattle.std.specs.Prelude.{replicate}
use Rattle.std.specs.Fmt.{digits}
use Rattle.std.specs.Str.{chars, is_utf8}
use Rattle.hex.specs.Hex.{encode_with}
use lib.Utf8.{encode}
use Rattle.tlv_head.specs.declared.fault.FaultCode.TheVariants.{Short}
use Rattle.tlv_show.specs.declared.rules.Rules.TheVariants.{Ber, Der}
use Rattle.tlv_walk.specs.Framing.{plain_framing}
use Rattle.tlv_rows.proofs.Words.Octets.{lines, octets}
use Rattle.tlv_rows.proofs.Words.Runs.{clean_result, dump, fault_result, nameless, notice_result, result}

-- without first columns
row-1 : result (dump Ber None true plain_framing) (octets "3a 09 04 03 4a 6f 6e 04 02 65 73")
    ≡ clean_result (lines (
    "VisibleString {" ∷
    "  OCTET STRING 4a 6f 6e" ∷
    "  OCTET STRING 65 73" ∷
    "}" ∷ []))
unfolding digits encode_with is_utf8 chars encode
row-1 = refl

-- an indefinite element without first columns
row-2 : result (dump Ber None true plain_framing) (octets "30 80 05 00 00 00")
    ≡ clean_result (lines (
    "SEQUENCE {" ∷
    "  NULL" ∷
    "}" ∷ []))
unfolding digits encode_with is_utf8 chars encode
row-2 = refl

-- one row
row-3 : result (dump Ber (Some 1) false plain_framing)
    (octets "02 11 00 80 00 00 00 00 00 00 00 00 00 00 00 00 00 00 00")
    ≡ clean_result (lines (
    "       0     17: INTEGER" ∷
    "                   00 80 00 00 00 00 00 00 00 00 00 00 00 00 00 00" ∷
    "                   ..." ∷ []))
unfolding digits encode_with is_utf8 chars encode
row-3 = refl

-- no row
row-4 : result (dump Ber (Some 0) false plain_framing)
    (octets "02 11 00 80 00 00 00 00 00 00 00 00 00 00 00 00 00 00 00")
    ≡ clean_result (lines (
    "       0     17: INTEGER" ∷
    "                   ..." ∷ []))
unfolding digits encode_with is_utf8 chars encode
row-4 = refl

row-5 : result (dump Ber (Some 2) false plain_framing)
    (octets "02 11 00 80 00 00 00 00 00 00 00 00 00 00 00 00 00 00 00")
    ≡ clean_result (lines (
    "       0     17: INTEGER" ∷
    "                   00 80 00 00 00 00 00 00 00 00 00 00 00 00 00 00" ∷
    "                   00" ∷ []))
unfolding digits encode_with is_utf8 chars encode
row-5 = refl

row-6 : result (dump Ber (Some 4294967295) false plain_framing)
    (octets "30 13 02 11 00 80 00 00 00 00 00 00 00 00 00 00 00 00 00 00 00")
    ≡ clean_result (lines (
    "       0     19: SEQUENCE {" ∷
    "       2     17:   INTEGER" ∷
    "                     00 80 00 00 00 00 00 00 00 00 00 00 00 00 00 00" ∷
    "                     00" ∷
    "                 }" ∷ []))
unfolding digits encode_with is_utf8 chars encode
row-6 = refl

-- The row after the limit comes when it is full, or with the last octet
row-7 : result (dump Ber (Some 1) false plain_framing) (octets "04 31" ++ replicate 32 0x11)
    ≡ fault_result 0 Short 34 "fault at 34: F02 input ends inside an encoding" (lines (
    "       0     49: OCTET STRING" ∷
    "                   11 11 11 11 11 11 11 11 11 11 11 11 11 11 11 11" ∷
    "                   ..." ∷ []))
unfolding digits encode_with is_utf8 chars encode
row-7 = refl

-- it is not full, and nothing is reported of it
row-8 : result (dump Ber (Some 1) false plain_framing) (octets "04 31" ++ replicate 31 0x11)
    ≡ fault_result 0 Short 33 "fault at 33: F02 input ends inside an encoding" (lines (
    "       0     49: OCTET STRING" ∷
    "                   11 11 11 11 11 11 11 11 11 11 11 11 11 11 11 11" ∷ []))
unfolding digits encode_with is_utf8 chars encode
row-8 = refl

row-9 : result (dump Ber (Some 0) true plain_framing)
    (octets "30 13 02 11 00 80 00 00 00 00 00 00 00 00 00 00 00 00 00 00 00")
    ≡ clean_result (lines (
    "SEQUENCE {" ∷
    "  INTEGER" ∷
    "    ..." ∷
    "}" ∷ []))
unfolding digits encode_with is_utf8 chars encode
row-9 = refl

row-10 : result (dump Ber (Some 1) false plain_framing) (octets "06 13" ++ replicate 18 0xff ++ octets "7f")
    ≡ clean_result (lines (
    "       0     19: OBJECT IDENTIFIER" ∷
    "                   ff ff ff ff ff ff ff ff ff ff ff ff ff ff ff ff" ∷
    "                   ..." ∷ []))
unfolding digits encode_with is_utf8 chars encode
row-10 = nameless Ber (Some 1) false plain_framing (octets "06 13" ++ replicate 18 0xff ++ octets "7f")

row-11 : result (dump Der None true plain_framing) (octets "3a 80 04 03 4a 6f 6e 04 02 65 73 00 00")
    ≡ notice_result 2 "findings: 2" (lines (
    "VisibleString {" ∷
    "  OCTET STRING 4a 6f 6e" ∷
    "  OCTET STRING 65 73" ∷
    "}" ∷ []))
unfolding digits encode_with is_utf8 chars encode
row-11 = refl

row-12 : result (dump Ber (Some 0) true plain_framing)
    (octets "02 11 00 80 00 00 00 00 00 00 00 00 00 00 00 00 00 00 00")
    ≡ clean_result (lines (
    "INTEGER" ∷
    "  ..." ∷ []))
unfolding digits encode_with is_utf8 chars encode
row-12 = refl

-- findings are counted, and have no line
row-13 : result (dump Der None true plain_framing) (octets "30 80 05 00 00 00")
    ≡ notice_result 1 "findings: 1" (lines (
    "SEQUENCE {" ∷
    "  NULL" ∷
    "}" ∷ []))
unfolding digits encode_with is_utf8 chars encode
row-13 = refl
