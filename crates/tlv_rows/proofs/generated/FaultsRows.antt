-- What commands make of the inputs of tests/rows/faults.rows, shown by computing.
-- `tests/make-rows` writes this file.
use Rattle.std.proofs.Common.{◌≡◌, false, [], ◌∷◌, ◌++◌, None, refl}
use Rattle.std.specs.Prelude.{replicate}
use Rattle.std.specs.Fmt.{digits}
use Rattle.std.specs.Str.{chars, is_utf8}
use Rattle.hex.specs.Hex.{encode_with}
use lib.Utf8.{encode}
use Rattle.tlv_head.specs.declared.fault.FaultCode.TheVariants.{Empty, Short, StrayEnd, BadEnd, MissingEnd}
use Rattle.tlv_head.specs.declared.fault.FaultCode.TheVariants.{TagTooLong, ReservedLength}
use Rattle.tlv_head.specs.declared.fault.FaultCode.TheVariants.{IndefinitePrimitive, LengthTooLarge, Overrun}
use Rattle.tlv_show.specs.declared.rules.Rules.TheVariants.{Ber}
use Rattle.tlv_walk.specs.Framing.{plain_framing}
use Rattle.tlv_rows.proofs.Words.Octets.{lines, octets}
use Rattle.tlv_rows.proofs.Words.Runs.{dump, fault_result, result}

-- an empty input
row-1 : result (dump Ber None false plain_framing) []
    ≡ fault_result 0 Empty 0 "fault at 0: F01 empty input" []
unfolding digits encode_with is_utf8 chars encode
row-1 = refl

-- contents that end beyond the bound
row-2 : result (dump Ber None false plain_framing) (octets "30 03 02 02 01")
    ≡ fault_result 0 Overrun 3 "fault at 3: F11 element runs past the enclosing length" (lines (
    "       0      3: SEQUENCE {" ∷ []))
unfolding digits encode_with is_utf8 chars encode
row-2 = refl

-- an unfinished header at the bound
row-3 : result (dump Ber None false plain_framing) (octets "30 01 02")
    ≡ fault_result 0 Short 3 "fault at 3: F02 input ends inside an encoding" (lines (
    "       0      1: SEQUENCE {" ∷ []))
unfolding digits encode_with is_utf8 chars encode
row-3 = refl

-- a header that ends beyond the bound
row-4 : result (dump Ber None false plain_framing) (octets "30 01 02 00")
    ≡ fault_result 0 Overrun 3 "fault at 3: F11 element runs past the enclosing length" (lines (
    "       0      1: SEQUENCE {" ∷ []))
unfolding digits encode_with is_utf8 chars encode
row-4 = refl

-- no end-of-contents octets
row-5 : result (dump Ber None false plain_framing) (octets "30 80 02 01 05")
    ≡ fault_result 0 Short 5 "fault at 5: F02 input ends inside an encoding" (lines (
    "       0  indef: SEQUENCE {" ∷
    "       2      1:   INTEGER 5" ∷ []))
unfolding digits encode_with is_utf8 chars encode
row-5 = refl

-- end-of-contents octets in a definite element
row-6 : result (dump Ber None false plain_framing) (octets "30 02 00 00")
    ≡ fault_result 0 StrayEnd 2 "fault at 2: F03 end-of-contents outside an indefinite element" (lines (
    "       0      2: SEQUENCE {" ∷ []))
unfolding digits encode_with is_utf8 chars encode
row-6 = refl

-- one end-of-contents octet, and another octet
row-7 : result (dump Ber None false plain_framing) (octets "30 80 00 01")
    ≡ fault_result 0 BadEnd 3 "fault at 3: F04 octet 00 not followed by 00" (lines (
    "       0  indef: SEQUENCE {" ∷ []))
unfolding digits encode_with is_utf8 chars encode
row-7 = refl

-- no end-of-contents octets, and the bound reached
row-8 : result (dump Ber None false plain_framing) (octets "30 05 30 80 02 01 05")
    ≡ fault_result 0 Short 7 "fault at 7: F02 input ends inside an encoding" (lines (
    "       0      5: SEQUENCE {" ∷
    "       2  indef:   SEQUENCE {" ∷
    "       4      1:     INTEGER 5" ∷ []))
unfolding digits encode_with is_utf8 chars encode
row-8 = refl

-- an octet 00 after the bound of an indefinite element
row-9 : result (dump Ber None false plain_framing) (octets "30 05 30 80 02 01 05 00")
    ≡ fault_result 0 MissingEnd 7 "fault at 7: F05 no end-of-contents inside the enclosing length" (lines (
    "       0      5: SEQUENCE {" ∷
    "       2  indef:   SEQUENCE {" ∷
    "       4      1:     INTEGER 5" ∷ []))
unfolding digits encode_with is_utf8 chars encode
row-9 = refl

-- end-of-contents octets across the bound
row-10 : result (dump Ber None false plain_framing) (octets "30 03 30 80 00 00")
    ≡ fault_result 0 MissingEnd 5 "fault at 5: F05 no end-of-contents inside the enclosing length" (lines (
    "       0      3: SEQUENCE {" ∷
    "       2  indef:   SEQUENCE {" ∷ []))
unfolding digits encode_with is_utf8 chars encode
row-10 = refl

-- end-of-contents octets between encodings
row-11 : result (dump Ber None false plain_framing) (octets "05 00 00 00")
    ≡ fault_result 0 StrayEnd 2 "fault at 2: F03 end-of-contents outside an indefinite element" (lines (
    "       0      0: NULL" ∷ []))
unfolding digits encode_with is_utf8 chars encode
row-11 = refl

-- a tenth octet of tag number to come
row-12 : result (dump Ber None false plain_framing) (octets "9f 81 80 80 80 80 80 80 80 80")
    ≡ fault_result 0 TagTooLong 9 "fault at 9: F06 more than nine octets of tag number" []
unfolding digits encode_with is_utf8 chars encode
row-12 = refl

-- the reserved length octet
row-13 : result (dump Ber None false plain_framing) (octets "04 ff")
    ≡ fault_result 0 ReservedLength 1 "fault at 1: F07 length octet ff is reserved" []
unfolding digits encode_with is_utf8 chars encode
row-13 = refl

-- the indefinite form at a primitive
row-14 : result (dump Ber None false plain_framing) (octets "04 80")
    ≡ fault_result 0 IndefinitePrimitive 1 "fault at 1: F08 indefinite length of a primitive" []
unfolding digits encode_with is_utf8 chars encode
row-14 = refl

-- a length of six octets
row-15 : result (dump Ber None false plain_framing) (octets "04 86 01")
    ≡ fault_result 0 LengthTooLarge 2 "fault at 2: F09 length of 2^40 or more" []
unfolding digits encode_with is_utf8 chars encode
row-15 = refl

-- the same after 120 octets 00
row-16 : result (dump Ber None false plain_framing) (octets "04 fe" ++ replicate 120 0x00 ++ octets "01")
    ≡ fault_result 0 LengthTooLarge 122 "fault at 122: F09 length of 2^40 or more" []
unfolding digits encode_with is_utf8 chars encode
row-16 = refl

-- the largest length of a primitive
row-17 : result (dump Ber None false plain_framing) (octets "04 85 ff ff ff ff ff")
    ≡ fault_result 0 Short 7 "fault at 7: F02 input ends inside an encoding" (lines (
    "       0 1099511627775: OCTET STRING" ∷ []))
unfolding digits encode_with is_utf8 chars encode
row-17 = refl

-- a large length of a constructed element
row-18 : result (dump Ber None false plain_framing) (octets "30 84 ff ff ff ff")
    ≡ fault_result 0 Short 6 "fault at 6: F02 input ends inside an encoding" (lines (
    "       0 4294967295: SEQUENCE {" ∷ []))
unfolding digits encode_with is_utf8 chars encode
row-18 = refl

row-19 : result (dump Ber None false plain_framing) (octets "04 03 aa")
    ≡ fault_result 0 Short 3 "fault at 3: F02 input ends inside an encoding" []
unfolding digits encode_with is_utf8 chars encode
row-19 = refl

row-20 : result (dump Ber None false plain_framing) (octets "30 82")
    ≡ fault_result 0 Short 2 "fault at 2: F02 input ends inside an encoding" []
unfolding digits encode_with is_utf8 chars encode
row-20 = refl

row-21 : result (dump Ber None false plain_framing) (octets "00 00 05 00")
    ≡ fault_result 0 StrayEnd 0 "fault at 0: F03 end-of-contents outside an indefinite element" []
unfolding digits encode_with is_utf8 chars encode
row-21 = refl

-- an unfinished length at the bound
row-22 : result (dump Ber None false plain_framing) (octets "30 02 04 81")
    ≡ fault_result 0 Short 4 "fault at 4: F02 input ends inside an encoding" (lines (
    "       0      2: SEQUENCE {" ∷ []))
unfolding digits encode_with is_utf8 chars encode
row-22 = refl

-- an open element at the bound
row-23 : result (dump Ber None false plain_framing) (octets "30 02 30 80")
    ≡ fault_result 0 Short 4 "fault at 4: F02 input ends inside an encoding" (lines (
    "       0      2: SEQUENCE {" ∷
    "       2  indef:   SEQUENCE {" ∷ []))
unfolding digits encode_with is_utf8 chars encode
row-23 = refl

-- one end-of-contents octet
row-24 : result (dump Ber None false plain_framing) (octets "30 80 00")
    ≡ fault_result 0 Short 3 "fault at 3: F02 input ends inside an encoding" (lines (
    "       0  indef: SEQUENCE {" ∷ []))
unfolding digits encode_with is_utf8 chars encode
row-24 = refl

-- an element after the bound of an indefinite element
row-25 : result (dump Ber None false plain_framing) (octets "30 05 30 80 02 01 05 02 00")
    ≡ fault_result 0 MissingEnd 7 "fault at 7: F05 no end-of-contents inside the enclosing length" (lines (
    "       0      5: SEQUENCE {" ∷
    "       2  indef:   SEQUENCE {" ∷
    "       4      1:     INTEGER 5" ∷ []))
unfolding digits encode_with is_utf8 chars encode
row-25 = refl

-- padding that is not asked for
row-26 : result (dump Ber None false plain_framing) (octets "00 00 05 00 00 00 05 00 00")
    ≡ fault_result 0 StrayEnd 0 "fault at 0: F03 end-of-contents outside an indefinite element" []
unfolding digits encode_with is_utf8 chars encode
row-26 = refl

-- another octet is refused in the same way
row-27 : result (dump Ber None false plain_framing) (octets "30 05 30 80 02 01 05 02")
    ≡ fault_result 0 MissingEnd 7 "fault at 7: F05 no end-of-contents inside the enclosing length" (lines (
    "       0      5: SEQUENCE {" ∷
    "       2  indef:   SEQUENCE {" ∷
    "       4      1:     INTEGER 5" ∷ []))
unfolding digits encode_with is_utf8 chars encode
row-27 = refl

-- the NULL before them is written
row-28 : result (dump Ber None false plain_framing) (octets "05 00 00")
    ≡ fault_result 0 StrayEnd 2 "fault at 2: F03 end-of-contents outside an indefinite element" (lines (
    "       0      0: NULL" ∷ []))
unfolding digits encode_with is_utf8 chars encode
row-28 = refl
