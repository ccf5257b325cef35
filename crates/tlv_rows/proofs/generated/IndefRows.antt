-- What commands make of the inputs of tests/rows/indef.rows, shown by computing.
-- `tests/make-rows` writes this file.
use Rattle.std.proofs.Common.{◌≡◌, false, [], refl}
use Rattle.std.specs.Fmt.{digits}
use Rattle.std.specs.Str.{chars, is_utf8}
use Rattle.hex.specs.Hex.{encode_with}
use lib.Utf8.{encode}
use Rattle.tlv_head.specs.declared.fault.FaultCode.TheVariants.{Empty, Short, StrayEnd, BadEnd, MissingEnd}
use Rattle.tlv_head.specs.declared.fault.FaultCode.TheVariants.{TagTooLong, ReservedLength}
use Rattle.tlv_head.specs.declared.fault.FaultCode.TheVariants.{IndefinitePrimitive, LengthTooLarge, Overrun}
use Rattle.tlv_rows.proofs.Words.Octets.{octets}
use Rattle.tlv_rows.proofs.Words.Runs.{clean_result, fault_result, indef, result}

-- a definite length
row-1 : result (indef false) (octets "30 03 02 01 05")
    ≡ clean_result (octets "30 80 02 01 05 00 00")
unfolding digits encode_with is_utf8 chars encode
row-1 = refl

-- an indefinite length
row-2 : result (indef false) (octets "30 80 02 01 05 00 00")
    ≡ clean_result (octets "30 80 02 01 05 00 00")
unfolding digits encode_with is_utf8 chars encode
row-2 = refl

row-3 : result (indef false) (octets "02 01 05")
    ≡ clean_result (octets "02 01 05")
unfolding digits encode_with is_utf8 chars encode
row-3 = refl

row-4 : result (indef false) (octets "30 81 05 24 03 04 01 aa 04 82 00 01 bb")
    ≡ clean_result (octets "30 80 24 80 04 01 aa 00 00 00 00 04 82 00 01 bb")
unfolding digits encode_with is_utf8 chars encode
row-4 = refl

row-5 : result (indef false) (octets "bf 81 48 04 30 02 05 00")
    ≡ clean_result (octets "bf 81 48 80 30 80 05 00 00 00 00 00")
unfolding digits encode_with is_utf8 chars encode
row-5 = refl

-- nothing is added to what is open
row-6 : result (indef false) (octets "30 03 02 01")
    ≡ fault_result 0 Short 4 "fault at 4: F02 input ends inside an encoding" (octets "30 80 02 01")
unfolding digits encode_with is_utf8 chars encode
row-6 = refl

row-7 : result (indef false) (octets "30 80 00")
    ≡ fault_result 0 Short 3 "fault at 3: F02 input ends inside an encoding" (octets "30 80")
unfolding digits encode_with is_utf8 chars encode
row-7 = refl

row-8 : result (indef false) (octets "30 04 02 01 05 02")
    ≡ fault_result 0 Short 6 "fault at 6: F02 input ends inside an encoding" (octets "30 80 02 01 05")
unfolding digits encode_with is_utf8 chars encode
row-8 = refl

-- nothing to write again
row-9 : result (indef false) []
    ≡ fault_result 0 Empty 0 "fault at 0: F01 empty input" []
unfolding digits encode_with is_utf8 chars encode
row-9 = refl

row-10 : result (indef false) (octets "30 80 00 00 00 30 02 05 00")
    ≡ fault_result 0 StrayEnd 4 "fault at 4: F03 end-of-contents outside an indefinite element" (octets "30 80 00 00")
unfolding digits encode_with is_utf8 chars encode
row-10 = refl

row-11 : result (indef false) (octets "3a 09 04 03 4a 6f 6e 04 02 65 73")
    ≡ clean_result (octets "3a 80 04 03 4a 6f 6e 04 02 65 73 00 00")
unfolding digits encode_with is_utf8 chars encode
row-11 = refl

row-12 : result (indef false) (octets "20 00")
    ≡ clean_result (octets "20 80 00 00")
unfolding digits encode_with is_utf8 chars encode
row-12 = refl

row-13 : result (indef false) (octets "30 80 02")
    ≡ fault_result 0 Short 3 "fault at 3: F02 input ends inside an encoding" (octets "30 80")
unfolding digits encode_with is_utf8 chars encode
row-13 = refl

row-14 : result (indef false) (octets "30 01 02")
    ≡ fault_result 0 Short 3 "fault at 3: F02 input ends inside an encoding" (octets "30 80")
unfolding digits encode_with is_utf8 chars encode
row-14 = refl

row-15 : result (indef false) (octets "30 80 02 01 05")
    ≡ fault_result 0 Short 5 "fault at 5: F02 input ends inside an encoding" (octets "30 80 02 01 05")
unfolding digits encode_with is_utf8 chars encode
row-15 = refl

row-16 : result (indef false) (octets "30 80 02 01 05 02")
    ≡ fault_result 0 Short 6 "fault at 6: F02 input ends inside an encoding" (octets "30 80 02 01 05")
unfolding digits encode_with is_utf8 chars encode
row-16 = refl

row-17 : result (indef false) (octets "30 05 30 80 02 01 05")
    ≡ fault_result 0 Short 7 "fault at 7: F02 input ends inside an encoding" (octets "30 80 30 80 02 01 05")
unfolding digits encode_with is_utf8 chars encode
row-17 = refl

row-18 : result (indef false) (octets "04 85 ff ff ff ff ff")
    ≡ fault_result 0 Short 7 "fault at 7: F02 input ends inside an encoding" (octets "04 85 ff ff ff ff ff")
unfolding digits encode_with is_utf8 chars encode
row-18 = refl

row-19 : result (indef false) (octets "30 84 ff ff ff ff")
    ≡ fault_result 0 Short 6 "fault at 6: F02 input ends inside an encoding" (octets "30 80")
unfolding digits encode_with is_utf8 chars encode
row-19 = refl

row-20 : result (indef false) (octets "30 02 00 00")
    ≡ fault_result 0 StrayEnd 2 "fault at 2: F03 end-of-contents outside an indefinite element" (octets "30 80")
unfolding digits encode_with is_utf8 chars encode
row-20 = refl

row-21 : result (indef false) (octets "05 00 00 00")
    ≡ fault_result 0 StrayEnd 2 "fault at 2: F03 end-of-contents outside an indefinite element" (octets "05 00")
unfolding digits encode_with is_utf8 chars encode
row-21 = refl

row-22 : result (indef false) (octets "00 00 05 00 00 00 05 00 00")
    ≡ fault_result 0 StrayEnd 0 "fault at 0: F03 end-of-contents outside an indefinite element" []
unfolding digits encode_with is_utf8 chars encode
row-22 = refl

row-23 : result (indef false) (octets "30 80 00 01")
    ≡ fault_result 0 BadEnd 3 "fault at 3: F04 octet 00 not followed by 00" (octets "30 80")
unfolding digits encode_with is_utf8 chars encode
row-23 = refl

row-24 : result (indef false) (octets "30 03 30 80 00 00")
    ≡ fault_result 0 MissingEnd 5 "fault at 5: F05 no end-of-contents inside the enclosing length"
    (octets "30 80 30 80")
unfolding digits encode_with is_utf8 chars encode
row-24 = refl

row-25 : result (indef false) (octets "30 05 30 80 02 01 05 00")
    ≡ fault_result 0 MissingEnd 7 "fault at 7: F05 no end-of-contents inside the enclosing length"
    (octets "30 80 30 80 02 01 05")
unfolding digits encode_with is_utf8 chars encode
row-25 = refl

row-26 : result (indef false) (octets "9f 81 80 80 80 80 80 80 80 80")
    ≡ fault_result 0 TagTooLong 9 "fault at 9: F06 more than nine octets of tag number" []
unfolding digits encode_with is_utf8 chars encode
row-26 = refl

row-27 : result (indef false) (octets "04 ff")
    ≡ fault_result 0 ReservedLength 1 "fault at 1: F07 length octet ff is reserved" []
unfolding digits encode_with is_utf8 chars encode
row-27 = refl

row-28 : result (indef false) (octets "04 80")
    ≡ fault_result 0 IndefinitePrimitive 1 "fault at 1: F08 indefinite length of a primitive" []
unfolding digits encode_with is_utf8 chars encode
row-28 = refl

row-29 : result (indef false) (octets "04 86 01")
    ≡ fault_result 0 LengthTooLarge 2 "fault at 2: F09 length of 2^40 or more" []
unfolding digits encode_with is_utf8 chars encode
row-29 = refl

row-30 : result (indef false) (octets "30 03 02 02 01")
    ≡ fault_result 0 Overrun 3 "fault at 3: F11 element runs past the enclosing length" (octets "30 80")
unfolding digits encode_with is_utf8 chars encode
row-30 = refl

row-31 : result (indef false) (octets "30 01 02 00")
    ≡ fault_result 0 Overrun 3 "fault at 3: F11 element runs past the enclosing length" (octets "30 80")
unfolding digits encode_with is_utf8 chars encode
row-31 = refl

row-32 : result (indef false) (octets "00 05 00")
    ≡ fault_result 0 StrayEnd 0 "fault at 0: F03 end-of-contents outside an indefinite element" []
unfolding digits encode_with is_utf8 chars encode
row-32 = refl

-- it is indefinite already
row-33 : result (indef false) (octets "30 80 05 00 00 00")
    ≡ clean_result (octets "30 80 05 00 00 00")
unfolding digits encode_with is_utf8 chars encode
row-33 = refl

-- no end-of-contents octets after what is open
row-34 : result (indef false) (octets "30 80 05 00 30 05")
    ≡ fault_result 0 Short 6 "fault at 6: F02 input ends inside an encoding" (octets "30 80 05 00 30 80")
unfolding digits encode_with is_utf8 chars encode
row-34 = refl
