-- What commands make of the inputs of tests/rows/extract.rows, shown by computing.
-- `tests/make-rows` writes this file.
use Rattle.std.proofs.Common.{◌≡◌, false, true, [], refl}
use Rattle.std.specs.Fmt.{digits}
use Rattle.std.specs.Str.{chars, is_utf8}
use Rattle.hex.specs.Hex.{encode_with}
use lib.Utf8.{encode}
use Rattle.tlv_head.specs.declared.fault.FaultCode.TheVariants.{Empty, Short, StrayEnd, ReservedLength, Overrun}
use Rattle.tlv_walk.specs.Framing.{plain_framing}
use Rattle.tlv_rows.proofs.Words.Octets.{octets}
use Rattle.tlv_rows.proofs.Words.Runs.{clean_result, extract, fault_result, notice_result, result}

-- the contents of a primitive
row-1 : result (extract 2 true plain_framing) (octets "30 03 02 01 05")
    ≡ clean_result (octets "05")
unfolding digits encode_with is_utf8 chars encode
row-1 = refl

row-2 : result (extract 2 false plain_framing) (octets "30 03 02 01 05")
    ≡ clean_result (octets "02 01 05")
unfolding digits encode_with is_utf8 chars encode
row-2 = refl

-- a definite element ends with its last octet
row-3 : result (extract 0 false plain_framing) (octets "30 03 02 01 05")
    ≡ clean_result (octets "30 03 02 01 05")
unfolding digits encode_with is_utf8 chars encode
row-3 = refl

-- no element begins within a header
row-4 : result (extract 3 false plain_framing) (octets "30 03 02 01 05")
    ≡ notice_result 0 "E4 no element at offset 3" []
unfolding digits encode_with is_utf8 chars encode
row-4 = refl

-- the same of contents
row-5 : result (extract 3 true plain_framing) (octets "30 03 02 01 05")
    ≡ notice_result 0 "E4 no element at offset 3" []
unfolding digits encode_with is_utf8 chars encode
row-5 = refl

row-6 : result (extract 1099511627776 false plain_framing) (octets "05 00")
    ≡ notice_result 0 "E4 no element at offset 1099511627776" []
unfolding digits encode_with is_utf8 chars encode
row-6 = refl

-- What follows the element is not read
row-7 : result (extract 2 false plain_framing) (octets "30 80 02 01 05 02")
    ≡ clean_result (octets "02 01 05")
unfolding digits encode_with is_utf8 chars encode
row-7 = refl

row-8 : result (extract 0 false plain_framing) (octets "05 00 00 00")
    ≡ clean_result (octets "05 00")
unfolding digits encode_with is_utf8 chars encode
row-8 = refl

-- Its own 00 00 belongs to the element, and not to the contents
row-9 : result (extract 2 false plain_framing) (octets "30 80 30 80 05 00 00 00 00 00")
    ≡ clean_result (octets "30 80 05 00 00 00")
unfolding digits encode_with is_utf8 chars encode
row-9 = refl

row-10 : result (extract 2 true plain_framing) (octets "30 80 30 80 05 00 00 00 00 00")
    ≡ clean_result (octets "05 00")
unfolding digits encode_with is_utf8 chars encode
row-10 = refl

-- a segment of a string
row-11 : result (extract 2 false plain_framing) (octets "3a 80 04 03 4a 6f 6e 04 02 65 73 00 00")
    ≡ clean_result (octets "04 03 4a 6f 6e")
unfolding digits encode_with is_utf8 chars encode
row-11 = refl

row-12 : result (extract 7 true plain_framing) (octets "3a 80 04 03 4a 6f 6e 04 02 65 73 00 00")
    ≡ clean_result (octets "65 73")
unfolding digits encode_with is_utf8 chars encode
row-12 = refl

-- A padded length and a high form are left as they are
row-13 : result (extract 0 false plain_framing) (octets "1f 82 02 82 00 01 aa")
    ≡ clean_result (octets "1f 82 02 82 00 01 aa")
unfolding digits encode_with is_utf8 chars encode
row-13 = refl

row-14 : result (extract 0 true plain_framing) (octets "04 00 05 00")
    ≡ clean_result []
unfolding digits encode_with is_utf8 chars encode
row-14 = refl

-- An unfinished header and a lone 00 are not written
row-15 : result (extract 0 false plain_framing) (octets "30 80 02")
    ≡ fault_result 0 Short 3 "fault at 3: F02 input ends inside an encoding" (octets "30 80")
unfolding digits encode_with is_utf8 chars encode
row-15 = refl

-- an unfinished end is not written
row-16 : result (extract 0 false plain_framing) (octets "30 80 00")
    ≡ fault_result 0 Short 3 "fault at 3: F02 input ends inside an encoding" (octets "30 80")
unfolding digits encode_with is_utf8 chars encode
row-16 = refl

row-17 : result (extract 0 false plain_framing) (octets "04 03 aa")
    ≡ fault_result 0 Short 3 "fault at 3: F02 input ends inside an encoding" (octets "04 03 aa")
unfolding digits encode_with is_utf8 chars encode
row-17 = refl

row-18 : result (extract 5 false plain_framing) (octets "05 00 04 ff")
    ≡ fault_result 0 ReservedLength 3 "fault at 3: F07 length octet ff is reserved" []
unfolding digits encode_with is_utf8 chars encode
row-18 = refl

-- an empty input
row-19 : result (extract 0 false plain_framing) []
    ≡ fault_result 0 Empty 0 "fault at 0: F01 empty input" []
unfolding digits encode_with is_utf8 chars encode
row-19 = refl

-- there is none if the string is not named
row-20 : result (extract 4 false plain_framing) (octets "04 05 30 03 02 01 07")
    ≡ notice_result 0 "E4 no element at offset 4" []
unfolding digits encode_with is_utf8 chars encode
row-20 = refl

-- the same string, not named
row-21 : result (extract 0 false plain_framing) (octets "04 05 30")
    ≡ fault_result 0 Short 3 "fault at 3: F02 input ends inside an encoding" (octets "04 05 30")
unfolding digits encode_with is_utf8 chars encode
row-21 = refl

row-22 : result (extract 1 false plain_framing) (octets "00 05 00 00")
    ≡ fault_result 0 StrayEnd 0 "fault at 0: F03 end-of-contents outside an indefinite element" []
unfolding digits encode_with is_utf8 chars encode
row-22 = refl

-- the end-of-contents octets of an element
row-23 : result (extract 0 false plain_framing) (octets "30 80 30 80 05 00 00 00 00 00 01")
    ≡ clean_result (octets "30 80 30 80 05 00 00 00 00 00")
unfolding digits encode_with is_utf8 chars encode
row-23 = refl

-- they are no contents octets
row-24 : result (extract 0 true plain_framing) (octets "30 80 30 80 05 00 00 00 00 00 01")
    ≡ clean_result (octets "30 80 05 00 00 00")
unfolding digits encode_with is_utf8 chars encode
row-24 = refl

-- it is not found
row-25 : result (extract 2 false plain_framing) (octets "30 80 02")
    ≡ fault_result 0 Short 3 "fault at 3: F02 input ends inside an encoding" []
unfolding digits encode_with is_utf8 chars encode
row-25 = refl

-- a fault in the element
row-26 : result (extract 0 false plain_framing) (octets "30 03 02 02 01")
    ≡ fault_result 0 Overrun 3 "fault at 3: F11 element runs past the enclosing length" (octets "30 03")
unfolding digits encode_with is_utf8 chars encode
row-26 = refl

-- a fault before the element
row-27 : result (extract 4 false plain_framing) (octets "30 02 00 00 05 00")
    ≡ fault_result 0 StrayEnd 2 "fault at 2: F03 end-of-contents outside an indefinite element" []
unfolding digits encode_with is_utf8 chars encode
row-27 = refl

-- the contents so far
row-28 : result (extract 0 true plain_framing) (octets "04 03 aa bb")
    ≡ fault_result 0 Short 4 "fault at 4: F02 input ends inside an encoding" (octets "aa bb")
unfolding digits encode_with is_utf8 chars encode
row-28 = refl

row-29 : result (extract 9 false plain_framing) (octets "30 03 02 02 01")
    ≡ fault_result 0 Overrun 3 "fault at 3: F11 element runs past the enclosing length" []
unfolding digits encode_with is_utf8 chars encode
row-29 = refl

-- the element's own end-of-contents octets are none of its contents
row-30 : result (extract 0 true plain_framing) (octets "30 80 05 00 00 00")
    ≡ clean_result (octets "05 00")
unfolding digits encode_with is_utf8 chars encode
row-30 = refl

-- the NULL in it
row-31 : result (extract 2 false plain_framing) (octets "30 80 05 00 00 00")
    ≡ clean_result (octets "05 00")
unfolding digits encode_with is_utf8 chars encode
row-31 = refl

-- no element begins there
row-32 : result (extract 3 false plain_framing) (octets "30 80 05 00 00 00")
    ≡ notice_result 0 "E4 no element at offset 3" []
unfolding digits encode_with is_utf8 chars encode
row-32 = refl

-- what follows a whole element does not count
row-33 : result (extract 2 false plain_framing) (octets "30 80 05 00 30 05")
    ≡ clean_result (octets "05 00")
unfolding digits encode_with is_utf8 chars encode
row-33 = refl

-- the fault takes precedence over the missing element
row-34 : result (extract 3 false plain_framing) (octets "30 80 05 00 30 05")
    ≡ fault_result 0 Short 6 "fault at 6: F02 input ends inside an encoding" []
unfolding digits encode_with is_utf8 chars encode
row-34 = refl
