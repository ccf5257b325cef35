-- What commands make of the inputs of tests/rows/findings.rows, shown by computing.
-- `tests/make-rows` writes this file.
use Rattle.std.proofs.Common.{◌≡◌, false, [], ◌∷◌, ◌++◌, None, refl}
use Rattle.std.specs.Prelude.{replicate}
use Rattle.std.specs.Fmt.{digits}
use Rattle.std.specs.Str.{chars, is_utf8}
use Rattle.hex.specs.Hex.{encode_with}
use lib.Utf8.{encode}
use Rattle.tlv_head.specs.declared.fault.FaultCode.TheVariants.{Empty, Short, StrayEnd}
use Rattle.tlv_show.specs.declared.rules.Rules.TheVariants.{Ber, Der, Cer}
use Rattle.tlv_walk.specs.Framing.{plain_framing}
use Rattle.tlv_rows.proofs.Words.Octets.{lines, octets}
use Rattle.tlv_rows.proofs.Words.Runs.{check, clean_result, dump, fault_result, nameless, notice_result, result}

row-1 : result (check Der plain_framing) []
    ≡ fault_result 0 Empty 0 "fault at 0: F01 empty input" []
unfolding digits encode_with is_utf8 chars encode
row-1 = refl

-- BER has it
row-2 : result (check Ber plain_framing) (octets "3a 09 04 03 4a 6f 6e 04 02 65 73")
    ≡ clean_result []
unfolding digits encode_with is_utf8 chars encode
row-2 = refl

-- DER has it whole alone
row-3 : result (check Der plain_framing) (octets "3a 09 04 03 4a 6f 6e 04 02 65 73")
    ≡ notice_result 1 "findings: 1" (lines (
    "0 D02 constructed string" ∷ []))
unfolding digits encode_with is_utf8 chars encode
row-3 = refl

-- CER has segments of 1000 octets in an indefinite element
row-4 : result (check Cer plain_framing) (octets "3a 09 04 03 4a 6f 6e 04 02 65 73")
    ≡ notice_result 3 "findings: 3" (lines (
    "0 C01 definite length of a constructed element" ∷
    "7 C04 segment follows one not of 1000 octets" ∷
    "0 C05 constructed string fits in 1000 octets" ∷ []))
unfolding digits encode_with is_utf8 chars encode
row-4 = refl

-- the same of indefinite length
row-5 : result (dump Der None false plain_framing) (octets "3a 80 04 03 4a 6f 6e 04 02 65 73 00 00")
    ≡ notice_result 2 "findings: 2" (lines (
    "       0    D01: indefinite length" ∷
    "       0    D02: constructed string" ∷
    "       0  indef: VisibleString {" ∷
    "       2      3:   OCTET STRING 4a 6f 6e" ∷
    "       7      2:   OCTET STRING 65 73" ∷
    "      11    end: }" ∷ []))
unfolding digits encode_with is_utf8 chars encode
row-5 = refl

-- a universal number in the high form
row-6 : result (dump Ber None false plain_framing) (octets "1f 02 01 05")
    ≡ notice_result 1 "findings: 1" (lines (
    "       0    B01: high form for a number below 31" ∷
    "       0      1: INTEGER 5" ∷ []))
unfolding digits encode_with is_utf8 chars encode
row-6 = refl

-- a length in more octets than it needs
row-7 : result (check Der plain_framing) (octets "04 81 03 aa bb cc")
    ≡ notice_result 1 "findings: 1" (lines (
    "0 S01 length is not the shortest" ∷ []))
unfolding digits encode_with is_utf8 chars encode
row-7 = refl

-- unused bits that are 1
row-8 : result (check Der plain_framing) (octets "03 02 05 bf")
    ≡ notice_result 1 "findings: 1" (lines (
    "0 S03 unused bits are set" ∷ []))
unfolding digits encode_with is_utf8 chars encode
row-8 = refl

-- a BIT STRING of unused bits alone
row-9 : result (dump Ber None false plain_framing) (octets "03 01 03")
    ≡ notice_result 1 "findings: 1" (lines (
    "       0      1: BIT STRING 03" ∷
    "       0    B15: unused bits of no octet" ∷ []))
unfolding digits encode_with is_utf8 chars encode
row-9 = refl

-- a BIT STRING without contents
row-10 : result (dump Ber None false plain_framing) (octets "03 00")
    ≡ notice_result 1 "findings: 1" (lines (
    "       0      0: BIT STRING" ∷
    "       0    B13: no first octet of a bit string" ∷ []))
unfolding digits encode_with is_utf8 chars encode
row-10 = refl

row-11 : result (check Ber plain_framing) (octets "03 01 00")
    ≡ clean_result []
unfolding digits encode_with is_utf8 chars encode
row-11 = refl

-- a padded subidentifier
row-12 : result (dump Ber None false plain_framing) (octets "06 02 80 01")
    ≡ notice_result 1 "findings: 1" (lines (
    "       0      2: OBJECT IDENTIFIER 0.1" ∷
    "       0    B11: subidentifier is padded" ∷ []))
unfolding digits encode_with is_utf8 chars encode
row-12 = nameless Ber None false plain_framing (octets "06 02 80 01")

-- an unfinished subidentifier
row-13 : result (dump Ber None false plain_framing) (octets "06 02 2a 86")
    ≡ notice_result 1 "findings: 1" (lines (
    "       0      2: OBJECT IDENTIFIER 2a 86" ∷
    "       0    B12: last subidentifier is unfinished" ∷ []))
unfolding digits encode_with is_utf8 chars encode
row-13 = nameless Ber None false plain_framing (octets "06 02 2a 86")

-- 1000 octets, and the rest
row-14 : result (check Cer plain_framing)
    (octets "24 80 04 82 03 e8" ++ replicate 1000 0x00 ++ octets "04 01 00 00 00")
    ≡ clean_result []
unfolding digits encode_with is_utf8 chars encode
row-14 = refl

-- 1000 octets, and none
row-15 : result (check Cer plain_framing) (octets "24 80 04 82 03 e8" ++ replicate 1000 0x00 ++ octets "04 00 00 00")
    ≡ notice_result 2 "findings: 2" (lines (
    "0 C05 constructed string fits in 1000 octets" ∷
    "0 C06 last segment is empty" ∷ []))
unfolding digits encode_with is_utf8 chars encode
row-15 = refl

-- 1001 octets in one
row-16 : result (check Cer plain_framing) (octets "04 82 03 e9" ++ replicate 1001 0x00)
    ≡ notice_result 1 "findings: 1" (lines (
    "0 C02 primitive string above 1000 octets" ∷ []))
unfolding digits encode_with is_utf8 chars encode
row-16 = refl

-- 1000 octets would do, the first among them
row-17 : result (check Cer plain_framing)
    (octets "23 80 03 82 03 e8" ++ replicate 1000 0x00 ++ octets "03 01 00 00 00")
    ≡ notice_result 1 "findings: 1" (lines (
    "0 C05 constructed string fits in 1000 octets" ∷ []))
unfolding digits encode_with is_utf8 chars encode
row-17 = refl

-- universal number 0
row-18 : result (dump Ber None false plain_framing) (octets "20 00")
    ≡ notice_result 1 "findings: 1" (lines (
    "       0    B03: unassigned universal number" ∷
    "       0      0: [UNIVERSAL 0] {" ∷
    "                 }" ∷ []))
unfolding digits encode_with is_utf8 chars encode
row-18 = refl

-- universal number 0 in the high form, padded
row-19 : result (dump Ber None false plain_framing) (octets "1f 00 00")
    ≡ notice_result 3 "findings: 3" (lines (
    "       0    B01: high form for a number below 31" ∷
    "       0    B02: tag number begins with zero bits" ∷
    "       0    B03: unassigned universal number" ∷
    "       0      0: [UNIVERSAL 0]" ∷ []))
unfolding digits encode_with is_utf8 chars encode
row-19 = refl

-- characters that are escaped
row-20 : result (dump Ber None false plain_framing) (octets "0c 06 22 5c 0a c3 a9 ff")
    ≡ notice_result 1 "findings: 1" (lines (
    "       0      6: UTF8String \"\\\"\\\\\\x0a\\u{e9}\\xff\"" ∷
    "       0    B18: characters not of the type" ∷ []))
unfolding digits encode_with is_utf8 chars encode
row-20 = refl

-- a BMPString of an odd number of octets
row-21 : result (dump Ber None false plain_framing) (octets "1e 03 00 41 20")
    ≡ notice_result 1 "findings: 1" (lines (
    "       0      3: BMPString \"A\\x20\"" ∷
    "       0    B18: characters not of the type" ∷ []))
unfolding digits encode_with is_utf8 chars encode
row-21 = refl

-- a padded INTEGER
row-22 : result (dump Ber None false plain_framing) (octets "02 02 00 7f")
    ≡ notice_result 1 "findings: 1" (lines (
    "       0      2: INTEGER 127" ∷
    "       0    B08: integer is padded" ∷ []))
unfolding digits encode_with is_utf8 chars encode
row-22 = refl

-- DER has one TRUE
row-23 : result (check Der plain_framing) (octets "01 01 01")
    ≡ notice_result 1 "findings: 1" (lines (
    "0 S02 TRUE is not ff" ∷ []))
unfolding digits encode_with is_utf8 chars encode
row-23 = refl

-- the length 128 after an octet 00
row-24 : result (check Der plain_framing) (octets "04 82 00 80" ++ replicate 128 0x00)
    ≡ notice_result 1 "findings: 1" (lines (
    "0 S01 length is not the shortest" ∷ []))
unfolding digits encode_with is_utf8 chars encode
row-24 = refl

-- bits are unused before the last segment, and that is no BIT STRING
row-25 : result (check Ber plain_framing) (octets "23 80 03 02 01 00 04 01 00 00 00")
    ≡ notice_result 2 "findings: 2" (lines (
    "6 B16 segment follows unused bits" ∷
    "6 B17 segment has another tag" ∷ []))
unfolding digits encode_with is_utf8 chars encode
row-25 = refl

-- an INTEGER without contents
row-26 : result (dump Ber None false plain_framing) (octets "02 00")
    ≡ notice_result 1 "findings: 1" (lines (
    "       0      0: INTEGER" ∷
    "       0    B07: no contents of an integer" ∷ []))
unfolding digits encode_with is_utf8 chars encode
row-26 = refl

-- a BOOLEAN of two octets
row-27 : result (dump Ber None false plain_framing) (octets "01 02 01 01")
    ≡ notice_result 1 "findings: 1" (lines (
    "       0      2: BOOLEAN 01 01" ∷
    "       0    B06: BOOLEAN is not one octet" ∷ []))
unfolding digits encode_with is_utf8 chars encode
row-27 = refl

-- NULL with contents
row-28 : result (dump Ber None false plain_framing) (octets "05 01 aa")
    ≡ notice_result 1 "findings: 1" (lines (
    "       0      1: NULL aa" ∷
    "       0    B09: NULL has contents" ∷ []))
unfolding digits encode_with is_utf8 chars encode
row-28 = refl

row-29 : result (check Der plain_framing) (octets "04 81 03 aa bb cc 00")
    ≡ fault_result 1 StrayEnd 6 "fault at 6: F03 end-of-contents outside an indefinite element" (lines (
    "0 S01 length is not the shortest" ∷ []))
unfolding digits encode_with is_utf8 chars encode
row-29 = refl

-- the longest header
row-30 : result (check Der plain_framing) (octets "9f 81 80 80 80 80 80 80 80 00 fe" ++
    replicate 125 0x00 ++
    octets "01 aa")
    ≡ notice_result 1 "findings: 1" (lines (
    "0 S01 length is not the shortest" ∷ []))
unfolding digits encode_with is_utf8 chars encode
row-30 = refl

row-31 : result (check Ber plain_framing) (octets "3a 80 04 03 4a 6f 6e 04 02 65 73 00 00")
    ≡ clean_result []
unfolding digits encode_with is_utf8 chars encode
row-31 = refl

-- the finding comes before the line
row-32 : result (dump Der None false plain_framing) (octets "30 80 05 00 00 00")
    ≡ notice_result 1 "findings: 1" (lines (
    "       0    D01: indefinite length" ∷
    "       0  indef: SEQUENCE {" ∷
    "       2      0:   NULL" ∷
    "       4    end: }" ∷ []))
unfolding digits encode_with is_utf8 chars encode
row-32 = refl

-- the finding alone
row-33 : result (check Der plain_framing) (octets "30 80 05 00 00 00")
    ≡ notice_result 1 "findings: 1" (lines (
    "0 D01 indefinite length" ∷ []))
unfolding digits encode_with is_utf8 chars encode
row-33 = refl

-- BER has it
row-34 : result (check Ber plain_framing) (octets "30 80 05 00 00 00")
    ≡ clean_result []
unfolding digits encode_with is_utf8 chars encode
row-34 = refl

-- the fault is reported, and the count of findings stays
row-35 : result (check Der plain_framing) (octets "30 80 05 00 30 05")
    ≡ fault_result 1 Short 6 "fault at 6: F02 input ends inside an encoding" (lines (
    "0 D01 indefinite length" ∷ []))
unfolding digits encode_with is_utf8 chars encode
row-35 = refl

-- 1000 octets in one
row-36 : result (check Cer plain_framing) (octets "04 82 03 e8" ++ replicate 1000 0x00)
    ≡ clean_result []
unfolding digits encode_with is_utf8 chars encode
row-36 = refl
