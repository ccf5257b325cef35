-- What commands make of the inputs of tests/rows/characters.rows, shown by computing.
-- `tests/make-rows` writes this file.
use Rattle.std.proofs.Common.{◌≡◌, false, [], ◌∷◌, ◌++◌, None, codes, refl}
use Rattle.std.specs.Prelude.{Ok, replicate}
use Rattle.std.specs.Fmt.{digits}
use Rattle.std.specs.Str.{chars, is_utf8}
use Rattle.hex.specs.Hex.{encode_with}
use lib.Utf8.{encode}
use Rattle.tlv_show.specs.declared.rules.Rules.TheVariants.{Ber}
use Rattle.tlv_value.specs.Names.{names_of}
use Rattle.tlv_walk.specs.Framing.{plain_framing}
use Rattle.tlv_rows.proofs.Words.Octets.{lines, octets}
use Rattle.tlv_rows.proofs.Words.Runs.{clean_result, dump, named, nameless}
use Rattle.tlv_rows.proofs.Words.Runs.{entries_table, notice_result, result, result_with}

-- an OBJECT IDENTIFIER
row-1 : result (dump Ber None false plain_framing) (octets "06 03 2a 86 48")
    ≡ clean_result (lines (
    "       0      3: OBJECT IDENTIFIER 1.2.840" ∷ []))
unfolding digits encode_with is_utf8 chars encode
row-1 = nameless Ber None false plain_framing (octets "06 03 2a 86 48")

row-2 : result (dump Ber None false plain_framing) (octets "06 01 78 06 01 27 06 01 28 06 01 4f 06 01 50")
    ≡ clean_result (lines (
    "       0      1: OBJECT IDENTIFIER 2.40" ∷
    "       3      1: OBJECT IDENTIFIER 0.39" ∷
    "       6      1: OBJECT IDENTIFIER 1.0" ∷
    "       9      1: OBJECT IDENTIFIER 1.39" ∷
    "      12      1: OBJECT IDENTIFIER 2.0" ∷ []))
unfolding digits encode_with is_utf8 chars encode
row-2 = nameless Ber None false plain_framing (octets "06 01 78 06 01 27 06 01 28 06 01 4f 06 01 50")

-- each subidentifier is an arc
row-3 : result (dump Ber None false plain_framing) (octets "0d 02 03 04")
    ≡ clean_result (lines (
    "       0      2: RELATIVE-OID 3.4" ∷ []))
unfolding digits encode_with is_utf8 chars encode
row-3 = refl

-- A subidentifier of 2^133 - 1, and one of 2^128 - 1
row-4 : result (dump Ber None false plain_framing) (octets "06 13" ++ replicate 18 0xff ++ octets "7f")
    ≡ clean_result (lines (
    "       0     19: OBJECT IDENTIFIER" ∷
    "                   ff ff ff ff ff ff ff ff ff ff ff ff ff ff ff ff" ∷
    "                   ff ff 7f" ∷ []))
unfolding digits encode_with is_utf8 chars encode
row-4 = nameless Ber None false plain_framing (octets "06 13" ++ replicate 18 0xff ++ octets "7f")

row-5 : result (dump Ber None false plain_framing) (octets "06 14 2a 83" ++ replicate 17 0xff ++ octets "7f")
    ≡ clean_result (lines (
    "       0     20: OBJECT IDENTIFIER 1.2.340282366920938463463374607431768211455" ∷ []))
unfolding digits encode_with is_utf8 chars encode
row-5 = nameless Ber None false plain_framing (octets "06 14 2a 83" ++ replicate 17 0xff ++ octets "7f")

-- with its name
row-6 : result_with (entries_table ((codes "1.2.840", codes "us") ∷ [])) (dump Ber None false plain_framing)
    (octets "06 03 2a 86 48")
    ≡ clean_result (lines (
    "       0      3: OBJECT IDENTIFIER 1.2.840 (us)" ∷ []))
unfolding digits encode_with is_utf8 chars encode
row-6 = named ((codes "1.2.840", codes "us") ∷ []) Ber None false plain_framing (octets "06 03 2a 86 48")

row-6-names : names_of (lines ("1.2.840 us" ∷ [])) ≡ Ok (entries_table ((codes "1.2.840", codes "us") ∷ []))
row-6-names = refl

row-7 : result_with (entries_table ((codes "1.2.840", codes "us") ∷ [])) (dump Ber None false plain_framing)
    (octets "06 02 2a 03 06 04 2a 86 48 01")
    ≡ clean_result (lines (
    "       0      2: OBJECT IDENTIFIER 1.2.3" ∷
    "       4      4: OBJECT IDENTIFIER 1.2.840.1" ∷ []))
unfolding digits encode_with is_utf8 chars encode
row-7 = named ((codes "1.2.840", codes "us") ∷ []) Ber None false plain_framing (octets "06 02 2a 03 06 04 2a 86 48 01")

row-7-names : names_of (lines ("1.2.840 us" ∷ [])) ≡ Ok (entries_table ((codes "1.2.840", codes "us") ∷ []))
row-7-names = refl

-- A relative identifier gets no name
row-8 : result_with (entries_table ((codes "1.2.840", codes "us") ∷ (codes "2.5", codes "relative") ∷ []))
    (dump Ber None false plain_framing)
    (octets "0d 02 02 05")
    ≡ clean_result (lines (
    "       0      2: RELATIVE-OID 2.5" ∷ []))
unfolding digits encode_with is_utf8 chars encode
row-8 = named ((codes "1.2.840", codes "us") ∷ (codes "2.5", codes "relative") ∷ [])
    Ber None false plain_framing (octets "0d 02 02 05")

row-8-names : names_of (lines ("1.2.840 us" ∷ "2.5 relative" ∷ []))
    ≡ Ok (entries_table ((codes "1.2.840", codes "us") ∷ (codes "2.5", codes "relative") ∷ []))
row-8-names = refl

row-9 : result (dump Ber None false plain_framing) (octets "0c 00 13 02 6f 6b 16 03 61 40 62")
    ≡ clean_result (lines (
    "       0      0: UTF8String \"\"" ∷
    "       2      2: PrintableString \"ok\"" ∷
    "       6      3: IA5String \"a@b\"" ∷ []))
unfolding digits encode_with is_utf8 chars encode
row-9 = refl

row-10 : result (dump Ber None false plain_framing) (octets "0c 05 22 5c 0a c3 a9")
    ≡ clean_result (lines (
    "       0      5: UTF8String \"\\\"\\\\\\x0a\\u{e9}\"" ∷ []))
unfolding digits encode_with is_utf8 chars encode
row-10 = refl

row-11 : result (dump Ber None false plain_framing) (octets "1e 04 00 41 20 ac 1c 04 00 01 f6 00")
    ≡ clean_result (lines (
    "       0      4: BMPString \"A\\u{20ac}\"" ∷
    "       6      4: UniversalString \"\\u{1f600}\"" ∷ []))
unfolding digits encode_with is_utf8 chars encode
row-11 = refl

row-12 : result (dump Ber None false plain_framing) (octets "14 02 e9 7f 1a 03 78 20 79")
    ≡ clean_result (lines (
    "       0      2: TeletexString \"\\xe9\\x7f\"" ∷
    "       4      3: VisibleString \"x y\"" ∷ []))
unfolding digits encode_with is_utf8 chars encode
row-12 = refl

row-13 : result (dump Ber None false plain_framing)
    (octets "17 0d 39 31 30 35 30 36 32 33 34 35 34 30 5a 18 0f 31 39 39 32 30 37 32 32 31 33 32 31 30 30 5a")
    ≡ clean_result (lines (
    "       0     13: UTCTime \"910506234540Z\"" ∷
    "      15     15: GeneralizedTime \"19920722132100Z\"" ∷ []))
unfolding digits encode_with is_utf8 chars encode
row-13 = refl

-- a character that does not fit its row
row-14 : result (dump Ber None false plain_framing) (octets "0c 41" ++ replicate 63 0x61 ++ octets "c3 a9")
    ≡ clean_result (lines (
    "       0     65: UTF8String" ∷
    "                   \"aaaaaaaaaaaaaaaaaaaaaaaaaaaaaaaaaaaaaaaaaaaaaaaaaaaaaaaaaaaaaaa\"" ∷
    "                   \"\\u{e9}\"" ∷ []))
unfolding digits encode_with is_utf8 chars encode
row-14 = refl

row-15 : result (dump Ber None false plain_framing) (octets "16 42" ++ replicate 66 0x62)
    ≡ clean_result (lines (
    "       0     66: IA5String" ∷
    "                   \"bbbbbbbbbbbbbbbbbbbbbbbbbbbbbbbbbbbbbbbbbbbbbbbbbbbbbbbbbbbbbbbb\"" ∷
    "                   \"bb\"" ∷ []))
unfolding digits encode_with is_utf8 chars encode
row-15 = refl

-- a second arc of 40
row-16 : result (dump Ber None false plain_framing) (octets "06 01 78")
    ≡ clean_result (lines (
    "       0      1: OBJECT IDENTIFIER 2.40" ∷ []))
unfolding digits encode_with is_utf8 chars encode
row-16 = nameless Ber None false plain_framing (octets "06 01 78")

-- a UTCTime
row-17 : result (dump Ber None false plain_framing) (octets "17 0b 39 31 30 35 30 36 32 33 34 35 5a")
    ≡ clean_result (lines (
    "       0     11: UTCTime \"9105062345Z\"" ∷ []))
unfolding digits encode_with is_utf8 chars encode
row-17 = refl

-- a text without contents
row-18 : result (dump Ber None false plain_framing) (octets "0c 00")
    ≡ clean_result (lines (
    "       0      0: UTF8String \"\"" ∷ []))
unfolding digits encode_with is_utf8 chars encode
row-18 = refl

-- a BMPString
row-19 : result (dump Ber None false plain_framing) (octets "1e 04 00 41 20 ac")
    ≡ clean_result (lines (
    "       0      4: BMPString \"A\\u{20ac}\"" ∷ []))
unfolding digits encode_with is_utf8 chars encode
row-19 = refl

-- an octet that announces four would carry the row past 64, though no such character follows
row-20 : result (dump Ber None false plain_framing) (octets "0c 41" ++ replicate 62 0x61 ++ octets "f0 c3 a9")
    ≡ notice_result 1 "findings: 1" (lines (
    "       0     65: UTF8String" ∷
    "                   \"aaaaaaaaaaaaaaaaaaaaaaaaaaaaaaaaaaaaaaaaaaaaaaaaaaaaaaaaaaaaaa\"" ∷
    "                   \"\\xf0\\u{e9}\"" ∷
    "       0    B18: characters not of the type" ∷ []))
unfolding digits encode_with is_utf8 chars encode
row-20 = refl

-- the same after 63 letters
row-21 : result (dump Ber None false plain_framing) (octets "0c 41" ++ replicate 63 0x61 ++ octets "f0 c3")
    ≡ notice_result 1 "findings: 1" (lines (
    "       0     65: UTF8String" ∷
    "                   \"aaaaaaaaaaaaaaaaaaaaaaaaaaaaaaaaaaaaaaaaaaaaaaaaaaaaaaaaaaaaaaa\"" ∷
    "                   \"\\xf0\\xc3\"" ∷
    "       0    B18: characters not of the type" ∷ []))
unfolding digits encode_with is_utf8 chars encode
row-21 = refl

-- arcs of up to 128 bits, and larger ones
row-22 : result (dump Ber None false plain_framing) (octets "0d 13 83" ++
    replicate 17 0xff ++
    octets "7f 06 13 83" ++
    replicate 17 0xff ++
    octets "7f 0d 13 84" ++
    replicate 17 0x80 ++
    octets "00 06 13 84" ++
    replicate 17 0x80 ++
    octets "00 06 14 2a 84" ++
    replicate 17 0x80 ++
    octets "00")
    ≡ clean_result (lines (
    "       0     19: RELATIVE-OID 340282366920938463463374607431768211455" ∷
    "      21     19: OBJECT IDENTIFIER 2.340282366920938463463374607431768211375" ∷
    "      42     19: RELATIVE-OID" ∷
    "                   84 80 80 80 80 80 80 80 80 80 80 80 80 80 80 80" ∷
    "                   80 80 00" ∷
    "      63     19: OBJECT IDENTIFIER" ∷
    "                   84 80 80 80 80 80 80 80 80 80 80 80 80 80 80 80" ∷
    "                   80 80 00" ∷
    "      84     20: OBJECT IDENTIFIER" ∷
    "                   2a 84 80 80 80 80 80 80 80 80 80 80 80 80 80 80" ∷
    "                   80 80 80 00" ∷ []))
unfolding digits encode_with is_utf8 chars encode
row-22 = nameless Ber None false plain_framing (octets "0d 13 83" ++
    replicate 17 0xff ++
    octets "7f 06 13 83" ++
    replicate 17 0xff ++
    octets "7f 0d 13 84" ++
    replicate 17 0x80 ++
    octets "00 06 13 84" ++
    replicate 17 0x80 ++
    octets "00 06 14 2a 84" ++
    replicate 17 0x80 ++
    octets "00")

-- relative identifiers, and identifiers of no octets
row-23 : result (dump Ber None false plain_framing)
    (octets "0d 04 01 02 86 48 0d 00 0d 11" ++ replicate 17 0x81 ++ octets "06 00")
    ≡ notice_result 2 "findings: 2" (lines (
    "       0      4: RELATIVE-OID 1.2.840" ∷
    "       6      0: RELATIVE-OID" ∷
    "       8     17: RELATIVE-OID" ∷
    "                   81 81 81 81 81 81 81 81 81 81 81 81 81 81 81 81" ∷
    "                   81" ∷
    "       8    B12: last subidentifier is unfinished" ∷
    "      27      0: OBJECT IDENTIFIER" ∷
    "      27    B10: no contents of an object identifier" ∷ []))
unfolding digits encode_with is_utf8 chars encode
row-23 = nameless Ber None false plain_framing (octets "0d 04 01 02 86 48 0d 00 0d 11" ++ replicate 17 0x81 ++ octets "06 00")

-- characters of one octet that are escaped
row-24 : result (dump Ber None false plain_framing)
    (octets "14 02 41 e9 16 04 22 5c 7e 7f 0c 04 f0 9f 98 80 0c 01 7f 0c 02 1f 00")
    ≡ clean_result (lines (
    "       0      2: TeletexString \"A\\xe9\"" ∷
    "       4      4: IA5String \"\\\"\\\\~\\x7f\"" ∷
    "      10      4: UTF8String \"\\u{1f600}\"" ∷
    "      16      1: UTF8String \"\\x7f\"" ∷
    "      19      2: UTF8String \"\\x1f\\x00\"" ∷ []))
unfolding digits encode_with is_utf8 chars encode
row-24 = refl

-- octets that are not UTF-8
row-25 : result (dump Ber None false plain_framing)
    (octets "0c 03 ed a0 80 0c 02 c0 80 0c 04 c2 80 c3 28 0c 02 41 e2 0c 08 f4 8f bf bf f4 90 80 80")
    ≡ notice_result 5 "findings: 5" (lines (
    "       0      3: UTF8String \"\\xed\\xa0\\x80\"" ∷
    "       0    B18: characters not of the type" ∷
    "       5      2: UTF8String \"\\xc0\\x80\"" ∷
    "       5    B18: characters not of the type" ∷
    "       9      4: UTF8String \"\\u{80}\\xc3(\"" ∷
    "       9    B18: characters not of the type" ∷
    "      15      2: UTF8String \"A\\xe2\"" ∷
    "      15    B18: characters not of the type" ∷
    "      19      8: UTF8String \"\\u{10ffff}\\xf4\\x90\\x80\\x80\"" ∷
    "      19    B18: characters not of the type" ∷ []))
unfolding digits encode_with is_utf8 chars encode
row-25 = refl

-- characters of two and of four octets, and octets that are left over
row-26 : result (dump Ber None false plain_framing)
    (octets "1e 0a 00 22 00 5c 00 0a 00 7f d8 00 1e 02 00 00 1c 06 00 00 00 41 00 01 1c 05 00 00 00 22 42 1c" ++
    octets "07 00 00 00 41 00 41 42 1c 03 41 42 43 1c 04 ff ff ff ff")
    ≡ notice_result 4 "findings: 4" (lines (
    "       0     10: BMPString \"\\\"\\\\\\u{a}\\u{7f}\\u{d800}\"" ∷
    "      12      2: BMPString \"\\u{0}\"" ∷
    "      16      6: UniversalString \"A\\x00\\x01\"" ∷
    "      16    B18: characters not of the type" ∷
    "      24      5: UniversalString \"\\\"\\x42\"" ∷
    "      24    B18: characters not of the type" ∷
    "      31      7: UniversalString \"A\\x00\\x41\\x42\"" ∷
    "      31    B18: characters not of the type" ∷
    "      40      3: UniversalString \"\\x41\\x42\\x43\"" ∷
    "      40    B18: characters not of the type" ∷
    "      45      4: UniversalString \"\\u{ffffffff}\"" ∷ []))
unfolding digits encode_with is_utf8 chars encode
row-26 = refl
