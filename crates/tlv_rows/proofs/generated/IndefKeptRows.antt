-- What commands make of the inputs of tests/rows/indef_kept.rows, shown by computing.
-- `tests/make-rows` writes this file.
use Rattle.std.proofs.Common.{◌≡◌, false, refl}
use Rattle.std.specs.Fmt.{digits}
use Rattle.std.specs.Str.{chars, is_utf8}
use Rattle.hex.specs.Hex.{encode_with}
use lib.Utf8.{encode}
use Rattle.tlv_rows.proofs.Words.Octets.{octets}
use Rattle.tlv_rows.proofs.Words.Runs.{clean_result, indef, result}

row-1 : result (indef false) (octets "02 10 7f ff ff ff ff ff ff ff ff ff ff ff ff ff ff ff")
    ≡ clean_result (octets "02 10 7f ff ff ff ff ff ff ff ff ff ff ff ff ff ff ff")
unfolding digits encode_with is_utf8 chars encode
row-1 = refl

row-2 : result (indef false) (octets "02 11 00 80 00 00 00 00 00 00 00 00 00 00 00 00 00 00 00")
    ≡ clean_result (octets "02 11 00 80 00 00 00 00 00 00 00 00 00 00 00 00 00 00 00")
unfolding digits encode_with is_utf8 chars encode
row-2 = refl

row-3 : result (indef false) (octets "5f 1f 01 00")
    ≡ clean_result (octets "5f 1f 01 00")
unfolding digits encode_with is_utf8 chars encode
row-3 = refl

row-4 : result (indef false) (octets "1f 02 01 05")
    ≡ clean_result (octets "1f 02 01 05")
unfolding digits encode_with is_utf8 chars encode
row-4 = refl

row-5 : result (indef false) (octets "9f 81 80 80 80 80 80 80 80 00 00")
    ≡ clean_result (octets "9f 81 80 80 80 80 80 80 80 00 00")
unfolding digits encode_with is_utf8 chars encode
row-5 = refl

row-6 : result (indef false) (octets "1f 00 00")
    ≡ clean_result (octets "1f 00 00")
unfolding digits encode_with is_utf8 chars encode
row-6 = refl

row-7 : result (indef false) (octets "04 81 03 aa bb cc")
    ≡ clean_result (octets "04 81 03 aa bb cc")
unfolding digits encode_with is_utf8 chars encode
row-7 = refl

row-8 : result (indef false) (octets "03 02 05 bf")
    ≡ clean_result (octets "03 02 05 bf")
unfolding digits encode_with is_utf8 chars encode
row-8 = refl

row-9 : result (indef false) (octets "03 01 03")
    ≡ clean_result (octets "03 01 03")
unfolding digits encode_with is_utf8 chars encode
row-9 = refl

row-10 : result (indef false) (octets "03 00")
    ≡ clean_result (octets "03 00")
unfolding digits encode_with is_utf8 chars encode
row-10 = refl

row-11 : result (indef false) (octets "03 01 00")
    ≡ clean_result (octets "03 01 00")
unfolding digits encode_with is_utf8 chars encode
row-11 = refl

row-12 : result (indef false) (octets "06 03 2a 86 48")
    ≡ clean_result (octets "06 03 2a 86 48")
unfolding digits encode_with is_utf8 chars encode
row-12 = refl

row-13 : result (indef false) (octets "06 02 80 01")
    ≡ clean_result (octets "06 02 80 01")
unfolding digits encode_with is_utf8 chars encode
row-13 = refl

row-14 : result (indef false) (octets "06 01 78")
    ≡ clean_result (octets "06 01 78")
unfolding digits encode_with is_utf8 chars encode
row-14 = refl

row-15 : result (indef false) (octets "06 02 2a 86")
    ≡ clean_result (octets "06 02 2a 86")
unfolding digits encode_with is_utf8 chars encode
row-15 = refl

row-16 : result (indef false) (octets "05 00 05 00")
    ≡ clean_result (octets "05 00 05 00")
unfolding digits encode_with is_utf8 chars encode
row-16 = refl

row-17 : result (indef false) (octets "17 0b 39 31 30 35 30 36 32 33 34 35 5a")
    ≡ clean_result (octets "17 0b 39 31 30 35 30 36 32 33 34 35 5a")
unfolding digits encode_with is_utf8 chars encode
row-17 = refl

row-18 : result (indef false) (octets "18 12 31 39 39 32 30 37 32 32 31 33 32 31 30 30 2e 35 30 5a")
    ≡ clean_result (octets "18 12 31 39 39 32 30 37 32 32 31 33 32 31 30 30 2e 35 30 5a")
unfolding digits encode_with is_utf8 chars encode
row-18 = refl

row-19 : result (indef false) (octets "18 0f 31 39 39 32 30 37 32 31 32 34 30 30 30 30 5a")
    ≡ clean_result (octets "18 0f 31 39 39 32 30 37 32 31 32 34 30 30 30 30 5a")
unfolding digits encode_with is_utf8 chars encode
row-19 = refl

row-20 : result (indef false) (octets "17 0b 39 31 31 33 30 36 32 33 34 35 5a")
    ≡ clean_result (octets "17 0b 39 31 31 33 30 36 32 33 34 35 5a")
unfolding digits encode_with is_utf8 chars encode
row-20 = refl

row-21 : result (indef false) (octets "0c 06 22 5c 0a c3 a9 ff")
    ≡ clean_result (octets "0c 06 22 5c 0a c3 a9 ff")
unfolding digits encode_with is_utf8 chars encode
row-21 = refl

row-22 : result (indef false) (octets "1e 04 00 41 20 ac")
    ≡ clean_result (octets "1e 04 00 41 20 ac")
unfolding digits encode_with is_utf8 chars encode
row-22 = refl

row-23 : result (indef false) (octets "1e 03 00 41 20")
    ≡ clean_result (octets "1e 03 00 41 20")
unfolding digits encode_with is_utf8 chars encode
row-23 = refl

row-24 : result (indef false) (octets "02 02 00 7f")
    ≡ clean_result (octets "02 02 00 7f")
unfolding digits encode_with is_utf8 chars encode
row-24 = refl

row-25 : result (indef false) (octets "02 01 80")
    ≡ clean_result (octets "02 01 80")
unfolding digits encode_with is_utf8 chars encode
row-25 = refl

row-26 : result (indef false) (octets "01 01 01")
    ≡ clean_result (octets "01 01 01")
unfolding digits encode_with is_utf8 chars encode
row-26 = refl

row-27 : result (indef false) (octets "3a 80 04 03 4a 6f 6e 04 02 65 73 00 00")
    ≡ clean_result (octets "3a 80 04 03 4a 6f 6e 04 02 65 73 00 00")
unfolding digits encode_with is_utf8 chars encode
row-27 = refl

row-28 : result (indef false) (octets "23 80 03 02 01 00 04 01 00 00 00")
    ≡ clean_result (octets "23 80 03 02 01 00 04 01 00 00 00")
unfolding digits encode_with is_utf8 chars encode
row-28 = refl
