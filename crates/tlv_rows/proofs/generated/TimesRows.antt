-- What commands make of the inputs of tests/rows/times.rows, shown by computing.
-- `tests/make-rows` writes this file.
use Rattle.std.proofs.Common.{◌≡◌, [], ◌∷◌, refl}
use Rattle.std.specs.Fmt.{digits}
use Rattle.std.specs.Str.{chars, is_utf8}
use Rattle.hex.specs.Hex.{encode_with}
use lib.Utf8.{encode}
use Rattle.tlv_show.specs.declared.rules.Rules.TheVariants.{Ber, Der}
use Rattle.tlv_walk.specs.Framing.{plain_framing}
use Rattle.tlv_rows.proofs.Words.Octets.{lines, octets}
use Rattle.tlv_rows.proofs.Words.Runs.{check, clean_result, notice_result, result}

-- no seconds
row-1 : result (check Der plain_framing) (octets "17 0b 39 31 30 35 30 36 32 33 34 35 5a")
    ≡ notice_result 1 "findings: 1" (lines (
    "0 S04 time is not canonical" ∷ []))
unfolding digits encode_with is_utf8 chars encode
row-1 = refl

-- a fraction that ends with 0
row-2 : result (check Der plain_framing) (octets "18 12 31 39 39 32 30 37 32 32 31 33 32 31 30 30 2e 35 30 5a")
    ≡ notice_result 1 "findings: 1" (lines (
    "0 S04 time is not canonical" ∷ []))
unfolding digits encode_with is_utf8 chars encode
row-2 = refl

-- midnight as the hour 24
row-3 : result (check Der plain_framing) (octets "18 0f 31 39 39 32 30 37 32 31 32 34 30 30 30 30 5a")
    ≡ notice_result 1 "findings: 1" (lines (
    "0 S04 time is not canonical" ∷ []))
unfolding digits encode_with is_utf8 chars encode
row-3 = refl

-- the month 13
row-4 : result (check Der plain_framing) (octets "17 0b 39 31 31 33 30 36 32 33 34 35 5a")
    ≡ notice_result 1 "findings: 1" (lines (
    "0 B19 time not of its grammar" ∷ []))
unfolding digits encode_with is_utf8 chars encode
row-4 = refl

row-5 : result (check Ber plain_framing) (octets "17 0b 39 31 31 33 30 36 32 33 34 35 5a")
    ≡ notice_result 1 "findings: 1" (lines (
    "0 B19 time not of its grammar" ∷ []))
unfolding digits encode_with is_utf8 chars encode
row-5 = refl

-- as DER has it
row-6 : result (check Der plain_framing) (octets "17 0d 39 31 30 35 30 36 32 33 34 35 34 30 5a")
    ≡ clean_result []
unfolding digits encode_with is_utf8 chars encode
row-6 = refl

-- a difference to UTC
row-7 : result (check Der plain_framing) (octets "17 11 39 31 30 35 30 36 32 33 34 35 34 30 2b 30 30 30 30")
    ≡ notice_result 1 "findings: 1" (lines (
    "0 S04 time is not canonical" ∷ []))
unfolding digits encode_with is_utf8 chars encode
row-7 = refl

-- the hour 24
row-8 : result (check Der plain_framing) (octets "17 0d 39 31 30 35 30 36 32 34 34 35 34 30 5a")
    ≡ notice_result 1 "findings: 1" (lines (
    "0 S04 time is not canonical" ∷ []))
unfolding digits encode_with is_utf8 chars encode
row-8 = refl

-- hours alone, of local time
row-9 : result (check Der plain_framing) (octets "18 0a 31 39 39 32 30 37 32 32 31 33")
    ≡ notice_result 1 "findings: 1" (lines (
    "0 S04 time is not canonical" ∷ []))
unfolding digits encode_with is_utf8 chars encode
row-9 = refl

-- as DER has it
row-10 : result (check Der plain_framing) (octets "18 11 31 39 39 32 30 37 32 32 31 33 32 31 30 30 2e 33 5a")
    ≡ clean_result []
unfolding digits encode_with is_utf8 chars encode
row-10 = refl

-- a comma before the fraction
row-11 : result (check Der plain_framing) (octets "18 11 31 39 39 32 30 37 32 32 31 33 32 31 30 30 2c 33 5a")
    ≡ notice_result 1 "findings: 1" (lines (
    "0 S04 time is not canonical" ∷ []))
unfolding digits encode_with is_utf8 chars encode
row-11 = refl

-- no digit after the point
row-12 : result (check Der plain_framing) (octets "18 10 31 39 39 32 30 37 32 32 31 33 32 31 30 30 2e 5a")
    ≡ notice_result 1 "findings: 1" (lines (
    "0 B19 time not of its grammar" ∷ []))
unfolding digits encode_with is_utf8 chars encode
row-12 = refl

-- a leap second
row-13 : result (check Der plain_framing) (octets "18 0f 31 39 39 32 30 37 32 32 31 33 32 31 36 30 5a")
    ≡ clean_result []
unfolding digits encode_with is_utf8 chars encode
row-13 = refl
