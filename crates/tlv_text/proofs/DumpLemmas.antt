-- Lines, offsets and pairs of a dump.
use Rattle.std.proofs.Common.{◌≡◌, ℕ, zero, suc, ◌+◌, ◌*◌, ◌/◌, ◌^◌, ◌==◌, ◌<◌, ◌≤◌, Bool, true, false, ◌&&◌, nat_lt}
use Rattle.std.proofs.Common.{List, [], ◌∷◌, length, take, drop, slice_index, refl, ap, sym, ◌∙◌, arith, Some, None}
use Rattle.std.specs.Prelude.{if◌then◌else◌}
use Rattle.std.proofs.lemmas.Bool.{false_from_ne_true}
use Rattle.std.proofs.Math.Nat.{mul-le-mul_left, pow-le-pow_right}
use Rattle.memchr.specs.Find.{IsFirstByte, is_byte}
use Rattle.tlv_text.proofs.Slices.{from-on, slice_from}
use Rattle.tlv_text.specs.DumpLines.{OffsetRead, base, dump_lines, is_digit_of, new_text_line, offset_read}
use Rattle.tlv_text.specs.Pairs.{hex_value}
use Rattle.tlv_text.specs.declared.dump.lines.Radix.{Radix}
use Rattle.tlv_text.specs.Private.PairSteps.{pair_octets}

-- ---- lines

abbrev NoLineFeed : List ℕ → ℕ → Type 0
NoLineFeed text n = (k : ℕ) → k < n → (slice_index text k == 10) ≡ false

line-up_to : (text : List ℕ) (n : ℕ) → n < length text → NoLineFeed text n → (slice_index text n == 10) ≡ true
    → dump_lines text ≡ new_text_line (take n text) (length text) ∷ dump_lines (drop (suc n) text)
line-up_to [] n less none here = absurd (omega arith)
line-up_to (x ∷ text) zero less none here = rw here refl
line-up_to (x ∷ text) (suc n) less none here =
    rw (none 0 (omega arith), line-up_to text n (omega arith) (λ k lt. none (suc k) (omega arith)) here) refl

line-last : (x : ℕ) (text : List ℕ) → NoLineFeed (x ∷ text) (length (x ∷ text))
    → dump_lines (x ∷ text) ≡ new_text_line (x ∷ text) (length (x ∷ text)) ∷ []
line-last x [] none = rw (none 0 (omega arith)) refl
line-last x (y ∷ text) none =
    rw (none 0 (omega arith), line-last y text (λ k lt. none (suc k) (omega arith))) refl

pub line-found : (text : List ℕ) (n : ℕ) → IsFirstByte (is_byte 10) text (Some n)
    → dump_lines text ≡ new_text_line (take n text) (length text) ∷ dump_lines (drop (suc n) text)
line-found text n f =
    line-up_to text n f.0.high
    (λ k lt. false_from_ne_true (slice_index text k == 10) (f.0.before k (omega arith) lt)) f.1

pub line-alone : (text : List ℕ) → 0 < length text → IsFirstByte (is_byte 10) text None
    → dump_lines text ≡ new_text_line text (length text) ∷ []
line-alone [] some f = absurd (omega arith)
line-alone (x ∷ text) some f =
    line-last x text (λ k lt. false_from_ne_true (slice_index (x ∷ text) k == 10) (f k (omega arith) lt))

-- ---- offsets

pub offset-small : (number count : ℕ) → number < 16 ^ count → count < 16 → number < 16 ^ 15
offset-small number count small few =
    omega (arith, pow-le-pow_right {n = 16} (omega arith) {i = count} {j = 15} (omega arith))

pub digit-more : (number base digit : ℕ) → base ≤ 16 → digit < 16 → number * base + digit < (number + 1) * 16
digit-more number base digit b d = omega (arith, mul-le-mul_left number b)

-- as many digits, and the same after them
pub record ReadAlike (a b : OffsetRead) : Type 0 where
  pub count : a.count ≡ b.count
  pub rest : a.rest ≡ b.rest

alike-if : (b : Bool) (k l m n : OffsetRead) → ReadAlike k l → ReadAlike m n
    → ReadAlike (if b then k else m) (if b then l else n)
alike-if true k l m n first second = first
alike-if false k l m n first second = second

-- the number before does not show in them
offset-alike : (radix : Radix) (count m n : ℕ) (text : List ℕ)
    → ReadAlike (offset_read radix count m text) (offset_read radix count n text)
offset-alike radix count m n [] = record { count = refl; rest = refl }
offset-alike radix count m n (x ∷ text) =
    alike-if (nat_lt count 16 && is_digit_of radix x) _ _ _ _
    (offset-alike radix (count + 1) (m * base radix + hex_value x) (n * base radix + hex_value x) text)
    (record { count = refl; rest = refl })

digit-first : (radix : Radix) (count x : ℕ) (text : List ℕ) → nat_lt count 16 ≡ true → is_digit_of radix x ≡ true
    → ReadAlike (offset_read radix count 0 (x ∷ text)) (offset_read radix (count + 1) 0 text)
digit-first radix count x text few digit =
    rw (few, digit) (offset-alike radix (count + 1) (0 * base radix + hex_value x) 0 text)

pub digit-passed : (radix : Radix) (all : OffsetRead) (count : ℕ) (text : List ℕ) → 1 ≤ length text
    → nat_lt count 16 ≡ true → is_digit_of radix (slice_index text 0) ≡ true
    → ReadAlike all (offset_read radix count 0 text)
    → ReadAlike all (offset_read radix (count + 1) 0 (slice_from 1 text))
digit-passed radix all count [] some few digit alike = absurd (omega arith)
digit-passed radix all count (x ∷ text) some few digit alike =
    let next = digit-first radix count x text few digit in
    let on = from-on 1 (x ∷ text) in
    record {
      count = alike.count ∙ next.count ∙ ap (λ (rest : List ℕ). (offset_read radix (count + 1) 0 rest).count) (sym on);
      rest = alike.rest ∙ next.rest ∙ ap (λ (rest : List ℕ). (offset_read radix (count + 1) 0 rest).rest) (sym on);
    }

-- ---- pairs

pub pair_octets-length : (digits : List ℕ) → length (pair_octets digits) ≡ length digits / 2
pair_octets-length [] = refl
pair_octets-length (x ∷ []) = refl
pair_octets-length (x ∷ y ∷ digits) = omega (arith, pair_octets-length digits)
