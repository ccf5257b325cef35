-- Numbers by their digits.
use Rattle.std.proofs.Common.{◌≡◌, ◌+◌, ◌*◌, ◌^◌, ◌<◌, ◌≤◌, ◌-◌, ◌&&◌, ℕ, List}
use Rattle.std.proofs.Common.{true, length, get_or, take, sym, ap₂, ◌∙◌, add-one, arith}
use Rattle.std.proofs.Math.Nat.{pow-le-pow_right, pow-suc}
use Rattle.std.proofs.lemmas.Str.{digit_value_digit}
use Rattle.std.proofs.lemmas.Int.Digits.{digits_value_more}
use Rattle.std.proofs.lemmas.List.Folds.{list_all_more}
use Rattle.std.specs.List.{list_all}
use Rattle.std.specs.Str.Parse.{digits_value}
use Rattle.std.specs.Char.{IsAsciiDigit, is_ascii_digit}

-- a number of less than 13 digits
pub digits-below_limit : (n i : ℕ) → n < 10 ^ i → i ≤ 12 → n < 1000000000000
digits-below_limit n i h k = let p : 10 ^ i ≤ 10 ^ 12 = pow-le-pow_right (omega arith) k in omega arith

power-next : (i : ℕ) → 10 ^ (i + 1) ≡ 10 ^ i * 10
power-next i = rw (add-one, pow-suc)

-- one more digit
pub one_digit : (bs : List ℕ) (i n d : ℕ) → i < length bs → IsAsciiDigit (get_or bs i 0)
    → true ≡ is_ascii_digit (get_or bs i 0) → d ≡ get_or bs i 0 - 48
    → list_all is_ascii_digit (take i bs) ≡ true → n ≡ digits_value 10 (take i bs) → n < 10 ^ i
    → (list_all is_ascii_digit (take (i + 1) bs) ≡ true) × (n * 10 + d ≡ digits_value 10 (take (i + 1) bs))
    × (n * 10 + d < 10 ^ (i + 1))
one_digit bs i n d h digit test e passed value small =
    let more = digits_value_more 10 bs i h in
    let worth = digit_value_digit (get_or bs i 0) digit in
    let grows = power-next i in (
      list_all_more is_ascii_digit bs i 0 h ∙ ap₂ ◌&&◌ passed (sym test),
      omega arith,
      omega arith,
    )
