-- Numbers in hexadecimal digits.
use Rattle.std.proofs.Common.{◌≡◌, ℕ, ◌+◌, ◌*◌, ◌^◌, ◌<◌, ◌≤◌, add-one, ap, arith, lit<, suc}
use Rattle.std.specs.Prelude.{IfSome, Option, None, Some}
use Rattle.std.specs.Option.{unwrap_or}
use Rattle.std.proofs.Math.Nat.{pow-le-pow_right, pow-suc}

pub digit-small : (digit : Option ℕ) → IfSome digit (λ d. d ≤ 15) → unwrap_or digit 0 ≤ 15
digit-small None s = omega arith
digit-small (Some d) s = s

-- eight digits state a number below 2^32
pub few-digits : (count number : ℕ) → count ≤ 8 → number < 16 ^ count → number < 2 ^ 32
few-digits count number few small =
    let power : 16 ^ count ≤ 16 ^ 8 = pow-le-pow_right (lit< tt) few in omega (arith, power, small)

pub one-digit-more : (count number digit : ℕ) → number < 16 ^ count → digit ≤ 15 → number * 16 + digit < 16 ^ (count + 1)
one-digit-more count number digit small d =
    let power : 16 ^ suc count ≡ 16 ^ count * 16 = pow-suc 16 count in
    let next : 16 ^ (count + 1) ≡ 16 ^ suc count = ap (λ n. 16 ^ n) (add-one count) in
    omega (arith, power, next, small, d)
