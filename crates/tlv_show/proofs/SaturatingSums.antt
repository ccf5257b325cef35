-- Sums that stop at the largest number of 64 bits.
use Rattle.std.proofs.Common.{◌≡◌, ◌+◌, ◌-◌, ◌^◌, ◌≤◌, ℕ, arith}
use Rattle.tlv_show.specs.SaturatingSum.{saturating_sum}

pub sum-more : (n m k : ℕ) → saturating_sum (saturating_sum n m) k ≡ saturating_sum n (m + k)
sum-more n m k = omega arith

pub sum-none : (n : ℕ) → saturating_sum n 0 ≡ n
sum-none n = omega arith

-- they do not stop below 2^64
pub sum-small : (n m : ℕ) → n + m ≤ 2 ^ 64 - 1 → saturating_sum n m ≡ n + m
sum-small n m h = omega (arith, h)
