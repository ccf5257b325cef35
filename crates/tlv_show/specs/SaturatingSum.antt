-- Counts and offsets stop at the largest number of 64 bits.
use Rattle.std.specs.Prelude.{ℕ, max}
use Rattle.tlv_io.specs.Device.{count_after}

-- as `count_after` for numbers of 64 bits. A larger one stays as it is, so that 0 more changes no number: the
-- laws of `Follow` are about states with any number
abbrev pub saturating_sum : ℕ → ℕ → ℕ
saturating_sum n m = max n (count_after n m)
