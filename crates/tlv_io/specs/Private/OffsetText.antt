-- The columns of an offset, as the code keeps them.
use Rattle.std.specs.Prelude.{ℕ, zero, suc}

-- the bit that makes a digit 0 of a space in place of the last digit but one: none for the offset 0, since a space then
-- stays before one digit
abbrev pub zero_bit_of : ℕ → ℕ
zero_bit_of zero = 0
zero_bit_of (suc n) = 16
