-- How many octets an input may have, and how many holders may be open.
use Rattle.std.specs.Prelude.{ℕ, ◌^◌}

-- the most octets that an input may have
abbrev pub input_limit : ℕ
input_limit = 2 ^ 40

-- how many holders (elements that hold others) may be open. A header that would open one more is refused (F10)
abbrev pub depth_limit : ℕ
depth_limit = 128
