-- What a terminal is given of a text that has words of the command line in it.
use Rattle.std.specs.Prelude.{ℕ, Bool, ◌&&◌, ◌||◌, eqb, nat_le, if◌then◌else◌}

-- an octet that is written as it is: printable ASCII, and the line feed
abbrev pub is_harmless : ℕ → Bool
is_harmless octet = (nat_le 0x20 octet && nat_le octet 0x7e) || eqb octet 0x0a

-- what is written for an octet: a question mark for each that is not harmless
abbrev pub printed_octet : ℕ → ℕ
printed_octet octet = if is_harmless octet then octet else 0x3f
