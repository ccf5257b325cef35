-- The bits of octets: X.690 6.2.
use Rattle.std.specs.Prelude.{ℕ, zero, suc, ◌/◌, ◌%◌, List, [], ◌∷◌, ◌++◌, flat_map}

-- the last n bits of a number, the most significant first
abbrev pub last_bits : ℕ → ℕ → List ℕ
last_bits zero x = []
last_bits (suc n) x = last_bits n (x / 2) ++ x % 2 ∷ []

abbrev pub bits_of : List ℕ → List ℕ
bits_of octets = flat_map (last_bits 8) octets
