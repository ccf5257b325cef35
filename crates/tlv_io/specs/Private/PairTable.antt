-- The pairs of digits of all octets.
use Rattle.std.specs.Prelude.{◌≡◌, ℕ, ◌<◌, List, [], ◌∷◌, get_or}
use Rattle.hex.specs.Hex.{encode_lower}

-- the pair of each octet less than n is at its place
abbrev pub ArePairsBelow : ℕ → List (List ℕ) → Type 0
ArePairsBelow n pairs = (octet : ℕ) → octet < n → get_or pairs octet [] ≡ encode_lower (octet ∷ [])

-- the pair of each octet is at its place
abbrev pub AreAllPairs : List (List ℕ) → Type 0
AreAllPairs pairs = ArePairsBelow 256 pairs
