-- What is added to the octets that an `Out` holds, and the texts that make up lines.
use Rattle.std.specs.Prelude.{◌≡◌, ℕ, ◌+◌, ◌-◌, ◌≤◌, List, [], ◌∷◌, ◌++◌, codes, decimal, flat_map, length, replicate}
use Rattle.hex.specs.Hex.{encode_lower}
use Rattle.tlv_io.specs.OutLimits.{held_limit}

-- an `Out` that holds these octets has room for `count` more
abbrev pub HasRoomFor : List ℕ → ℕ → Type 0
HasRoomFor held count = length held + count ≤ held_limit

-- the text was added to the octets held, which grew by at most n
pub record AddsAtMost (n : ℕ) (old new added : List ℕ) : Type 0 where
  pub text : new ≡ old ++ added
  pub within : length new ≤ length old + n

-- the text was added to the octets held, if there was room for it
abbrev pub AddsIfRoom : List ℕ → List ℕ → List ℕ → Type 0
AddsIfRoom old new text = HasRoomFor old (length text) → new ≡ old ++ text

abbrev pub spaces : ℕ → List ℕ
spaces n = replicate n 0x20

-- the text, right-aligned in this many places; a longer text takes as many places as it needs
abbrev pub at_right : ℕ → List ℕ → List ℕ
at_right places text = spaces (places - length text) ++ text

-- the first columns of a line: an offset, and after it either the number of contents octets of an element, or a word.
-- Examples are `       4     20: ` and `       0  indef: `
abbrev pub columns : ℕ → List ℕ → List ℕ
columns offset word = at_right 8 (decimal offset) ++ codes " " ++ at_right 6 word ++ codes ": "

-- pairs of digits, each pair after a space
abbrev pub spaced_pairs : List ℕ → List ℕ
spaced_pairs octets = flat_map (λ x. 0x20 ∷ encode_lower (x ∷ [])) octets
