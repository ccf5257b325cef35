-- Texts of pairs of digits, none of which a digit follows at once.
use Rattle.std.specs.Prelude.{◌≡◌, ℕ, Bool, true, ◌&&◌, ◌||◌, not, if◌then◌else◌, List, [], ◌∷◌}
use Rattle.hex.specs.Hex.{is_hex_digit}
use Rattle.tlv_text.specs.DumpPairs.{begins_digit}
use Rattle.tlv_text.specs.Pairs.{is_between_pairs, pairs_read}

-- a text has nothing but pairs, none of which a digit follows at once, and what may be between pairs; its last pair may
-- lack a digit
abbrev pub are_separated : List ℕ → Bool
are_separated [] = true
are_separated (x ∷ []) = is_between_pairs x || is_hex_digit x
are_separated (x ∷ y ∷ rest) =
    if is_between_pairs x then are_separated (y ∷ rest)
    else is_hex_digit x && is_hex_digit y && not (begins_digit rest) && are_separated rest

-- such a text that is pairs to its end, and its octets
pub record IsSeparated (text octets : List ℕ) : Type 0 where
  pub separated : are_separated text ≡ true
  pub read : pairs_read text ≡ record { octets = octets; rest = [] }

-- any other text: it has something else, a digit follows a pair at once, or the last pair lacks a digit
abbrev pub IsNotSeparated : List ℕ → Type 0
IsNotSeparated text = are_separated text ≡ true → (pairs_read text).rest ≡ [] → ⊥
