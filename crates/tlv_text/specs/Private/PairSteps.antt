-- Pairs of digits.
use Rattle.std.specs.Prelude.{◌≡◌, ℕ, ◌%◌, true, ◌&&◌, if◌then◌else◌, List, [], ◌∷◌, length}
use Rattle.std.specs.Prelude.{Option, Some, None, unwrap_or}
use Rattle.std.specs.List.{AllPass}
use Rattle.hex.specs.Hex.{hex_digit_value, is_hex_digit}
use Rattle.tlv_text.specs.Pairs.{is_between_pairs, pair_octet, pairs_read}
use Rattle.tlv_text.specs.Plain.{are_lines_of_digits}

-- digits in pairs
pub record AreWholePairs (text : List ℕ) : Type 0 where
  pub even : length text % 2 ≡ 0
  pub digits : AllPass is_hex_digit text

-- their octets
abbrev pub pair_octets : List ℕ → List ℕ
pair_octets [] = []
pair_octets (x ∷ []) = []
pair_octets (x ∷ y ∷ digits) = pair_octet x y ∷ pair_octets digits

-- the octet of two characters, if both are digits
abbrev pub octet_of : ℕ → ℕ → Option ℕ
octet_of x y = if is_hex_digit x && is_hex_digit y then Some (pair_octet x y) else None

-- the value of a digit, or 256 for another character
abbrev pub value_or_256 : ℕ → ℕ
value_or_256 x = unwrap_or (hex_digit_value x) 256

-- 0 for a character that may be between pairs, and 256 for another
abbrev pub zero_between_pairs : ℕ → ℕ
zero_between_pairs x = if is_between_pairs x then 0 else 256

-- a text has nothing but digits and line ends and is pairs to its end, and its octets
pub record IsOfDigits (text octets : List ℕ) : Type 0 where
  pub digits : are_lines_of_digits text ≡ true
  pub read : pairs_read text ≡ record { octets = octets; rest = [] }

-- any other text
abbrev pub IsNotOfDigits : List ℕ → Type 0
IsNotOfDigits text = are_lines_of_digits text ≡ true → (pairs_read text).rest ≡ [] → ⊥
