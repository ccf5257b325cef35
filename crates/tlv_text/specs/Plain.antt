-- Texts of the symbols of base64, padding and line ends alone, and among them texts of hexadecimal digits.
use Rattle.std.specs.Prelude.{◌≡◌, ℕ, ◌==◌, Bool, true, ◌||◌, List, []}
use Rattle.std.specs.List.{list_all}
use Rattle.hex.specs.Hex.{is_hex_digit}
use Rattle.tlv_text.specs.Base64.{IsBase64, is_symbol}
use Rattle.tlv_text.specs.Pairs.{pairs_read}
use Rattle.tlv_text.specs.Separated.{are_separated}
use Rattle.tlv_text.specs.declared.base64_text.Alphabet.{Alphabet}
use Rattle.tlv_text.specs.declared.base64_text.Alphabet.TheVariants.{Standard}

-- a line feed or a carriage return
abbrev pub is_line_end : ℕ → Bool
is_line_end x = (x == 10) || (x == 13)

-- padding or a line end; 61 is `=`
abbrev pub is_padding_or_end : ℕ → Bool
is_padding_or_end x = (x == 61) || is_line_end x

abbrev pub is_plain : Alphabet → ℕ → Bool
is_plain alphabet x = is_symbol alphabet x || is_padding_or_end x

-- a text has nothing but symbols, padding and line ends
abbrev pub is_plain_text : Alphabet → List ℕ → Bool
is_plain_text alphabet text = list_all (is_plain alphabet) text

-- ---- base64

-- such a text that is base64 to its end, and its octets
pub record IsPlainBase64 (text octets : List ℕ) : Type 0 where
  pub plain : is_plain_text Standard text ≡ true
  pub base64 : IsBase64 Standard text octets

-- any other text: it has another character, or is not the base64 of any octets
abbrev pub IsNotPlainBase64 : List ℕ → Type 0
IsNotPlainBase64 text = is_plain_text Standard text ≡ true → (octets : List ℕ) → IsBase64 Standard text octets → ⊥

-- ---- hexadecimal

abbrev pub is_digit_or_end : ℕ → Bool
is_digit_or_end x = is_hex_digit x || is_line_end x

-- a text has nothing but digits and line ends
abbrev pub are_lines_of_digits : List ℕ → Bool
are_lines_of_digits text = list_all is_digit_or_end text

-- a text has nothing but digits and line ends, or it is separated pairs
abbrev pub are_lone_pairs : List ℕ → Bool
are_lone_pairs text = are_separated text || are_lines_of_digits text

-- such a text that is pairs to its end, and its octets
pub record IsLonePairs (text octets : List ℕ) : Type 0 where
  pub lone : are_lone_pairs text ≡ true
  pub read : pairs_read text ≡ record { octets = octets; rest = [] }

-- any other text: it is neither, or its last pair lacks a digit
abbrev pub IsNotLonePairs : List ℕ → Type 0
IsNotLonePairs text = are_lone_pairs text ≡ true → (pairs_read text).rest ≡ [] → ⊥
