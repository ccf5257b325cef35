-- Octets in base64 (RFC 4648, sections 4 and 5), in lines and quotes as people write it.
use Rattle.std.specs.Prelude.{◌≡◌, ℕ, ◌+◌, ◌-◌, ◌*◌, ◌/◌, ◌%◌, ◌==◌, Bool, true, false, ◌&&◌, ◌||◌, nat_le}
use Rattle.std.specs.Prelude.{List, [], ◌∷◌, length, take, Option, Some, None, if◌then◌else◌, option_map}
use Rattle.base64.specs.Engines.{standard_no_pad, url_safe_no_pad}
use Rattle.base64.specs.GeneralPurpose.{IsBytes, encode_of}
use Rattle.tlv_text.specs.Characters.{is_quote, is_white}
use Rattle.tlv_text.specs.declared.base64_text.Alphabet.{Alphabet}
use Rattle.tlv_text.specs.declared.base64_text.Alphabet.TheVariants.{Standard, UrlSafe}

-- the base64 of octets, without padding: RFC 4648, section 4, or with the alphabet of section 5
abbrev pub base64_of : Alphabet → List ℕ → List ℕ
base64_of Standard octets = encode_of standard_no_pad octets
base64_of UrlSafe octets = encode_of url_safe_no_pad octets

abbrev pub is_letter_or_digit : ℕ → Bool
is_letter_or_digit x =
    (nat_le 65 x && nat_le x 90) || (nat_le 97 x && nat_le x 122) || (nat_le 48 x && nat_le x 57)

-- tables 1 and 2 of RFC 4648: `+` and `/`, or `-` and `_`
abbrev pub is_symbol : Alphabet → ℕ → Bool
is_symbol Standard x = is_letter_or_digit x || (x == 43) || (x == 47)
is_symbol UrlSafe x = is_letter_or_digit x || (x == 45) || (x == 95)

-- what is left out: white space, quotes, and the mark of quoted mail
abbrev pub is_left_out : ℕ → Bool
is_left_out x = is_white x || is_quote x || (x == 62)

-- a line feed or a carriage return as JSON and C write it: a backslash, and n or r
abbrev pub is_escaped_line_end : ℕ → ℕ → Bool
is_escaped_line_end x y = (x == 92) && ((y == 110) || (y == 114))

-- a slash as JSON may write it (RFC 8259, section 7): the backslash before it is left out, the slash is not
abbrev pub is_escaped_slash : ℕ → ℕ → Bool
is_escaped_slash x y = (x == 92) && (y == 47)

-- the leading symbols of a text, and the rest of it, from the first character that is neither a symbol nor left out
pub record SymbolsRead : Type 0 where
  pub symbols : List ℕ
  pub rest : List ℕ

abbrev pub symbol_then : ℕ → SymbolsRead → SymbolsRead
symbol_then x more = record more { symbols = x ∷ more.symbols }

abbrev pub no_symbols : List ℕ → SymbolsRead
no_symbols rest = record { symbols = []; rest = rest }

abbrev pub symbols_read : Alphabet → List ℕ → SymbolsRead
symbols_read alphabet [] = no_symbols []
symbols_read alphabet (x ∷ []) =
    if is_symbol alphabet x then symbol_then x (no_symbols [])
    else (if is_left_out x then no_symbols [] else no_symbols (x ∷ []))
symbols_read alphabet (x ∷ y ∷ text) =
    if is_symbol alphabet x then symbol_then x (symbols_read alphabet (y ∷ text))
    else (
    if is_left_out x then symbols_read alphabet (y ∷ text)
    else (
    if is_escaped_line_end x y then symbols_read alphabet text
    else (if is_escaped_slash x y then symbols_read alphabet (y ∷ text) else no_symbols (x ∷ y ∷ text))
    )
    )

-- the amount of padding in a text, if the text has nothing else but left-out characters; 61 is `=`
abbrev pub padding_of : List ℕ → Option ℕ
padding_of [] = Some 0
padding_of (x ∷ []) = if x == 61 then Some 1 else (if is_left_out x then Some 0 else None)
padding_of (x ∷ y ∷ text) =
    if x == 61 then option_map (λ n. 1 + n) (padding_of (y ∷ text))
    else (
    if is_left_out x then padding_of (y ∷ text)
    else (if is_escaped_line_end x y then padding_of text else None)
    )

-- 3.2: this amount of padding may follow `count` symbols: none, or the amount that makes the last group four characters
abbrev pub fits_after : ℕ → Option ℕ → Bool
fits_after count None = false
fits_after count (Some n) = (n == 0) || ((n == 1) && (count % 4 == 3)) || ((n == 2) && (count % 4 == 2))

-- the text is base64 of these octets
pub record IsBase64 (alphabet : Alphabet) (text octets : List ℕ) : Type 0 where
  pub are_octets : IsBytes octets
  pub symbols : base64_of alphabet octets ≡ (symbols_read alphabet text).symbols
  pub padding : fits_after (length (symbols_read alphabet text).symbols)
      (padding_of (symbols_read alphabet text).rest) ≡ true

-- the symbols in whole groups of four
abbrev pub whole_groups : List ℕ → List ℕ
whole_groups symbols = take (4 * (length symbols / 4)) symbols

-- these octets are read from a text, and the text is refused at this place, if it is refused
pub data ReadsBase64 (alphabet : Alphabet) (text octets : List ℕ) : Option ℕ → Type 0 where
  -- all of it is base64
  whole : IsBase64 alphabet text octets → ReadsBase64 alphabet text octets None
  -- it is not the base64 of any octets: the octets of whole groups are read, and it is refused after the last symbol
  refused : ((others : List ℕ) → IsBase64 alphabet text others → ⊥)
      → IsBytes octets
      → base64_of alphabet octets ≡ whole_groups (symbols_read alphabet text).symbols
      → ReadsBase64 alphabet text octets (Some (length text - length (symbols_read alphabet text).rest))
