-- Octets as pairs of hexadecimal digits (RFC 4648, section 8, in either case), with what people write between them.
use Rattle.std.specs.Prelude.{ℕ, ◌+◌, ◌*◌, ◌==◌, Bool, ◌&&◌, ◌||◌, if◌then◌else◌, List, [], ◌∷◌, unwrap_or}
use Rattle.hex.specs.Hex.{hex_digit_value, is_hex_digit}
use Rattle.tlv_text.specs.Characters.{is_quote, is_white}
use Rattle.tlv_text.specs.TextRead.{TextRead, nothing_read, octets_then}

-- what may be between pairs: white space, a colon, a comma, a hyphen, a quote
abbrev pub is_between_pairs : ℕ → Bool
is_between_pairs x = is_white x || (x == 58) || (x == 44) || (x == 45) || is_quote x

abbrev pub hex_value : ℕ → ℕ
hex_value x = unwrap_or (hex_digit_value x) 0

-- the octet of two digits
abbrev pub pair_octet : ℕ → ℕ → ℕ
pair_octet x y = hex_value x * 16 + hex_value y

-- the octets of pairs of digits, and the rest from the first character that neither begins a pair nor may be between
-- pairs
abbrev pub pairs_read : List ℕ → TextRead
pairs_read [] = nothing_read []
pairs_read (x ∷ []) = if is_between_pairs x then nothing_read [] else nothing_read (x ∷ [])
pairs_read (x ∷ y ∷ rest) =
    if is_between_pairs x then pairs_read (y ∷ rest)
    else (
    if is_hex_digit x && is_hex_digit y then octets_then (pair_octet x y ∷ []) (pairs_read rest)
    else nothing_read (x ∷ y ∷ rest)
    )
