-- Octets as tokens of a source text: `0x30`, `0x3` or `\x30`, as arrays and strings of C, Rust, Go and Python write
-- them.
--
--   text   = *(token / broken / other)
--   token  = ("0x" / "0X") 1*2digit             not after a letter, a digit or "_", and not before one
--          / "\x" 2digit                        after white space, a quote, a token or at the start; before a quote, white
--                                               space, the end, "\x", or a backslash at the end of a line or of the text
--   broken = "0x" / "0X" / "\x"                 where a token may begin, and none does: refused
use Rattle.std.specs.Prelude.{ℕ, zero, suc, ◌+◌, ◌==◌, Bool, true, false, ◌&&◌, ◌||◌, not, nat_le, if◌then◌else◌}
use Rattle.std.specs.Prelude.{List, [], ◌∷◌, Option, Some, None}
use Rattle.hex.specs.Hex.{is_hex_digit}
use Rattle.tlv_text.specs.Base64.{is_letter_or_digit}
use Rattle.tlv_text.specs.Characters.{is_quote, is_white}
use Rattle.tlv_text.specs.Pairs.{hex_value, pair_octet}
use Rattle.tlv_text.specs.TextRead.{TextRead, nothing_read, octets_then}
use Rattle.tlv_text.specs.declared.tokens.Token.{Token}

-- a letter, a digit or `_`
abbrev pub is_word : ℕ → Bool
is_word x = is_letter_or_digit x || (x == 95)

-- a word character comes first
abbrev pub begins_word : List ℕ → Bool
begins_word [] = false
begins_word (x ∷ text) = is_word x

-- an `x`, the end of a line or the end of the text. After a token, a backslash before any other character is an escape
-- of another kind, whose octet would be lost
abbrev pub may_follow_backslash : List ℕ → Bool
may_follow_backslash [] = true
may_follow_backslash (x ∷ text) = (x == 120) || (x == 10) || (x == 13)

-- what may come after the digits of a token: the end, white space, a quote, or the backslash of the next token or of
-- the end of a line
abbrev pub ends_escape : List ℕ → Bool
ends_escape [] = true
ends_escape (x ∷ text) = if x == 92 then may_follow_backslash text else is_white x || is_quote x

-- a token has an octet, and this number of characters comes after its first
abbrev pub token_of : ℕ → ℕ → Token
token_of octet more = record { octet = octet; more = more }

-- after `0x`: one or two digits that no word character follows
abbrev pub number_token : List ℕ → Option Token
number_token [] = None
number_token (x ∷ []) = if is_hex_digit x then Some (token_of (hex_value x) 2) else None
number_token (x ∷ y ∷ text) =
    if is_hex_digit x && not (is_word y) then Some (token_of (hex_value x) 2)
    else (
    if is_hex_digit x && is_hex_digit y && not (begins_word text) then Some (token_of (pair_octet x y) 3)
    else None
    )

-- after `\x`: two digits, and what may follow them
abbrev pub escape_token : List ℕ → Option Token
escape_token [] = None
escape_token (x ∷ []) = None
escape_token (x ∷ y ∷ text) =
    if is_hex_digit x && is_hex_digit y && ends_escape text then Some (token_of (pair_octet x y) 3) else None

-- `0x` or `0X`, not in a word
abbrev pub begins_hex_number : ℕ → ℕ → ℕ → Bool
begins_hex_number before x y = (x == 48) && ((y == 120) || (y == 88)) && not (is_word before)

-- `\x` after white space or a quote
abbrev pub begins_escape : ℕ → ℕ → ℕ → Bool
begins_escape before x y = (x == 92) && (y == 120) && (is_white before || is_quote before)

-- the token that a text begins with; the first argument is the character before the text, which is a space at the
-- start of a text and after a token
abbrev pub token_at : ℕ → List ℕ → Option Token
token_at before [] = None
token_at before (x ∷ []) = None
token_at before (x ∷ y ∷ text) =
    if begins_hex_number before x y then number_token text
    else (if begins_escape before x y then escape_token text else None)

-- the first two characters of a token. Where this is no token, it stands for an octet that would be lost
abbrev pub begins_like_token : ℕ → List ℕ → Bool
begins_like_token before [] = false
begins_like_token before (x ∷ []) = false
begins_like_token before (x ∷ y ∷ text) = begins_hex_number before x y || begins_escape before x y

-- from the left, a text consists of tokens, each with its octet; starts of tokens that are none; and other
-- characters. The last two have the text after the character
pub data Piece : Type 0 where
  token : ℕ → Piece
  broken : ℕ → List ℕ → Piece
  other : ℕ → List ℕ → Piece

-- the second argument says whether the text begins like a token
abbrev pub piece_of : Option Token → Bool → ℕ → List ℕ → Piece
piece_of (Some t) begins x text = Piece.token t.octet
piece_of None begins x text = if begins then Piece.broken x text else Piece.other x text

-- the number of characters of the token that are still to come
abbrev pub inside_after : Option Token → ℕ
inside_after (Some t) = t.more
inside_after None = 0

-- what stands for the character before, after a token or after this character
abbrev pub before_after : Option Token → ℕ → ℕ
before_after (Some t) x = 32
before_after None x = x

-- the pieces of a text; the first argument is the number of its characters that belong to a token that began before
abbrev pub pieces : ℕ → ℕ → List ℕ → List Piece
pieces inside before [] = []
pieces (suc n) before (x ∷ text) = pieces n before text
pieces zero before (x ∷ text) =
    let found : Option Token = token_at before (x ∷ text) in
    piece_of found (begins_like_token before (x ∷ text)) x text
    ∷ pieces (inside_after found) (before_after found x) text

abbrev pub pieces_of : List ℕ → List Piece
pieces_of text = pieces 0 32 text

-- the number of pieces that are tokens
abbrev pub tokens_in : List Piece → ℕ
tokens_in [] = 0
tokens_in (Piece.token octet ∷ more) = 1 + tokens_in more
tokens_in (Piece.broken x text ∷ more) = tokens_in more
tokens_in (Piece.other x text ∷ more) = tokens_in more

abbrev pub token_count : List ℕ → ℕ
token_count text = tokens_in (pieces_of text)

-- the octets of tokens, in order; the first argument says whether a token came before. The start of a token that is
-- none is refused anywhere; a word character is refused between two tokens. Anything else may stand before the first
-- token and after the last.
abbrev pub pieces_read : Bool → List Piece → TextRead
pieces_read begun [] = nothing_read []
pieces_read begun (Piece.token octet ∷ more) = octets_then (octet ∷ []) (pieces_read true more)
pieces_read begun (Piece.broken x text ∷ more) = nothing_read (x ∷ text)
pieces_read begun (Piece.other x text ∷ more) =
    if begun && is_word x && nat_le 1 (tokens_in more) then nothing_read (x ∷ text) else pieces_read begun more

abbrev pub tokens_read : List ℕ → TextRead
tokens_read text = pieces_read false (pieces_of text)
