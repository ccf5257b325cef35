-- What the body of a block of PEM holds: base64, or headers and then base64 (RFC 7468; RFC 1421, section 4.4).
use Rattle.std.specs.Prelude.{◌≡◌, ℕ, ◌+◌, ◌==◌, Bool, true, false, ◌&&◌, ◌||◌, if◌then◌else◌}
use Rattle.std.specs.Prelude.{List, [], ◌∷◌, codes, drop, length, nat_lt, take}
use Rattle.std.specs.List.{list_any}
use Rattle.std.specs.Str.{bytes_eq}
use Rattle.tlv_text.specs.Characters.{is_quote}
use Rattle.tlv_text.specs.declared.body.PemBody.{PemBody}
use Rattle.tlv_text.specs.declared.body.PemBody.TheVariants.{Base64, Encrypted}

abbrev pub is_colon : ℕ → Bool
is_colon x = x == 58

-- a body with a colon anywhere begins with headers
abbrev pub has_headers : List ℕ → Bool
has_headers body = list_any is_colon body

-- what does not count at the edges of a line: spaces, tabs, carriage returns, quotes, and the mark of quoted mail
abbrev pub does_not_count : ℕ → Bool
does_not_count x = (x == 32) || (x == 9) || (x == 13) || is_quote x || (x == 62)

-- a carriage return as JSON and C write it: a backslash and r
abbrev pub is_escaped_return : ℕ → ℕ → Bool
is_escaped_return x y = (x == 92) && (y == 114)

-- a line feed as JSON and C write it: a backslash and n
abbrev pub is_escaped_line_feed : ℕ → ℕ → Bool
is_escaped_line_feed x y = (x == 92) && (y == 110)

-- what comes after the first line end of a text: nothing, if it has none
abbrev pub after_line : List ℕ → List ℕ
after_line [] = []
after_line (x ∷ []) = []
after_line (x ∷ y ∷ text) =
    if x == 10 then y ∷ text else (if is_escaped_line_feed x y then text else after_line (y ∷ text))

-- the number of characters in the lines of a text up to the first blank line, including that line and its end: all,
-- if no line is blank; the first argument says whether the line that the text begins in has been blank so far
abbrev pub headers_size : Bool → List ℕ → ℕ
headers_size blank [] = 0
headers_size blank (x ∷ []) = 1
headers_size blank (x ∷ y ∷ text) =
    if x == 10 then 1 + (if blank then 0 else headers_size true (y ∷ text))
    else (
    if is_escaped_line_feed x y then 2 + (if blank then 0 else headers_size true text)
    else (
    if is_escaped_return x y then 2 + headers_size blank text
    else 1 + headers_size (blank && does_not_count x) (y ∷ text)
    )
    )

-- the headers are in the lines after the line of the marker
abbrev pub size_of_headers : List ℕ → ℕ
size_of_headers body = headers_size true (after_line body)

-- the headers of a body, if it has any, with the blank line that ends them
abbrev pub headers_of : List ℕ → List ℕ
headers_of body = if has_headers body then take (size_of_headers body) (after_line body) else []

-- headers, a blank line, and then more
abbrev pub has_more_than_headers : List ℕ → Bool
has_more_than_headers body = has_headers body && nat_lt (size_of_headers body) (length (after_line body))

-- the base64 of a body: what comes after the blank line; or all of it, if there are no headers, or nothing comes after
-- them. In the latter case it is refused at its first colon
abbrev pub base64_part : List ℕ → List ℕ
base64_part body = if has_more_than_headers body then drop (size_of_headers body) (after_line body) else body

-- a word stands somewhere in a text
abbrev pub has_word : List ℕ → List ℕ → Bool
has_word word [] = false
has_word word (x ∷ text) = bytes_eq (take (length word) (x ∷ text)) word || has_word word text

-- RFC 1421, section 4.6.1.1: the headers say that the block is encrypted
abbrev pub is_encrypted : List ℕ → Bool
is_encrypted body = has_word (codes "ENCRYPTED") (headers_of body)

-- what an encrypted body holds is not looked at; any other body holds its base64
abbrev pub IsHeldBy : List ℕ → PemBody → Type 0
IsHeldBy body Encrypted = is_encrypted body ≡ true
IsHeldBy body (Base64 text) = (is_encrypted body ≡ false) × (text.now ≡ base64_part body)
