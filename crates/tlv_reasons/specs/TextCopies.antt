-- What programs do to octets that they take for a text, and how to undo it.
use Rattle.std.specs.Prelude.{◌≡◌, ◌≢◌, ℕ, ◌+◌, ◌*◌, ◌-◌, Bool, false, ◌&&◌, ◌||◌, ◌==◌, nat_eq, nat_le, nat_lt}
use Rattle.std.specs.Prelude.{if◌then◌else◌, List, [], ◌∷◌, Option, None, Some}
use Rattle.std.specs.List.{starts_with}
use Rattle.std.specs.Option.{option_map}
use Rattle.tlv_open.specs.Opens.{closed_framing}
use Rattle.tlv_walk.specs.Reading.{IsSoundList}

-- whether 0d stands before 0a here
abbrev pub begins_crlf : List ℕ → Bool
begins_crlf (x ∷ y ∷ more) = (x == 0x0d) && (y == 0x0a)
begins_crlf octets = false

-- the octets with 0a in place of each 0d 0a
abbrev pub with_lf_alone : List ℕ → List ℕ
with_lf_alone [] = []
with_lf_alone (x ∷ more) = if begins_crlf (x ∷ more) then with_lf_alone more else x ∷ with_lf_alone more

-- there are octets 0d 0a, and the input is sound if each is 0a alone
pub record IsSoundWithLfAlone (padding : Bool) (octets : List ℕ) : Type 0 where
  pub changed : with_lf_alone octets ≢ octets
  pub sound : IsSoundList (closed_framing padding) (with_lf_alone octets)

-- RFC 3629, section 3: whether the replacement character U+FFFD is among the octets, in UTF-8: ef bf bd
abbrev pub has_replacement : List ℕ → Bool
has_replacement [] = false
has_replacement (x ∷ more) =
    starts_with nat_eq (x ∷ more) (0xef ∷ 0xbf ∷ 0xbd ∷ []) || has_replacement more

-- an octet before others, if these are there
abbrev pub octet_and : ℕ → Option (List ℕ) → Option (List ℕ)
octet_and x more = option_map (λ xs. x ∷ xs) more

-- RFC 3629, section 3: two octets that are a character from 128 to 255
abbrev pub is_latin1_pair : ℕ → ℕ → Bool
is_latin1_pair x y = ((x == 0xc2) || (x == 0xc3)) && (nat_le 0x80 y && nat_le y 0xbf)

-- RFC 3629, section 3: the characters of a text in UTF-8, if they are all below 256: those below 128 have one octet
abbrev pub latin1_of_utf8 : List ℕ → Option (List ℕ)
latin1_of_utf8 [] = Some []
latin1_of_utf8 (x ∷ []) = if nat_lt x 0x80 then Some (x ∷ []) else None
latin1_of_utf8 (x ∷ y ∷ more) =
    if nat_lt x 0x80 then octet_and x (latin1_of_utf8 (y ∷ more))
    else (if is_latin1_pair x y then octet_and ((x - 0xc2) * 0x40 + y) (latin1_of_utf8 more) else None)

-- the input is UTF-8 of characters below 256, not all of them below 128, and sound if each is one octet
pub record IsSoundWithoutUtf8 (padding : Bool) (octets : List ℕ) : Type 0 where
  pub characters : List ℕ
  pub characters_are : latin1_of_utf8 octets ≡ Some characters
  pub changed : characters ≢ octets
  pub sound : IsSoundList (closed_framing padding) characters
