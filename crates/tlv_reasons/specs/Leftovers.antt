-- The sentences about the octets after the last whole encoding.
use Rattle.std.specs.Prelude.{ℕ, ◌-◌, Bool, ◌&&◌, ◌||◌, not, eqb, nat_le, nat_lt, if◌then◌else◌, List, [], ◌∷◌}
use Rattle.std.specs.Prelude.{drop, length, slice_index}
use Rattle.std.specs.List.{list_all}
use Rattle.tlv_reasons.specs.declared.sentence.Sentence.{Sentence}
use Rattle.tlv_reasons.specs.declared.sentence.Sentence.TheVariants as say

-- what is left over where whole encodings end, if there are any: `left` octets, from the offset `top` on
abbrev pub left_over : ℕ → ℕ → List Sentence
left_over top left = if eqb top 0 then [] else say.LeftOver top left ∷ say.TryWhole top ∷ []

-- a blank octet: a space, HT, LF, CR or SUB
abbrev pub is_blank_octet : ℕ → Bool
is_blank_octet x = eqb x 0x20 || eqb x 9 || eqb x 10 || eqb x 13 || eqb x 0x1a

-- blank octets alone
abbrev pub are_blank_octets : List ℕ → Bool
are_blank_octets octets = list_all is_blank_octet octets

-- all octets equal this one
abbrev pub are_all : ℕ → List ℕ → Bool
are_all octet octets = list_all (λ x. eqb x octet) octets

-- two or more equal octets other than 00
abbrev pub are_filler : List ℕ → Bool
are_filler octets =
    nat_lt 1 (length octets) && not (eqb (slice_index octets 0) 0)
    && are_all (slice_index octets 0) octets

-- an octet of printable text: HT, LF, CR, or a character of ASCII that is shown
abbrev pub is_text_octet : ℕ → Bool
is_text_octet x = eqb x 9 || eqb x 10 || eqb x 13 || (nat_le 0x20 x && nat_le x 0x7e)

-- eight or more octets of printable text
abbrev pub are_text : List ℕ → Bool
are_text octets = nat_le 8 (length octets) && list_all is_text_octet octets

-- there are whole encodings, and only blanks, filler or text follow them
abbrev pub is_followed_by_other : List ℕ → ℕ → Bool
is_followed_by_other octets top =
    nat_lt 0 top && nat_lt top (length octets)
    && (are_blank_octets (drop top octets) || are_filler (drop top octets) || are_text (drop top octets))

-- what follows them
abbrev pub what_follows : List ℕ → ℕ → Sentence
what_follows octets top =
    if are_blank_octets (drop top octets) then say.BlanksFollow top (length octets - top)
    else (if are_filler (drop top octets) then say.FillerFollows top (length octets - top)
    else say.TextFollows top (length octets - top))

abbrev pub following_reasons : List ℕ → ℕ → List Sentence
following_reasons octets top = what_follows octets top ∷ say.TryWhole top ∷ []
