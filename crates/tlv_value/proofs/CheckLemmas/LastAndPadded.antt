-- What is kept of the last octet and of padding, octet by octet, is what is said of all contents.
use Rattle.std.proofs.Common.{◌≡◌, ℕ, ◌&&◌, ◌||◌, Bool, true, false, eqb, nat_lt, if◌then◌else◌, List, [], ◌∷◌, refl, ap}
use Rattle.std.proofs.Common.{◌∙◌}
use Rattle.std.specs.List.{list_any, onto_first}
use Rattle.tlv_value.specs.Arcs.{parts_of}
use Rattle.tlv_value.specs.Checks.{begins_with, last_octet}
use Rattle.tlv_value.specs.ValueCheckState.{is_padded_after, last_octet_after}

last-of_some : (previous x : ℕ) (xs : List ℕ) → last_octet_after previous (x ∷ xs) ≡ last_octet (x ∷ xs)
last-of_some previous x [] = refl
last-of_some previous x (y ∷ ys) = last-of_some x y ys

pub last_of_all : (octets : List ℕ) → last_octet_after 0 octets ≡ last_octet octets
last_of_all [] = refl
last_of_all (x ∷ xs) = last-of_some 0 x xs

-- the parts after the first, which goes on from octets before
abbrev later_parts : List (List ℕ) → List (List ℕ)
later_parts [] = []
later_parts (part ∷ parts) = parts

-- a part that begins here begins with 80. The first argument says whether the first part begins here
abbrev is_padded_in : Bool → List (List ℕ) → Bool
is_padded_in true parts = list_any (begins_with 128) parts
is_padded_in false parts = list_any (begins_with 128) (later_parts parts)

padded-before : (begins ends : Bool) (x : ℕ) (parts : List (List ℕ))
    → ((begins && eqb x 128) || is_padded_in ends parts)
    ≡ is_padded_in begins (if ends then (x ∷ []) ∷ parts else onto_first x parts)
padded-before true true x parts = refl
padded-before true false x [] = refl
padded-before true false x (part ∷ parts) = refl
padded-before false true x parts = refl
padded-before false false x [] = refl
padded-before false false x (part ∷ parts) = refl

none-padded : (begins : Bool) → false ≡ is_padded_in begins []
none-padded true = refl
none-padded false = refl

padded-by_parts : (previous : ℕ) (octets : List ℕ)
    → is_padded_after previous octets ≡ is_padded_in (nat_lt previous 128) (parts_of octets)
padded-by_parts previous [] = none-padded (nat_lt previous 128)
padded-by_parts previous (x ∷ xs) =
    ap (λ (b : Bool). (nat_lt previous 128 && eqb x 128) || b) (padded-by_parts x xs)
    ∙ padded-before (nat_lt previous 128) (nat_lt x 128) x (parts_of xs)

pub padded_of_all : (octets : List ℕ) → is_padded_after 0 octets ≡ list_any (begins_with 0x80) (parts_of octets)
padded_of_all octets = padded-by_parts 0 octets

pub ruleset of_all = (last_of_all, padded_of_all)
