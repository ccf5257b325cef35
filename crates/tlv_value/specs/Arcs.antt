-- Object identifiers: X.690 8.19 and 8.20.
use Rattle.std.specs.Prelude.{ℕ, ◌-◌, ◌%◌, ◌^◌, Bool, true, false, ◌&&◌, nat_lt, nat_le, if◌then◌else◌, List}
use Rattle.std.specs.Prelude.{[], ◌∷◌, ◌++◌, length, map, slice_index, Option, Some, None, codes, decimal}
use Rattle.std.specs.List.{join_by, list_all, onto_first}
use Rattle.tlv_head.specs.Header.{value_of}

-- 8.19.2: the octets, cut after each octet that has bit 8 clear; an octet with bit 8 set is in one part with the octet
-- after it. Octets after the last cut are a part too: an unfinished subidentifier
abbrev pub parts_of : List ℕ → List (List ℕ)
parts_of [] = []
parts_of (x ∷ xs) = if nat_lt x 128 then (x ∷ []) ∷ parts_of xs else onto_first x (parts_of xs)

-- 8.19.2: the number that a part stands for: bits 7 to 1 of its octets, put together
abbrev pub subidentifier : List ℕ → ℕ
subidentifier part = value_of 128 (map (λ x. x % 128) part)

abbrev pub subidentifiers : List ℕ → List ℕ
subidentifiers octets = map subidentifier (parts_of octets)

-- 8.19.4: the two arcs that the first subidentifier stands for
abbrev pub first_arcs : ℕ → List ℕ
first_arcs v =
    if nat_lt v 40 then 0 ∷ v ∷ []
    else if nat_lt v 80 then 1 ∷ (v - 40) ∷ []
    else 2 ∷ (v - 80) ∷ []

-- the arcs that subidentifiers stand for; `true` is for a relative object identifier. There each stands for one
-- (8.20.3, 8.20.4). In any other the first stands for two (8.19.3 to 8.19.5)
abbrev pub arcs_of : Bool → List ℕ → List ℕ
arcs_of true vs = vs
arcs_of false [] = []
arcs_of false (v ∷ vs) = first_arcs v ++ vs

-- 8.19.2: there are octets, and bit 8 of the last is clear
abbrev pub is_finished : List ℕ → Bool
is_finished octets = nat_le 1 (length octets) && nat_lt (slice_index octets (length octets - 1)) 128

-- the dotted text of 1 to 64 octets: the arcs in decimal, with dots between them. There is none if the last
-- subidentifier is unfinished, or a subidentifier is 2^128 or more
abbrev pub dotted_of : Bool → List ℕ → Option (List ℕ)
dotted_of relative octets =
    if is_finished octets && nat_le (length octets) 64 && list_all (λ v. nat_lt v (2 ^ 128)) (subidentifiers octets)
    then Some (join_by decimal (codes ".") (arcs_of relative (subidentifiers octets)))
    else None
