-- The headers whose length may be wrong, in the order in which they are tried.
use Rattle.std.specs.Prelude.{ℕ, eqb, nat_le, if◌then◌else◌, List, [], ◌∷◌, ◌++◌, Option, Some, None, map, take}
use Rattle.std.specs.List.{filter, list_any}
use Rattle.tlv_reasons.specs.declared.element.Element.{Element}
use Rattle.tlv_reasons.specs.declared.facts.Facts.{Facts}

abbrev pub offset_there : Option Element → List ℕ
offset_there None = []
offset_there (Some e) = e.offset ∷ []

abbrev pub element_offset : Element → ℕ
element_offset e = e.offset

-- so many of the open elements are among them: a limit of our own
abbrev pub open_tries : ℕ
open_tries = 16

-- this number, unless it stands in `seen`
abbrev pub unless_seen : List ℕ → ℕ → List ℕ
unless_seen seen x = if list_any (λ y. eqb y x) seen then [] else x ∷ []

-- the numbers of a list, each only once, without those that stand in `seen`
abbrev pub distinct_after : List ℕ → List ℕ → List ℕ
distinct_after seen [] = []
distinct_after seen (x ∷ xs) = unless_seen seen x ++ distinct_after (seen ++ unless_seen seen x) xs

-- the numbers of a list, each only once
abbrev pub distinct : List ℕ → List ℕ
distinct xs = distinct_after [] xs

-- the offsets of these headers: the refused header; the headers of the elements before, the nearest first; the headers
-- of the outermost open elements, outermost first
abbrev pub suspect_offsets : Facts → List ℕ
suspect_offsets facts =
    distinct ((offset_there facts.there ++ facts.nearest.items)
    ++ map element_offset (take open_tries facts.holders.items))

-- those of them from this offset on
abbrev pub suspects_from : ℕ → Facts → List ℕ
suspects_from offset facts = filter (λ o. nat_le offset o) (suspect_offsets facts)
