-- The parts of dotted texts.
use Rattle.std.specs.List.{join_by}
use Rattle.std.specs.Prelude.{ℕ, Bool, true, false, List, ◌∷◌, codes, decimal}
use Rattle.tlv_value.specs.Arcs.{first_arcs}

-- arcs in decimal, with dots between them
abbrev pub dotted_arcs : List ℕ → List ℕ
dotted_arcs arcs = join_by decimal (codes ".") arcs

-- the arcs of a subidentifier, as they are in the dotted text. The first argument says whether the subidentifier is
-- the first, the second whether the object identifier is relative
abbrev pub arcs_text : Bool → Bool → ℕ → List ℕ
arcs_text true true v = decimal v
arcs_text true false v = dotted_arcs (first_arcs v)
arcs_text false relative v = 0x2e ∷ decimal v
