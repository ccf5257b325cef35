-- The rows of long contents.
use Rattle.std.specs.Prelude.{◌==◌, if◌then◌else◌, List, ℕ, [], ◌∷◌, ◌++◌, length}
use Rattle.tlv_head.specs.declared.kind.Kind.{Kind}
use Rattle.tlv_value.specs.RowSizes.{has_room, row_size}

-- cuts octets into rows, when a row has begun: an octet for which the row has room (`has_room`) joins it, and any other
-- begins the next row
abbrev pub rows_from : Kind → List ℕ → List ℕ → List (List ℕ)
rows_from kind row [] = row ∷ []
rows_from kind row (x ∷ octets) =
    if has_room kind (length row) x
    then rows_from kind (row ++ x ∷ []) octets
    else row ∷ rows_from kind (x ∷ []) octets

-- the rows of octets: the first octet begins the first row. The laws `rows_are_a_cut` and `rows_have_one_cut` say the
-- same as a condition on rows (`IsCut` of tlv_io)
abbrev pub rows_of : Kind → List ℕ → List (List ℕ)
rows_of kind [] = []
rows_of kind (x ∷ octets) = rows_from kind (x ∷ []) octets

-- the rows to which no further octet can be added: each that another row follows, and a last one that has no room left
abbrev pub full_rows_in : Kind → List (List ℕ) → List (List ℕ)
full_rows_in kind [] = []
full_rows_in kind (row ∷ []) = if length row == row_size kind then row ∷ [] else []
full_rows_in kind (row ∷ next ∷ rows) = row ∷ full_rows_in kind (next ∷ rows)
