-- Rows as octets come. A `ValueText` and a `ValueCheck` keep the row that has begun from one piece of contents to the
-- next. With the octets of that piece after it, it is cut anew.
use Rattle.std.specs.Prelude.{◌==◌, if◌then◌else◌, List, ℕ, [], ◌∷◌, ◌++◌, length}
use Rattle.tlv_head.specs.declared.kind.Kind.{Kind}
use Rattle.tlv_value.specs.RowSizes.{row_size}
use Rattle.tlv_value.specs.Rows.{full_rows_in, rows_of}

-- the octets of the last row, if it has fewer than a row has room for
abbrev pub open_row_in : Kind → List (List ℕ) → List ℕ
open_row_in kind [] = []
open_row_in kind (row ∷ []) = if length row == row_size kind then [] else row
open_row_in kind (row ∷ next ∷ rows) = open_row_in kind (next ∷ rows)

-- the rows that are full once these octets follow the row that has begun
abbrev pub full_rows : Kind → List ℕ → List ℕ → List (List ℕ)
full_rows kind row octets = full_rows_in kind (rows_of kind (row ++ octets))

-- the octets of the row that has then begun
abbrev pub open_row : Kind → List ℕ → List ℕ → List ℕ
open_row kind row octets = open_row_in kind (rows_of kind (row ++ octets))
