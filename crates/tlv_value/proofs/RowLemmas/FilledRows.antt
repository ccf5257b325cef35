-- Rows of contents as they fill, octet by octet.
use Rattle.std.specs.Prelude.{List, ℕ}
use Rattle.tlv_io.proofs.CutOf.{row_begun_by, rows_filled_by}
use Rattle.tlv_head.specs.declared.kind.Kind.{Kind}
use Rattle.tlv_value.specs.RowSizes.{character_length, row_size}

-- the rows that octets fill after a row that has begun
abbrev pub rows_filled : Kind → List ℕ → List ℕ → List (List ℕ)
rows_filled kind row octets = rows_filled_by (row_size kind) (character_length kind) row octets

-- the row that has then begun
abbrev pub row_begun : Kind → List ℕ → List ℕ → List ℕ
row_begun kind row octets = row_begun_by (row_size kind) (character_length kind) row octets
