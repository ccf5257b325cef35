use Rattle.std.proofs.Common.{◌≡◌, ℕ, ◌+◌, ◌≤◌, ◌++◌, List, length}
use Rattle.tlv_io.proofs.Puts.{HasPut}
use Rattle.tlv_value.specs.RowSizes.{IsOpenRow}
use Rattle.tlv_value.proofs.RowLemmas.FilledRows.{row_begun, rows_filled}
use Rattle.tlv_value.specs.RowsSoFar.{full_rows, open_row}
use Rattle.tlv_value.specs.ValueTextState.{row_lines}
use Rattle.tlv_value.proofs.value_lines.row_lines.put_rows.Given as goal

abbrev pub invariant-loop-rest : goal.invariant-loop-rest
invariant-loop-rest g l = record {
  is_open : IsOpenRow l.form.kind l.row.items;
  counted : l.row_count + length l.row.items + length l.rest
      ≤ l.initial.row_count + length l.initial.row.items + length l.octets;
  row : row_begun l.form.kind l.row.items l.rest ≡ open_row l.form.kind l.initial.row.items l.octets;
  rows : l.row_count + length (rows_filled l.form.kind l.row.items l.rest)
      ≡ l.initial.row_count + length (full_rows l.form.kind l.initial.row.items l.octets);
  put : (text : List ℕ) × HasPut g.D.Drain.state l.initial.out l.out text
      × (text ++ row_lines l.form.with_text l.form.kind l.form.layout l.row_count (rows_filled l.form.kind l.row.items l.rest)
      ≡ row_lines l.form.with_text l.form.kind l.form.layout l.initial.row_count (full_rows l.form.kind l.initial.row.items l.octets));
}

abbrev pub decreases-loop-rest : goal.decreases-loop-rest
decreases-loop-rest g l = length l.rest + length l.rest + length l.row.items
