use Rattle.std.specs.Str.{is_utf8}
use Rattle.std.specs.List.{list_all}
use Rattle.std.proofs.Common.{◌≡◌, ◌+◌, length}
use Rattle.std.specs.Prelude.{◌&&◌}
use Rattle.tlv_head.specs.declared.kind.Kind.TheVariants.{Utf8}
use Rattle.tlv_value.specs.RowSizes.{IsOpenRow}
use Rattle.tlv_value.proofs.RowLemmas.FilledRows.{row_begun, rows_filled}
use Rattle.tlv_value.specs.RowsSoFar.{full_rows, open_row}
use Rattle.tlv_value.proofs.value_check.utf8_rows.take_rows.Given as goal

abbrev pub invariant-loop-rest : goal.invariant-loop-rest
invariant-loop-rest l = record {
  is_open : IsOpenRow Utf8 l.row.items;
  row : row_begun Utf8 l.row.items l.rest ≡ open_row Utf8 l.initial.row.items l.octets;
  utf8 : (l.are_full_rows_utf8 && list_all is_utf8 (rows_filled Utf8 l.row.items l.rest))
      ≡ list_all is_utf8 (full_rows Utf8 l.initial.row.items l.octets);
}

abbrev pub decreases-loop-rest : goal.decreases-loop-rest
decreases-loop-rest l = length l.rest + length l.rest + length l.row.items
