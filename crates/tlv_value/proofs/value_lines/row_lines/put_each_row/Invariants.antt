use Rattle.std.proofs.Common.{take}
use Rattle.std.specs.Prelude.{eqb, not}
use Rattle.tlv_io.proofs.Puts.{HasPut}
use Rattle.tlv_value.specs.Private.Rows.{pair_row_lines}
use Rattle.tlv_value.proofs.value_lines.row_lines.put_each_row.Given as goal

abbrev pub invariant-loop-row : goal.invariant-loop-row
invariant-loop-row g l = HasPut g.D.Drain.state l.initial.out l.out (pair_row_lines (not (eqb g.row.WITH_TEXT 0)) l.layout (take l.row-index l.rows))
