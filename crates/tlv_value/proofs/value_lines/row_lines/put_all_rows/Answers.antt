use Rattle.std.proofs.Common.{rules, ◌≡◌, ◌+◌, ℕ, List, [], length, ◌∙◌, arith}
use Rattle.tlv_io.specs.Cuts.{last_rows}
use Rattle.tlv_io.proofs.Puts.{puts_failed_in, puts_then_as}
use Rattle.tlv_head.specs.declared.kind.Kind.TheVariants.{Octets}
use Rattle.tlv_value.specs.RowsSoFar.{full_rows, open_row}
use Rattle.tlv_value.specs.ValueTextState.{row_lines}
use Rattle.tlv_value.proofs.TextLemmas.RowLines.{rows-split}
use Rattle.tlv_value.proofs.value_lines.row_lines.put_all_rows.Goals as goal

pub returns-in_err-put_rows : goal.returns-in_err-put_rows
returns-in_err-put_rows g c =
    let octets : List ℕ = c.args.contents.now in
    let failed = rw c.new-row.ensures at c.in_err-put_rows.ensures.puts in
    puts_failed_in g.D.Drain.state _ _ (row_lines c.args.with_text Octets c.args.layout 0 (full_rows Octets [] octets)) _ _ _ failed
    (search rules) (record {
      rest =
          row_lines c.args.with_text Octets c.args.layout (length (full_rows Octets [] octets)) (last_rows (open_row Octets [] octets));
      is = rows-split c.args.with_text Octets c.args.layout octets;
    })

pub returns : goal.returns
returns g c =
    let octets : List ℕ = c.args.contents.now in
    let none = c.new-row.ensures in
    let put = rw none at c.in_ok-put_rows.ensures.puts in
    let row : c.as_slice.result.now ≡ open_row Octets [] octets =
    c.as_slice.ensures.value ∙ rw none at c.in_ok-put_rows.ensures.row in
    let zero : 0 + length (full_rows Octets [] octets) ≡ length (full_rows Octets [] octets) = omega arith in
    let rows : c.put_rows.new.row_count ≡ length (full_rows Octets [] octets) =
    rw none at c.in_ok-put_rows.ensures.row_count ∙ zero in
    puts_then_as g.D.Drain.state _ _ _ _ _ _ _ _ put (rw (row, rows) at c.put_last.ensures)
    (rows-split c.args.with_text Octets c.args.layout octets)
