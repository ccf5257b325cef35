use Rattle.std.proofs.Common.{◌++◌, ◌∙◌, ap, rules, ℕ, List}
use Rattle.tlv_io.proofs.Puts.{puts_failed, puts_then_as}
use Rattle.tlv_value.specs.ValueTextState.{long_value_line}
use Rattle.tlv_value.specs.Rows.{rows_of}
use Rattle.tlv_value.specs.TextBeside.{shown_row_lines_with}
use Rattle.tlv_value.proofs.RowLemmas.FullRows.{pair_lines}
use Rattle.tlv_value.proofs.whole_lines.put_pairs.Goals as goal

pub returns-in_err-put_long_line : goal.returns-in_err-put_long_line
returns-in_err-put_long_line g c = puts_failed g.D.Drain.state _ _ _ _ _ _ c.in_err-put_long_line.ensures (search rules)

pub returns : goal.returns
returns g c =
    let p = c.args.primitive.now in
    let line : List ℕ = long_value_line p c.args.contents.now in
    let rows =
    pair_lines p.kind c.requires.pairs p.with_text p.layout c.requires.unlimited c.row_octets-rows.result.now
    ∙ ap (λ (octets : List ℕ). shown_row_lines_with p.with_text p.kind p.layout (rows_of p.kind octets))
    c.row_octets-rows.ensures in
    puts_then_as g.D.Drain.state _ _ _ _ _ _ _ _ c.in_ok-put_long_line.ensures c.put_pair_rows.ensures
    (ap (λ (t : List ℕ). line ++ t) rows)
