use Rattle.std.proofs.Common.{rules, [], List, ℕ, append-nil, drop, get_or, refl, take, ap}
use Rattle.std.proofs.lemmas.List.{take_all}
use Rattle.std.specs.Prelude.{eqb, not}
use Rattle.tlv_io.proofs.Puts.{puts_failed_in, puts_line, puts_nothing, puts_text, puts_then_as}
use Rattle.tlv_value.specs.Private.Rows.{pair_row_line, pair_row_lines}
use Rattle.tlv_value.proofs.RowLemmas.FullRows.{lines_more, lines_split}
use Rattle.tlv_value.proofs.value_lines.row_lines.put_each_row.Goals as goal

pub loop-row-init : goal.loop-row-init
loop-row-init g c = puts_nothing g.D.Drain.state _ _

pub loop-row-preserved : goal.loop-row-preserved
loop-row-preserved g c =
    let state_of = g.D.Drain.state in
    let i : ℕ = c.loop-row.row-index in
    let line : List ℕ = pair_row_line (not (eqb g.row.WITH_TEXT 0)) c.args.layout (get_or c.args.rows.now i []) in
    puts_then_as state_of _ _ _ (pair_row_lines (not (eqb g.row.WITH_TEXT 0)) c.args.layout (take i c.args.rows.now)) line _ _ _ c.loop-row.invariant
    (puts_line state_of _ _ _ line _ (tt {0}) c.in_ok-make_room_for.ensures.puts refl c.write_pair_row_line.ensures)
    (lines_more (not (eqb g.row.WITH_TEXT 0)) c.args.layout c.args.rows.now i c.loop-row-test.true)

pub returns-in_err-make_room_for : goal.returns-in_err-make_room_for
returns-in_err-make_room_for g c =
    let state_of = g.D.Drain.state in
    let i : ℕ = c.loop-row.row-index in
    let full : List ℕ = pair_row_lines (not (eqb g.row.WITH_TEXT 0)) c.args.layout (take i c.args.rows.now) in
    puts_failed_in state_of _ _ full
    _ _ _ (puts_then_as state_of _ _ _ full [] full _ _ c.loop-row.invariant c.in_err-make_room_for.ensures.puts
    (append-nil full))
    (search rules)
    (record {
      rest = pair_row_lines (not (eqb g.row.WITH_TEXT 0)) c.args.layout (drop i c.args.rows.now);
      is = lines_split (not (eqb g.row.WITH_TEXT 0)) c.args.layout c.args.rows.now i;
    })

pub returns : goal.returns
returns g c =
    puts_text g.D.Drain.state
    _ _ _ _ _ (ap (pair_row_lines (not (eqb g.row.WITH_TEXT 0)) c.args.layout) (take_all c.loop-row.row-index c.args.rows.now c.loop-row-test.false))
    c.loop-row.invariant
