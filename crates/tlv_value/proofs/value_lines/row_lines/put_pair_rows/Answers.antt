use Rattle.std.proofs.Common.{◌∙◌, ap, append-nil, refl, rules, sym, [], ℕ, List}
use Rattle.std.specs.Prelude.{◌++◌}
use Rattle.tlv_io.specs.Cuts.{last_rows}
use Rattle.tlv_io.proofs.Puts.{puts_failed_in, puts_line, puts_text, puts_then_as}
use Rattle.tlv_value.specs.Private.Rows.{pair_row_lines}
use Rattle.tlv_value.proofs.RowLemmas.FullRows.{last_line, lines_cut, no_last_line}
use Rattle.tlv_value.proofs.value_lines.row_lines.put_pair_rows.Goals as goal

pub returns-in_err-put_full_rows : goal.returns-in_err-put_full_rows
returns-in_err-put_full_rows g c =
    let rows = c.as_chunks.result.0.now in
    let last : List ℕ = c.as_chunks.result.1.now in
    let cut = lines_cut c.args.with_text c.args.layout c.args.octets.now rows last c.as_chunks.ensures.front c.as_chunks.ensures.back in
    puts_failed_in g.D.Drain.state _ _ (pair_row_lines c.args.with_text c.args.layout rows) _ _ _ c.in_err-put_full_rows.ensures
    (search rules) (record {
      rest = pair_row_lines c.args.with_text c.args.layout (last_rows last);
      is = cut;
    })

pub returns-then-is_empty : goal.returns-then-is_empty
returns-then-is_empty g c =
    let rows = c.as_chunks.result.0.now in
    let last : List ℕ = c.as_chunks.result.1.now in
    let cut = lines_cut c.args.with_text c.args.layout c.args.octets.now rows last c.as_chunks.ensures.front c.as_chunks.ensures.back in
    puts_text g.D.Drain.state
    _ _ _ _ _ (no_last_line c.args.with_text c.args.layout (pair_row_lines c.args.with_text c.args.layout rows) last (sym c.if-is_empty.ensures) ∙ cut)
    c.in_ok-put_full_rows.ensures

pub returns-in_err-make_room : goal.returns-in_err-make_room
returns-in_err-make_room g c =
    let state_of = g.D.Drain.state in
    let rows = c.as_chunks.result.0.now in
    let last : List ℕ = c.as_chunks.result.1.now in
    let full : List ℕ = pair_row_lines c.args.with_text c.args.layout rows in
    let cut = lines_cut c.args.with_text c.args.layout c.args.octets.now rows last c.as_chunks.ensures.front c.as_chunks.ensures.back in
    puts_failed_in state_of _ _ full
    _ _ _ (puts_then_as state_of _ _ _ full [] full _ _ c.in_ok-put_full_rows.ensures
    c.in_err-make_room.ensures.puts (append-nil full))
    (search rules)
    (record { rest = pair_row_lines c.args.with_text c.args.layout (last_rows last); is = cut })

pub returns : goal.returns
returns g c =
    let state_of = g.D.Drain.state in
    let rows = c.as_chunks.result.0.now in
    let last : List ℕ = c.as_chunks.result.1.now in
    let full : List ℕ = pair_row_lines c.args.with_text c.args.layout rows in
    let cut = lines_cut c.args.with_text c.args.layout c.args.octets.now rows last c.as_chunks.ensures.front c.as_chunks.ensures.back in
    let line = last_line c.args.with_text c.args.layout last (sym c.if-is_empty.ensures) in
    puts_then_as state_of _ _ _ full _ _ _ _ c.in_ok-put_full_rows.ensures
    (puts_line state_of _ _ _ _ _ (tt {0}) c.in_ok-make_room.ensures.puts refl c.write_line.ensures)
    (ap (λ (t : List ℕ). full ++ t) line ∙ cut)
