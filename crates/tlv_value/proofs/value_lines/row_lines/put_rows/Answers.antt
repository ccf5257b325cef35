use Rattle.std.proofs.Common.{rules, refl, ◌≡◌, ◌⊎◌, inl, inr, ℕ, ◌+◌, ◌<◌, ◌++◌, [], List, length, sym, ap, ◌∙◌, arith}
use Rattle.std.proofs.Common.{append_assoc, append-nil}
use Rattle.std.proofs.lemmas.Bool.{eqb-true}
use Rattle.std.proofs.lemmas.Bool.Decides.{nat_tests}
use Rattle.std.proofs.lemmas.Grind.{common_steps}
use Rattle.std.proofs.lemmas.List.{nil_from_length}
use Rattle.tlv_io.proofs.Puts.{puts_as, puts_failed_in, puts_nothing, puts_then_as}
use Rattle.tlv_value.specs.RowSizes.{row_size}
use Rattle.tlv_value.proofs.RowLemmas.FilledRows.{rows_filled}
use Rattle.tlv_value.specs.Private.Rows.{pair_row_lines}
use Rattle.tlv_value.specs.ValueTextState.{row_line, row_lines}
use Rattle.tlv_value.specs.TextBeside.{row_text_with}
use Rattle.tlv_value.proofs.RowLemmas.FullRows.{splits-full_rows}
use Rattle.tlv_value.proofs.RowLemmas.OneCut.{open-parts}
use Rattle.tlv_value.proofs.RowLemmas.RowSteps.{row-kept_in_loop, kept-open, none-open, filled_row-some}
use Rattle.tlv_value.proofs.RowLemmas.RowSteps.{row-filled_in_loop}
use Rattle.tlv_value.proofs.value_lines.row_lines.put_rows.Goals.{else-begun-part-via-then-begun-part+else-is_empty}
use Rattle.tlv_value.proofs.value_lines.row_lines.put_rows.Goals.{else-begun-part-via-else-begun-part}
use Rattle.tlv_value.proofs.value_lines.row_lines.put_rows.Goals as goal

pub returns-then-is_empty-clause-is_open : goal.returns-then-is_empty-clause-is_open
returns-then-is_empty-clause-is_open g c =
    let z : length c.split_at.result.1.now ≡ 0 =
    eqb-true (length c.split_at.result.1.now) 0 (sym c.if-is_empty.ensures) in
    let t : c.try_extend_from_slice.new.self.items ≡ c.loop-rest.row.items ++ c.split_at.result.0.now =
    grind (arith, common_steps) in
    rw t
    (kept-open c.args.form.now.kind c.len-begun.result c.loop-rest.row.items c.fitting_length.result c.loop-rest.rest.now
    c.split_at.result.0.now c.loop-rest.invariant.is_open c.len-begun.ensures.value c.split_at.ensures.front
    c.fitting_length.ensures.fits
    (omega arith) c.fitting_length.ensures.within (omega arith))

pub returns-then-is_empty-clause-row : goal.returns-then-is_empty-clause-row
returns-then-is_empty-clause-row g c =
    let z : length c.split_at.result.1.now ≡ 0 =
    eqb-true (length c.split_at.result.1.now) 0 (sym c.if-is_empty.ensures) in
    let k =
    row-kept_in_loop c.args.form.now.kind c.len-begun.result c.loop-rest.row.items c.fitting_length.result c.loop-rest.rest.now
    c.split_at.result.0.now c.len-begun.ensures.value c.split_at.ensures.front c.fitting_length.ensures.fits
    (omega arith) c.fitting_length.ensures.within (omega arith) in
    let t : c.try_extend_from_slice.new.self.items ≡ c.loop-rest.row.items ++ c.split_at.result.0.now =
    grind (arith, common_steps) in
    t ∙ sym k.1 ∙ c.loop-rest.invariant.row

pub returns-then-is_empty-clause-row_count : goal.returns-then-is_empty-clause-row_count
returns-then-is_empty-clause-row_count g c =
    let z : length c.split_at.result.1.now ≡ 0 =
    eqb-true (length c.split_at.result.1.now) 0 (sym c.if-is_empty.ensures) in
    let k =
    row-kept_in_loop c.args.form.now.kind c.len-begun.result c.loop-rest.row.items c.fitting_length.result c.loop-rest.rest.now
    c.split_at.result.0.now c.len-begun.ensures.value c.split_at.ensures.front c.fitting_length.ensures.fits
    (omega arith) c.fitting_length.ensures.within (omega arith) in
    let i = c.loop-rest.invariant.rows in
    omega (arith, i, ap length k.0)

pub returns-then-is_empty-clause-puts : goal.returns-then-is_empty-clause-puts
returns-then-is_empty-clause-puts g c =
    let z : length c.split_at.result.1.now ≡ 0 =
    eqb-true (length c.split_at.result.1.now) 0 (sym c.if-is_empty.ensures) in
    let k =
    row-kept_in_loop c.args.form.now.kind c.len-begun.result c.loop-rest.row.items c.fitting_length.result c.loop-rest.rest.now
    c.split_at.result.0.now c.len-begun.ensures.value c.split_at.ensures.front c.fitting_length.ensures.fits
    (omega arith) c.fitting_length.ensures.within (omega arith) in
    let i = c.loop-rest.invariant.put in
    puts_as g.D.Drain.state _ _ i.0 _ tt tt i.1 (rw (k.0, append-nil) at i.2)

pub loop-rest-preserved : goal.loop-rest-preserved
loop-rest-preserved g c =
    let kind = c.args.form.now.kind in
    let i = c.loop-rest.invariant in
    let row : List ℕ = c.loop-rest.row.items in
    let part : List ℕ = c.split_at.result.0.now in
    let more : List ℕ = c.split_at.result.1.now in
    let m : ℕ = c.fitting_length.result in
    let claim : (c.len-begun.result + m ≡ row_size kind) ⊎ (m < length c.loop-rest.rest.now) =
    elim c.else-begun-part.branch [
      | else-begun-part-via-then-begun-part+else-is_empty w ↦ inr (grind (arith, nat_tests))
      | else-begun-part-via-else-begun-part w ↦ inl (omega arith)
    ] in
    let t =
    row-filled_in_loop kind c.len-begun.result row m c.loop-rest.rest.now part more c.len-begun.ensures.value
    c.split_at.ensures.front c.split_at.ensures.back c.fitting_length.ensures.fits
    c.fitting_length.ensures.short
    c.fitting_length.ensures.within (omega arith) c.fitting_length.ensures.next claim in
    let p =
    filled_row-some kind c.len-begun.result m c.loop-rest.rest.now (omega arith) c.fitting_length.ensures.next claim
    in
    let none : c.put_full.new.row.items ≡ [] = c.put_full.ensures.row in
    let line : List ℕ = row_line c.args.form.now.layout c.loop-rest.row_count (row_text_with c.args.form.now.with_text kind (row ++ part)) in
    record {
      is_open = rw none (none-open kind);
      counted = omega (arith, ap length none);
      row = rw none (sym t.1 ∙ i.row);
      rows = rw none (omega (arith, ap length t.0));
      put = (
        i.put.0 ++ line,
        puts_then_as g.D.Drain.state _ _ _ i.put.0 line (i.put.0 ++ line) tt _ i.put.1 c.in_ok-put_full.ensures.puts
            refl,
        rw none
            (append_assoc i.put.0 line
            (row_lines c.args.form.now.with_text kind c.args.form.now.layout (c.loop-rest.row_count + 1) (rows_filled kind [] more))
            ∙ ap (λ (x : List ℕ). i.put.0 ++ x) (sym (ap (row_lines c.args.form.now.with_text kind c.args.form.now.layout c.loop-rest.row_count) t.0))
            ∙ i.put.2),
      );
    }

pub returns-in_err-put_full-clause-puts : goal.returns-in_err-put_full-clause-puts
returns-in_err-put_full-clause-puts g c =
    let kind = c.args.form.now.kind in
    let i = c.loop-rest.invariant in
    let row : List ℕ = c.loop-rest.row.items in
    let part : List ℕ = c.split_at.result.0.now in
    let more : List ℕ = c.split_at.result.1.now in
    let m : ℕ = c.fitting_length.result in
    let claim : (c.len-begun.result + m ≡ row_size kind) ⊎ (m < length c.loop-rest.rest.now) =
    elim c.else-begun-part.branch [
      | else-begun-part-via-then-begun-part+else-is_empty w ↦ inr (grind (arith, nat_tests))
      | else-begun-part-via-else-begun-part w ↦ inl (omega arith)
    ] in
    let t =
    row-filled_in_loop kind c.len-begun.result row m c.loop-rest.rest.now part more c.len-begun.ensures.value
    c.split_at.ensures.front c.split_at.ensures.back c.fitting_length.ensures.fits
    c.fitting_length.ensures.short
    c.fitting_length.ensures.within (omega arith) c.fitting_length.ensures.next claim in
    let line : List ℕ = row_line c.args.form.now.layout c.loop-rest.row_count (row_text_with c.args.form.now.with_text kind (row ++ part)) in
    let rest : List ℕ = row_lines c.args.form.now.with_text kind c.args.form.now.layout (c.loop-rest.row_count + 1) (rows_filled kind [] more) in
    puts_failed_in g.D.Drain.state _ _ (i.put.0 ++ line)
    _ _ _ (puts_then_as g.D.Drain.state _ _ _ i.put.0 line (i.put.0 ++ line) tt _ i.put.1
    c.in_err-put_full.ensures.puts refl)
    (search rules) (record {
      rest = rest;
      is =
          append_assoc i.put.0 line rest
          ∙ ap (λ (x : List ℕ). i.put.0 ++ x) (sym (ap (row_lines c.args.form.now.with_text kind c.args.form.now.layout c.loop-rest.row_count) t.0))
          ∙ i.put.2;
    })

pub loop-rest-init : goal.loop-rest-init
loop-rest-init g c =
    let p = open-parts c.args.form.now.kind c.args.row.now.items c.args.octets.now c.requires.is_open in
    record {
      is_open = c.requires.is_open;
      counted = omega arith;
      row = p.1;
      rows = ap (λ (rows : List (List ℕ)). c.args.row_count.now + length rows) p.0;
      put = ([], puts_nothing g.D.Drain.state _ tt, ap (row_lines c.args.form.now.with_text c.args.form.now.kind c.args.form.now.layout c.args.row_count.now) p.0);
    }

pub returns-clause-row : goal.returns-clause-row
returns-clause-row g c = grind (arith, common_steps)

pub returns-clause-row_count : goal.returns-clause-row_count
returns-clause-row_count g c = grind (arith, common_steps)

pub returns-clause-puts : goal.returns-clause-puts
returns-clause-puts g c = grind (arith, common_steps)

pub loop-rest-preserved-then-has_full_rows : goal.loop-rest-preserved-then-has_full_rows
loop-rest-preserved-then-has_full_rows g c =
    let kind = c.args.form.now.kind in
    let i = c.loop-rest.invariant in
    let more : List ℕ = c.as_chunks.result.1.now in
    let f = c.has_full_rows.ensures.0 c.if-has_full_rows.true in
    let none : c.loop-rest.row.items ≡ [] = nil_from_length _ (omega (arith, c.len-begun.ensures.value, f.0)) in
    let t =
    splits-full_rows kind (sym c.row_size-size.ensures ∙ f.1) c.args.form.now.with_text c.args.form.now.layout f.2 c.loop-rest.row_count
    c.loop-rest.rest.now
    c.as_chunks.result.0.now more c.as_chunks.ensures.front c.as_chunks.ensures.back in
    let put = rw none at i.put.2 in
    let rows = rw none at i.rows in
    let all : List ℕ = pair_row_lines c.args.form.now.with_text c.args.form.now.layout c.as_chunks.result.0.now in
    let rest : List ℕ =
    row_lines c.args.form.now.with_text kind c.args.form.now.layout (c.loop-rest.row_count + length c.as_chunks.result.0.now) (rows_filled kind [] more) in
    record {
      is_open = i.is_open;
      counted = omega (arith, i.counted, c.as_chunks.ensures.front_len, c.as_chunks.ensures.back_len);
      row = rw none (sym t.1 ∙ (rw none at i.row));
      rows = rw none (omega (arith, rows, t.2));
      put = (
        i.put.0 ++ all,
        puts_then_as g.D.Drain.state _ _ _ i.put.0 all (i.put.0 ++ all) tt _ i.put.1 c.in_ok-put_full_rows.ensures refl,
        rw none (append_assoc i.put.0 all rest ∙ ap (λ (x : List ℕ). i.put.0 ++ x) (sym t.0) ∙ put),
      );
    }

pub returns-in_err-put_full_rows-clause-puts : goal.returns-in_err-put_full_rows-clause-puts
returns-in_err-put_full_rows-clause-puts g c =
    let kind = c.args.form.now.kind in
    let i = c.loop-rest.invariant in
    let more : List ℕ = c.as_chunks.result.1.now in
    let f = c.has_full_rows.ensures.0 c.if-has_full_rows.true in
    let none : c.loop-rest.row.items ≡ [] = nil_from_length _ (omega (arith, c.len-begun.ensures.value, f.0)) in
    let t =
    splits-full_rows kind (sym c.row_size-size.ensures ∙ f.1) c.args.form.now.with_text c.args.form.now.layout f.2 c.loop-rest.row_count
    c.loop-rest.rest.now
    c.as_chunks.result.0.now more c.as_chunks.ensures.front c.as_chunks.ensures.back in
    let put = rw none at i.put.2 in
    let all : List ℕ = pair_row_lines c.args.form.now.with_text c.args.form.now.layout c.as_chunks.result.0.now in
    let rest : List ℕ =
    row_lines c.args.form.now.with_text kind c.args.form.now.layout (c.loop-rest.row_count + length c.as_chunks.result.0.now) (rows_filled kind [] more) in
    puts_failed_in g.D.Drain.state _ _ (i.put.0 ++ all)
    _ _ _ (puts_then_as g.D.Drain.state _ _ _ i.put.0 all (i.put.0 ++ all) tt _ i.put.1
    c.in_err-put_full_rows.ensures refl)
    (search rules) (record {
      rest = rest;
      is = append_assoc i.put.0 all rest ∙ ap (λ (x : List ℕ). i.put.0 ++ x) (sym t.0) ∙ put;
    })
