use Rattle.std.proofs.Common.{◌≡◌, ℕ, List, ◌+◌, take, drop, length, length-drop, sym, ◌∙◌, ap, subst, arith}
use Rattle.std.proofs.lemmas.Bool.{eqb-true, eqb-false}
use Rattle.std.proofs.lemmas.Grind.{common_steps}
use Rattle.std.proofs.lemmas.Result.{err_from_is_err_and}
use Rattle.tlv_value.specs.Names.{names_line}
use Rattle.tlv_value.specs.NamesFields.{texts_in}
use Rattle.tlv_value.proofs.NamesLemmas.LinesSoFar.{LinesSoFar, lines-start, line-taken, line-refused_table, lines-all}
use Rattle.tlv_value.proofs.NamesLemmas.LinesSoFar.{next_line}
use Rattle.tlv_value.proofs.names.table.names_of.Goals as goal

pub loop-rest-init : goal.loop-rest-init
loop-rest-init g c = record {
  within = omega arith;
  standing = lines-start c.args.octets.now c.new-table.result c.new-table.ensures.empty;
}

pub loop-rest-preserved : goal.loop-rest-preserved
loop-rest-preserved g c =
    let some : length c.loop-rest.rest.now ≡ 0
    → ⊥ = eqb-false (length c.loop-rest.rest.now) 0 (sym c.is_empty.ensures ∙ c.loop-rest-test.true) in
    let line = next_line c.loop-rest.rest.now c.end_before-end.result (omega arith) c.end_before-end.ensures.value in
    record {
      within =
          omega (
            arith,
            ap length c.rest_after-rest.ensures,
            length-drop (c.end_before-end.result + 1) c.loop-rest.rest.now,
          );
      standing =
          subst
          (λ (xs : List ℕ). LinesSoFar c.args.octets.now xs (c.loop-rest.number + 1) (texts_in c.add_line.new.table))
          (sym c.rest_after-rest.ensures)
          (line-taken c.args.octets.now c.loop-rest.rest.now (drop (c.end_before-end.result + 1) c.loop-rest.rest.now)
          c.loop-rest.number (texts_in c.loop-rest.table)
          (texts_in c.add_line.new.table) c.in_ok-add_line.field-0
          (names_line (take c.end_before-end.result c.loop-rest.rest.now)) c.loop-rest.invariant.standing line
          c.in_ok-add_line.ensures);
    }

pub returns-in_err-add_line : goal.returns-in_err-add_line
returns-in_err-add_line g c =
    let some : length c.loop-rest.rest.now ≡ 0
    → ⊥ = eqb-false (length c.loop-rest.rest.now) 0 (sym c.is_empty.ensures ∙ c.loop-rest-test.true) in
    let line = next_line c.loop-rest.rest.now c.end_before-end.result (omega arith) c.end_before-end.ensures.value in
    let p = err_from_is_err_and c.from_residual.result c.from_residual.ensures.1 in
    rw (p.1, p.2)
    (line-refused_table (Unit {0}) c.args.octets.now c.loop-rest.rest.now
    (drop (c.end_before-end.result + 1) c.loop-rest.rest.now) c.loop-rest.number
    c.loop-rest.table c.add_line.new.table c.in_err-add_line.field-0.0
    (names_line (take c.end_before-end.result c.loop-rest.rest.now))
    c.loop-rest.invariant.standing line c.in_err-add_line.ensures)

pub returns : goal.returns
returns g c =
    lines-all c.args.octets.now c.loop-rest.rest.now c.loop-rest.number (texts_in c.loop-rest.table)
    c.loop-rest.invariant.standing
    (eqb-true (length c.loop-rest.rest.now) 0 (sym c.is_empty.ensures ∙ c.loop-rest-test.false))

pub loop-rest-smaller : goal.loop-rest-smaller
loop-rest-smaller g c = grind (arith, common_steps)
