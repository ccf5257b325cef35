use Rattle.std.proofs.Common.{◌+◌, ℕ, List, length, sym, ◌∙◌, ap, arith, length-drop}
use Rattle.std.specs.List.{list_all}
use Rattle.tlv_value.specs.Names.{dotted_parts, is_arc}
use Rattle.tlv_value.proofs.NamesLemmas.Texts.{first_no_arc, whole_arc, rest_arcs}
use Rattle.tlv_value.proofs.names.arcs.are_arcs.Goals as goal

pub returns-then-not-is_arc : goal.returns-then-not-is_arc
returns-then-not-is_arc c =
    sym (c.loop-rest.invariant.same
    ∙ first_no_arc c.loop-rest.rest.now c.end_before-end.result c.end_before-end.ensures.value
    (sym c.is_arc.ensures ∙ c.if-not-is_arc.true))

pub returns-then-end-rest : goal.returns-then-end-rest
returns-then-end-rest c =
    sym (c.loop-rest.invariant.same
    ∙ whole_arc c.loop-rest.rest.now c.end_before-end.result c.end_before-end.ensures.value c.if-end-rest.true
    (sym c.is_arc.ensures ∙ c.if-not-is_arc.false))

pub loop-rest-preserved : goal.loop-rest-preserved
loop-rest-preserved c = record {
  within =
      omega
      (arith, ap length c.rest_after-rest.ensures, length-drop (c.end_before-end.result + 1) c.loop-rest.rest.now);
  same = c.loop-rest.invariant.same
      ∙ rest_arcs c.loop-rest.rest.now c.end_before-end.result c.end_before-end.ensures.value (omega arith)
      (sym c.is_arc.ensures ∙ c.if-not-is_arc.false)
      ∙ ap (λ (xs : List ℕ). list_all is_arc (dotted_parts xs)) (sym c.rest_after-rest.ensures);
}
