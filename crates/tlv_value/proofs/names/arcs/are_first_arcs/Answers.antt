use Rattle.std.proofs.Common.{◌==◌, ℕ, List, take, sym, ◌∙◌, ap, arith}
use Rattle.std.specs.List.{list_all, position_or_len}
use Rattle.tlv_value.specs.Names.{dotted_parts, is_arc, may_begin}
use Rattle.tlv_value.proofs.NamesLemmas.Texts.{one_part_alone, first_arc, rest_arcs, two_parts}
use Rattle.tlv_value.proofs.names.arcs.are_first_arcs.Goals as goal

pub returns-then-end-text : goal.returns-then-end-text
returns-then-end-text c =
    sym (one_part_alone c.args.text.now c.end_before-end.result c.end_before-end.ensures.value c.if-end-text.true)

pub may_begin-requires-clause-first : goal.may_begin-requires-clause-first
may_begin-requires-clause-first c =
    first_arc c.args.text.now c.end_before-end.result c.end_before-end.ensures.value c.requires

pub may_begin-requires-clause-second : goal.may_begin-requires-clause-second
may_begin-requires-clause-second c =
    let first = first_arc c.args.text.now c.end_before-end.result c.end_before-end.ensures.value c.requires in
    let all = rest_arcs c.args.text.now c.end_before-end.result c.end_before-end.ensures.value (omega arith) first in
    first_arc c.rest_after-rest.result.now c.end_before.result c.end_before.ensures.value
    (ap (λ (xs : List ℕ). list_all is_arc (dotted_parts xs)) c.rest_after-rest.ensures ∙ sym all ∙ c.requires)

pub returns : goal.returns
returns c =
    c.may_begin.ensures
    ∙ ap (λ (xs : List ℕ). may_begin (take c.end_before-end.result c.args.text.now) (take c.end_before.result xs))
    c.rest_after-rest.ensures
    ∙ two_parts c.args.text.now c.end_before-end.result c.end_before.result c.end_before-end.ensures.value
    (omega arith)
    (c.end_before.ensures.value ∙ ap (λ (xs : List ℕ). position_or_len (λ x. x == 46) xs) c.rest_after-rest.ensures)
