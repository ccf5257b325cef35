use Rattle.std.proofs.Common.{◌∙◌, ℕ, List, length, sym, ap, drop, arith}
use Rattle.std.proofs.lemmas.List.{drop_all}
use Rattle.tlv_text.specs.Numbers.{list_at}
use Rattle.tlv_text.proofs.NumberLemmas.{list-found, list-not_there, no-list, some-mapped}
use Rattle.tlv_text.proofs.Slices.{from-on}
use Rattle.tlv_text.proofs.numbers.first_list.Goals as goal

pub returns-then-is_some-clause-list : goal.returns-then-is_some-clause-list
returns-then-is_some-clause-list c =
    (list-found c.loop-place.text.now c.in-Some.place _ c.in-Some.ensures c.in_ok-list.ensures
    (some-mapped _ c.in_ok-list.list ∙ sym c.is_some.ensures ∙ c.if-is_some.true)).0
    ∙ ap list_at (sym c.loop-place.invariant.same)

pub returns-then-is_some-clause-rest : goal.returns-then-is_some-clause-rest
returns-then-is_some-clause-rest c =
    (list-found c.loop-place.text.now c.in-Some.place _ c.in-Some.ensures c.in_ok-list.ensures
    (some-mapped _ c.in_ok-list.list ∙ sym c.is_some.ensures ∙ c.if-is_some.true)).1
    ∙ ap (drop 1) (sym c.loop-place.invariant.same)

pub loop-place-preserved : goal.loop-place-preserved
loop-place-preserved c = record {
  same = c.loop-place.invariant.same
      ∙ list-not_there c.loop-place.text.now c.in-Some.place _ c.in-Some.ensures c.in_ok-list.ensures
      (some-mapped _ c.in_ok-list.list ∙ sym c.is_some.ensures ∙ c.if-is_some.false);
  short = omega arith;
}

pub returns-clause-list : goal.returns-clause-list
returns-clause-list c =
    ap list_at (sym (c.loop-place.invariant.same ∙ no-list c.loop-place.text.now c.in_default.ensures))

pub returns-clause-rest : goal.returns-clause-rest
returns-clause-rest c =
    let text : List ℕ = c.loop-place.text.now in
    from-on (length text) text
    ∙ drop_all (length text) text (omega arith)
    ∙ ap (drop 1) (sym (c.loop-place.invariant.same ∙ no-list text c.in_default.ensures))
