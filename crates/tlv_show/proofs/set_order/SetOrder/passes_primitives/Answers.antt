use Rattle.std.proofs.Common.{◌≡◌, ℕ, true, false, length, subst, arith, sym, ◌∙◌}
use Rattle.std.proofs.lemmas.Bool.{eqb-true}
use Rattle.std.proofs.lemmas.Bool.Decides.{nat_tests}
use Rattle.tlv_show.specs.Private.SetOrder.{NeedNoOctets, IsUnchangedByPrimitives}
use Rattle.tlv_show.specs.SetOrderState.{is_direct, has_all_compared}
use Rattle.tlv_show.proofs.SetOrderLemmas.Passing.{primitives-pass}
use Rattle.tlv_show.proofs.set_order.SetOrder.passes_primitives.Goals as goal

pub returns : goal.returns
returns g c = λ e.
    let s = c.self.inside in
    let direct : is_direct s.frame ≡ false = grind (arith, nat_tests, c.if-self-eq0.false) in
    let full : has_all_compared s.frame ≡ true = sym c.if-not-has_all_compared.ensures in
    let count : s.full ≡ length s.outer.items = eqb-true s.full c.len.result e ∙ c.len.ensures.value in
    subst IsUnchangedByPrimitives c.self.view_is
    (primitives-pass s.frame s.outer.items direct full
    (subst (λ (n : ℕ). NeedNoOctets n s.outer.items) count c.self.invariant))
