use Rattle.std.proofs.Common.{List, ℕ, min, ap, subst, sym, ◌∙◌}
use Rattle.tlv_show.specs.declared.set_frame.SetFrame.{SetFrame}
use Rattle.tlv_show.specs.Private.SetOrder.{NeedNoOctets}
use Rattle.tlv_show.proofs.SetOrderLemmas.KeptFrames.{full_taken}
use Rattle.tlv_show.proofs.set_order.SetOrder.leave.Goals as goal

pub invariant_of-self : goal.invariant_of-self
invariant_of-self g c =
    let s = c.self.inside in
    let rest : List SetFrame = c.pop.new.self.items in
    subst (λ (n : ℕ). NeedNoOctets n rest) (sym (c.min-self-inside.ensures ∙ ap (min s.full) c.len.ensures.value))
    (full_taken s.full rest c.in-Some.frame
    (subst (λ (l : List SetFrame). NeedNoOctets s.full l) c.in-Some.ensures.items c.self.invariant))
