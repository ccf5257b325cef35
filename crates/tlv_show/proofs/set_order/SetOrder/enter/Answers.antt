use Rattle.std.proofs.Common.{sym, subst}
use Rattle.tlv_show.specs.declared.set_frame.SetFrame.{SetFrame}
use Rattle.std.specs.Prelude.{List}
use Rattle.tlv_show.specs.Private.SetOrder.{NeedNoOctets}
use Rattle.tlv_show.proofs.SetOrderLemmas.KeptFrames.{full_pushed}
use Rattle.tlv_show.proofs.set_order.SetOrder.enter.Goals as goal

pub invariant_of-self : goal.invariant_of-self
invariant_of-self g c =
    let s = c.self.inside in
    subst (λ (l : List SetFrame). NeedNoOctets s.full l) (sym c.push.ensures.items)
    (full_pushed s.full s.outer.items _ c.self.invariant)
