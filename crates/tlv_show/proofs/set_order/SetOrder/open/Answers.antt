use Rattle.std.proofs.Common.{ap, ap₂, sym, ◌∙◌}
use Rattle.tlv_head.specs.Header.{octets_of}
use Rattle.tlv_walk.specs.Forest.{lead}
use Rattle.tlv_show.specs.SetOrderState.{SetOrderState, set_order_entered, set_order_octets_step, set_order_started}
use Rattle.tlv_show.proofs.SetOrderLemmas.OneElement.{octets_step-append}
use Rattle.tlv_show.proofs.set_order.SetOrder.open.Goals as goal

pub returns : goal.returns
returns g c =
    let h = c.args.header.now in
    let s : SetOrderState = set_order_started c.args.rules c.args.self.now h in
    c.enter.ensures
    ∙ ap (λ (t : SetOrderState). set_order_entered t h)
    (c.octets.ensures ∙ ap₂ set_order_octets_step c.begin.ensures c.lead_of.ensures
    ∙ sym (octets_step-append s (octets_of h) (lead h)))
