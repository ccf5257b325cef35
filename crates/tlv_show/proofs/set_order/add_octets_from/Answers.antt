use Rattle.std.proofs.Common.{sym, ◌∙◌, arith}
use Rattle.tlv_show.proofs.SetOrderLemmas.KeptFrames.{after-past_end}
use Rattle.tlv_show.proofs.set_order.add_octets_from.Goals as goal

pub returns : goal.returns
returns g c =
    let l = c.loop-i in
    sym
    (after-past_end l.i c.args.octets.now l.outer.items
    (omega (arith, c.loop-i-test.false, c.len-i-end.ensures.value, l.invariant.same_length)))
    ∙ l.invariant.rest
