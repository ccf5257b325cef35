use Rattle.std.proofs.Common.{◌<◌, List, length, get_or, ap, subst, sym, ◌∙◌, arith}
use Rattle.tlv_show.specs.declared.set_frame.SetFrame.{SetFrame}
use Rattle.tlv_show.specs.Private.SetOrder.{NeedNoOctets}
use Rattle.tlv_show.proofs.SetOrderLemmas.KeptFrames.{after_all_full, after_from_full, full_after, full-fewer, full_next}
use Rattle.tlv_show.proofs.SetOrderLemmas.KeptFrames.{length-after}
use Rattle.tlv_show.specs.SetOrderState.{has_all_compared}
use Rattle.tlv_show.proofs.set_order.add_octets_outside.Goals as goal

pub returns-then-full-len-clause-frames : goal.returns-then-full-len-clause-frames
returns-then-full-len-clause-frames g c =
    let outer = c.args.outer.now.items in
    sym
    (after_all_full c.args.octets.now outer
    (full-fewer c.args.full _ outer (omega (arith, c.len.ensures.value, c.if-full-len.true)) c.requires))

pub returns-then-has_all_compared-clause-frames : goal.returns-then-has_all_compared-clause-frames
returns-then-has_all_compared-clause-frames g c =
    c.add_octets_from.ensures ∙ after_from_full c.args.full c.args.octets.now c.args.outer.now.items c.requires

pub returns-then-has_all_compared-clause-full : goal.returns-then-has_all_compared-clause-full
returns-then-has_all_compared-clause-full g c =
    let outer = c.add_octets_from.new.outer.items in
    let few : c.args.full < length outer =
    omega (
      arith,
      c.len.ensures.value,
      c.if-full-len.false,
      ap length c.add_octets_from.ensures,
      length-after c.args.full c.args.octets.now c.args.outer.now.items,
    ) in
    let rest : NeedNoOctets c.args.full outer =
    subst (λ (l : List SetFrame). NeedNoOctets c.args.full l) (sym c.add_octets_from.ensures)
    (full_after c.args.full c.args.octets.now c.args.outer.now.items c.requires) in
    let one_more = ap (λ (l : List SetFrame). has_all_compared (get_or l c.args.full _)) c.deref.ensures.0 in
    full_next c.args.full outer _ rest few (sym one_more ∙ sym c.if-has_all_compared.ensures)

pub returns-else-has_all_compared-clause-frames : goal.returns-else-has_all_compared-clause-frames
returns-else-has_all_compared-clause-frames g c =
    c.add_octets_from.ensures ∙ after_from_full c.args.full c.args.octets.now c.args.outer.now.items c.requires

pub returns-else-has_all_compared-clause-full : goal.returns-else-has_all_compared-clause-full
returns-else-has_all_compared-clause-full g c =
    subst (λ (l : List SetFrame). NeedNoOctets c.args.full l) (sym c.add_octets_from.ensures)
    (full_after c.args.full c.args.octets.now c.args.outer.now.items c.requires)
