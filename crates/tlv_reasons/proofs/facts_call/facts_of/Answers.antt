use Rattle.std.proofs.Common.{◌≡◌, ap, subst}
use Rattle.tlv_walk.specs.declared.framing.Framing.{Framing}
use Rattle.tlv_walk.specs.WalkerState.{WalkerState}
use Rattle.tlv_walk.proofs.WalkerLemmas.HasRead.{has_ending}
use Rattle.tlv_reasons.specs.Facts.{AreFacts}
use Rattle.tlv_reasons.proofs.TrackLemmas.MadeFacts.{facts-made}
use Rattle.tlv_reasons.proofs.facts_call.facts_of.Goals as goal

pub returns : goal.returns
returns c =
    let k = c.track_over.ensures in
    let framed : c.new-walker.result.framing ≡ c.args.framing.now =
    ap (λ (w : WalkerState). w.framing) c.new-walker.ensures.state in
    subst (λ (f : Framing). AreFacts f c.args.octets.now c.facts_at_end.result) framed
    (facts-made _ _ _ _ _ _ k
    (rw k.framing_is at
    (has_ending _ c.args.octets.now k.yielded _ c.finish.ensures.ending c.finish.ensures.refused k.at_end).is_ending)
    c.facts_at_end.ensures)
