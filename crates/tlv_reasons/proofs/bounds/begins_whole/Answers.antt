use Rattle.tlv_reasons.proofs.MendedLemmas.{begins-by}
use Rattle.tlv_reasons.proofs.bounds.begins_whole.Goals as goal

pub returns : goal.returns
returns c = begins-by c.args.framing.now c.args.octets.now c.facts_of.result c.facts_of.ensures
