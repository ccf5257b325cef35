use Rattle.tlv_head.proofs.GrammarLemmas.RefusedOctets.{refused-none}
use Rattle.tlv_head.proofs.laws.refusals_are_final.Goals as goal

pub returns : goal.returns
returns c = refused-none
