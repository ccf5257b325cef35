use Rattle.tlv_head.proofs.GrammarLemmas.RefusedOctets.{refused-with_none}
use Rattle.tlv_head.proofs.laws.refused_inputs_begin_with_none.Goals as goal

pub returns : goal.returns
returns c = refused-with_none
