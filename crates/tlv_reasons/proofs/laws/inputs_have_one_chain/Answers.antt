use Rattle.tlv_reasons.proofs.ChainLemmas.{chain-one}
use Rattle.tlv_reasons.proofs.laws.inputs_have_one_chain.Goals as goal

pub returns : goal.returns
returns c = chain-one
