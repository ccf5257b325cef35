use Rattle.tlv_head.proofs.ReaderLemmas.OneResult.{one-result}
use Rattle.tlv_head.proofs.laws.pushes_return_one_head.Goals as goal

pub returns : goal.returns
returns c = one-result
