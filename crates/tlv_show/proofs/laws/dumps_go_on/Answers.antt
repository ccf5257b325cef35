use Rattle.tlv_show.proofs.DumpLemmas.LongerInputs.{dumps_on}
use Rattle.tlv_show.proofs.laws.dumps_go_on.Goals as goal

pub returns : goal.returns
returns c = dumps_on
