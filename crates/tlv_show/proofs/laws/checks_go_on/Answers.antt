use Rattle.tlv_show.proofs.DumpLemmas.LongerInputs.{checks_on}
use Rattle.tlv_show.proofs.laws.checks_go_on.Goals as goal

pub returns : goal.returns
returns c = checks_on
