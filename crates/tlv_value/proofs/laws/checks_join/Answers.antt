use Rattle.tlv_value.proofs.CheckLemmas.CheckPieces.{checks-join}
use Rattle.tlv_value.proofs.laws.checks_join.Goals as goal

pub returns : goal.returns
returns c = checks-join
