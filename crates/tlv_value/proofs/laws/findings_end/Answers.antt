use Rattle.tlv_value.proofs.CheckLemmas.CheckPieces.{findings-end}
use Rattle.tlv_value.proofs.laws.findings_end.Goals as goal

pub returns : goal.returns
returns c = findings-end
