use Rattle.tlv_show.proofs.FindingLemmas.BasicFindings.{basic_stay}
use Rattle.tlv_show.proofs.laws.basic_findings_stay.Goals as goal

pub returns : goal.returns
returns c = basic_stay
