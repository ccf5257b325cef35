use Rattle.tlv_value.proofs.CheckLemmas.ListedRows.{listed-stay}
use Rattle.tlv_value.proofs.laws.listed_findings_stay.Goals as goal

pub returns : goal.returns
returns c = listed-stay
