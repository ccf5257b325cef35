use Rattle.tlv_show.proofs.FindingLemmas.BasicFindings.{listed_stay}
use Rattle.tlv_show.proofs.laws.listed_items_stay.Goals as goal

pub returns : goal.returns
returns c = listed_stay
