use Rattle.tlv_show.proofs.FindingLemmas.LongerHeaders.{identifiers-found}
use Rattle.tlv_show.proofs.laws.longer_identifiers_are_found.Goals as goal

pub returns : goal.returns
returns c = identifiers-found
