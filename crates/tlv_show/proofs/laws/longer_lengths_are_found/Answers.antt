use Rattle.tlv_show.proofs.FindingLemmas.LongerHeaders.{lengths-found}
use Rattle.tlv_show.proofs.laws.longer_lengths_are_found.Goals as goal

pub returns : goal.returns
returns c = lengths-found
