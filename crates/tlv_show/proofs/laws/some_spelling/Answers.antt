use Rattle.tlv_show.proofs.FindingLemmas.SomeSpelling.{some-spelling}
use Rattle.tlv_show.proofs.laws.some_spelling.Goals as goal

pub returns : goal.returns
returns c = some-spelling
