use Rattle.tlv_walk.proofs.GrammarLemmas.Readings.{spelling-unique}
use Rattle.tlv_walk.proofs.laws.spellings_are_exact.Goals as goal

pub returns : goal.returns
returns c = spelling-unique
