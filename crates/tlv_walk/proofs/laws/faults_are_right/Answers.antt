use Rattle.tlv_walk.proofs.GrammarLemmas.Endings.{no-false-alarm}
use Rattle.tlv_walk.proofs.laws.faults_are_right.Goals as goal

pub returns : goal.returns
returns c = λ framing b code offset final ends more. no-false-alarm framing b more code offset final.0 final.1 ends
