use Rattle.tlv_walk.proofs.GrammarLemmas.OneEnding.{refused-for-good}
use Rattle.tlv_walk.proofs.laws.faults_are_final.Goals as goal

pub returns : goal.returns
returns c = λ framing b more code offset f final ends reads.
    let both = refused-for-good framing b more code offset f final.0 final.1 ends reads in
    (both.1, both.0)
