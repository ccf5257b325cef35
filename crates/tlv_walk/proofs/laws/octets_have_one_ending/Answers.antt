use Rattle.tlv_walk.proofs.GrammarLemmas.Endings.{ending, is-ending}
use Rattle.tlv_walk.proofs.GrammarLemmas.OneEnding.{ending-unique}
use Rattle.tlv_walk.proofs.laws.octets_have_one_ending.Goals as goal

pub returns : goal.returns
returns c = λ framing b octets.
    let e = is-ending framing b octets in
    (ending framing b, e, λ d s. ending-unique framing b d (ending framing b) s e)
