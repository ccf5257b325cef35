use Rattle.tlv_walk.proofs.GrammarLemmas.Readings.{is-reading, reading, reading-unique}
use Rattle.tlv_walk.proofs.laws.octets_have_one_reading.Goals as goal

pub returns : goal.returns
returns c = λ framing b octets.
    let r = is-reading framing b octets in
    (reading framing b, r, λ g s. reading-unique framing b g (reading framing b) s r)
