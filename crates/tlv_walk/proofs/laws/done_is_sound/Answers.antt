use Rattle.tlv_walk.proofs.GrammarLemmas.Endings.{done-sound, sound-done}
use Rattle.tlv_walk.proofs.laws.done_is_sound.Goals as goal

pub returns : goal.returns
returns c = λ framing b. (done-sound framing b, sound-done framing b)
