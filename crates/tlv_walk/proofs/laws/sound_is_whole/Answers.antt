use Rattle.tlv_walk.specs.Place.{top_place}
use Rattle.tlv_walk.proofs.GrammarLemmas.SoundElements.{grammar-sound, sound-obeys_grammar_top, sound-whole}
use Rattle.tlv_walk.proofs.laws.sound_is_whole.Goals as goal

pub returns : goal.returns
returns c = λ framing f. (
  (λ s. (sound-obeys_grammar_top framing f s, sound-whole (top_place framing) f s)),
  (λ r. grammar-sound (top_place framing) f r.0 r.1),
)
