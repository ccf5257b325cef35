use Rattle.std.proofs.Common.{IsTrue, false, refl, subst}
use Rattle.tlv_walk.proofs.GrammarLemmas.Endings.{done-sound, sound-done}
use Rattle.tlv_walk.proofs.GrammarLemmas.OneEnding.{ending-unique}
use Rattle.tlv_walk.specs.Ending.{IsEnding}
use Rattle.tlv_reasons.proofs.sound.is_sound_list.Goals as goal

pub returns-in-Done : goal.returns-in-Done
returns-in-Done c = (
  (λ _. done-sound c.args.framing.now c.args.octets.now
      (subst (λ e. IsEnding c.args.framing.now c.args.octets.now e) c.in-Done.is c.ending_in.ensures)),
  (λ _. refl),
)

pub returns-in_default : goal.returns-in_default
returns-in_default c = (
  (λ (t : IsTrue false). absurd (cc)),
  (λ s. absurd (c.in_default.not-Done
      (ending-unique c.args.framing.now c.args.octets.now _ _ c.ending_in.ensures
      (sound-done c.args.framing.now c.args.octets.now s)))),
)
