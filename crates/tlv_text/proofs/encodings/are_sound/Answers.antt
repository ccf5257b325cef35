use Rattle.std.proofs.Common.{◌≡◌, false, true, refl}
use Rattle.tlv_walk.proofs.GrammarLemmas.OneEnding.{shows-soundness}
use Rattle.tlv_text.proofs.encodings.are_sound.Goals as goal

pub returns-in-Done : goal.returns-in-Done
returns-in-Done c =
    let shows = shows-soundness _ _ _ c.ending_of.ensures in
    (λ (t : true ≡ true). shows.done_is_sound.0 c.in-Done.is, λ _. refl)

pub returns-in-Fault : goal.returns-in-Fault
returns-in-Fault c =
    let shows = shows-soundness _ _ _ c.ending_of.ensures in (
      λ (t : false ≡ true). absurd (cc),
      λ sound. absurd (cc (shows.done_is_sound.1 sound, c.in-Fault.is)),
    )
