use Rattle.std.proofs.Common.{◌∙◌, ⊎_elim, sym}
use Rattle.std.proofs.lemmas.Bool.{cases_Bool}
use Rattle.tlv_text.specs.Taken.{AreTakenAsEncodings}
use Rattle.tlv_text.proofs.encodings.are_taken_as_encodings.Goals as goal

pub returns-then-begins_as_sequence : goal.returns-then-begins_as_sequence
returns-then-begins_as_sequence c =
    rw c.if-begins_as_sequence.true
    (AreTakenAsEncodings.begins (sym c.begins_as_sequence.ensures ∙ c.if-begins_as_sequence.true))

pub returns-else-begins_as_sequence : goal.returns-else-begins_as_sequence
returns-else-begins_as_sequence c =
    ⊎_elim
    (λ t. rw t (AreTakenAsEncodings.sound (c.are_sound.ensures.0 t)))
    (λ f.
    rw f
    (AreTakenAsEncodings.neither (λ sound. absurd (cc (c.are_sound.ensures.1 sound, f)))
    (sym c.begins_as_sequence.ensures ∙ c.if-begins_as_sequence.false)))
    (cases_Bool c.are_sound.result)
