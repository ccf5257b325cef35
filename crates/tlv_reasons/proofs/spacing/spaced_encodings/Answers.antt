use Rattle.tlv_reasons.specs.Spacing.{padded, spaced}
use Rattle.tlv_reasons.proofs.MoveLemmas.{denied}
use Rattle.tlv_reasons.proofs.spacing.spaced_encodings.Goals as goal

pub returns-then-is_sound : goal.returns-then-is_sound
returns-then-is_sound c = padded (c.is_sound.ensures.0 c.if-is_sound.true)

pub returns : goal.returns
returns c = spaced (denied _ c.is_sound.ensures c.if-is_sound.false) c.first_spacing.ensures
