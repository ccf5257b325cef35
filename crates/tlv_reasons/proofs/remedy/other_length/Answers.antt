use Rattle.tlv_reasons.specs.Remedies.{about}
use Rattle.tlv_reasons.proofs.remedy.other_length.Goals as goal

pub returns : goal.returns
returns c = rw (c.length_sentence.ensures, c.as_slice.ensures.value, c.window_end.ensures) (about c.in_ok-wrong.ensures)
