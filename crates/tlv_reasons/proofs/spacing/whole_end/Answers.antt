use Rattle.std.proofs.Common.{◌≡◌, ◌∙◌, false, sym, true}
use Rattle.tlv_reasons.proofs.SpacingLemmas.{stated-one}
use Rattle.tlv_reasons.proofs.spacing.whole_end.Goals as goal

pub returns-in_default-clause-end : goal.returns-in_default-clause-end
returns-in_default-clause-end c = λ e w. c.in_default.ensures.end e w.stated

pub returns-else-is_sound-clause-end : goal.returns-else-is_sound-clause-end
returns-else-is_sound-clause-end c = λ e w.
    let same : e ≡ c.in-Some.end =
    stated-one c.args.octets.now c.args.offset e c.in-Some.end w.stated c.in-Some.ensures.end in
    let t : true ≡ false = sym (c.is_sound.ensures.1 (rw same at w.sound)) ∙ c.if-is_sound.false in
    cc
