use Rattle.std.proofs.Common.{◌≡◌, true, false, refl, sym, ◌∙◌}
use Rattle.tlv_reasons.proofs.LengthLemmas.{begins-there}
use Rattle.tlv_reasons.proofs.OctetLemmas.{missing-there, neither-there, no_header-there, past-there, put_in-there}
use Rattle.tlv_reasons.proofs.octet_changes.change_at.Goals as goal

pub returns-then-offset-octets : goal.returns-then-offset-octets
returns-then-offset-octets c =
    past-there c.args.framing.now c.args.octets.now c.args.offset c.if-offset-octets.true

pub returns-in_default : goal.returns-in_default
returns-in_default c = no_header-there c.args.framing.now c.args.octets.now c.args.offset c.in_default.ensures

pub returns-then-branch : goal.returns-then-branch
returns-then-branch c =
    missing-there c.args.framing.now c.args.octets.now c.args.offset c.in-Some.count _ _ c.in-Some.fields
    (begins-there c.args.octets.now c.args.offset c.in-Some.count c.in-Some.fields c.in-Some.ensures) refl
    c.announced_length-announced.ensures
    (c.in_ok-is_sound_with_octet.ensures.0 c.if-branch.true)

pub returns-then-branch-2 : goal.returns-then-branch-2
returns-then-branch-2 c =
    put_in-there c.args.framing.now c.args.octets.now c.args.offset c.in-Some.count _ _ c.in-Some.fields
    (begins-there c.args.octets.now c.args.offset c.in-Some.count c.in-Some.fields c.in-Some.ensures) refl
    c.announced_length-announced.ensures
    (λ s. let e : true ≡ false = sym (c.in_ok-is_sound_with_octet.ensures.1 s) ∙ c.if-branch.false in cc)
    (c.in_ok-is_sound_without_octet.ensures.0 c.if-branch-2.true)

pub returns : goal.returns
returns c =
    neither-there c.args.framing.now c.args.octets.now c.args.offset c.in-Some.count _ _ c.in-Some.fields
    (begins-there c.args.octets.now c.args.offset c.in-Some.count c.in-Some.fields c.in-Some.ensures) refl
    c.announced_length-announced.ensures
    (λ s. let e : true ≡ false = sym (c.in_ok-is_sound_with_octet.ensures.1 s) ∙ c.if-branch.false in cc)
    (λ s. let e : true ≡ false = sym (c.in_ok-is_sound_without_octet.ensures.1 s) ∙ c.if-branch-2.false in cc)
