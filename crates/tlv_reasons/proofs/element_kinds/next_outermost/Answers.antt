use Rattle.std.proofs.Common.{arith, length-drop, refl, sym, ◌∙◌}
use Rattle.tlv_reasons.proofs.LengthLemmas.{begins-there}
use Rattle.tlv_reasons.proofs.KindLemmas.{element-next, far-next, nothing-next, open-next, padding-next}
use Rattle.tlv_reasons.proofs.element_kinds.next_outermost.Goals as goal

pub returns-then-is_padded_at : goal.returns-then-is_padded_at
returns-then-is_padded_at c =
    padding-next c.args.padding c.args.octets.now c.args.offset c.requires.within
    (sym c.is_padded_at.ensures ∙ c.if-is_padded_at.true)

pub returns-in_default : goal.returns-in_default
returns-in_default c =
    nothing-next c.args.padding c.args.octets.now c.args.offset c.requires.within
    (sym c.is_padded_at.ensures ∙ c.if-is_padded_at.false) c.in_default.ensures

pub returns-in_default-size : goal.returns-in_default-size
returns-in_default-size c =
    open-next c.args.padding c.args.octets.now c.args.offset c.requires.within c.in-Some.count c.in-Some.fields
    (begins-there c.args.octets.now c.args.offset c.in-Some.count c.in-Some.fields c.in-Some.ensures)
    (sym c.is_padded_at.ensures ∙ c.if-is_padded_at.false) c.in_default-size.is

pub returns-then-size-octets : goal.returns-then-size-octets
returns-then-size-octets c =
    let b = begins-there c.args.octets.now c.args.offset c.in-Some.count c.in-Some.fields
    c.in-Some.ensures in
    far-next c.args.padding c.args.octets.now c.args.offset c.requires.within c.in-Some.count c.in-Some.fields b
    (sym c.is_padded_at.ensures ∙ c.if-is_padded_at.false) c.in-Definite.size c.in-Definite.is
    (omega (arith, b.within, length-drop c.args.offset c.args.octets.now))

pub returns : goal.returns
returns c =
    let b = begins-there c.args.octets.now c.args.offset c.in-Some.count c.in-Some.fields
    c.in-Some.ensures in
    element-next c.args.padding c.args.octets.now c.args.offset c.requires.within c.in-Some.count
    c.in-Some.fields b (sym c.is_padded_at.ensures ∙ c.if-is_padded_at.false) c.in-Definite.size c.in-Definite.is
    (omega (arith, b.within, length-drop c.args.offset c.args.octets.now)) _ refl
