use Rattle.std.proofs.Common.{arith, length-drop, sym, ◌∙◌}
use Rattle.tlv_reasons.proofs.LengthLemmas.{begins-there}
use Rattle.tlv_reasons.proofs.OutermostLemmas.{element-behind, element-on, further, headless, open-agrees}
use Rattle.tlv_reasons.proofs.OutermostLemmas.{padded-on}
use Rattle.tlv_reasons.proofs.outermost.behind.Goals as goal

pub returns-then-is_padded_at : goal.returns-then-is_padded_at
returns-then-is_padded_at c = (
  omega arith,
  padded-on c.args.padding c.args.octets.now c.args.offset (omega arith)
      (sym c.is_padded_at.ensures ∙ c.if-is_padded_at.true),
)

pub returns-in_default : goal.returns-in_default
returns-in_default c =
    headless c.args.padding c.args.octets.now c.args.offset (omega arith)
    (sym c.is_padded_at.ensures ∙ c.if-is_padded_at.false) c.in_default.ensures

pub returns-in_default-size : goal.returns-in_default-size
returns-in_default-size c =
    open-agrees c.args.padding c.args.octets.now c.args.offset (omega arith) c.in-Some.count c.in-Some.fields
    (begins-there c.args.octets.now c.args.offset c.in-Some.count c.in-Some.fields c.in-Some.ensures)
    (sym c.is_padded_at.ensures ∙ c.if-is_padded_at.false) c.in_default-size.is

pub returns-then-size-octets : goal.returns-then-size-octets
returns-then-size-octets c =
    let b = begins-there c.args.octets.now c.args.offset c.in-Some.count c.in-Some.fields c.in-Some.ensures in
    element-behind c.args.padding c.args.octets.now c.args.offset (omega arith) c.in-Some.count c.in-Some.fields b
    (sym c.is_padded_at.ensures ∙ c.if-is_padded_at.false) c.in-Definite.size c.in-Definite.is
    (omega (arith, b.within, length-drop c.args.offset c.args.octets.now))

pub returns : goal.returns
returns c =
    let b = begins-there c.args.octets.now c.args.offset c.in-Some.count c.in-Some.fields c.in-Some.ensures in (
      further c.args.padding c.args.octets.now c.args.offset (omega arith) c.in-Some.count c.in-Some.fields b
          (sym c.is_padded_at.ensures ∙ c.if-is_padded_at.false) c.in-Definite.size,
      element-on c.args.padding c.args.octets.now c.args.offset (omega arith) c.in-Some.count c.in-Some.fields b
          (sym c.is_padded_at.ensures ∙ c.if-is_padded_at.false) c.in-Definite.size c.in-Definite.is,
    )
