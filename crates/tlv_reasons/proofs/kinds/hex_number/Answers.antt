use Rattle.std.proofs.Common.{arith}
use Rattle.tlv_reasons.proofs.DigitLemmas.{digit-small, few-digits}
use Rattle.tlv_reasons.proofs.kinds.hex_number.Goals as goal

pub overflow_mul-number : goal.overflow_mul-number
overflow_mul-number c =
    omega (arith, few-digits c.loop-octet.octet-index c.loop-octet.number (omega arith) c.loop-octet.invariant.small)

pub returns-clause-small : goal.returns-clause-small
returns-clause-small c =
    omega (arith, few-digits c.loop-octet.octet-index c.loop-octet.number (omega arith) c.loop-octet.invariant.small)

pub overflow_add-number : goal.overflow_add-number
overflow_add-number c =
    let digit = digit-small c.digit_of.result c.digit_of.ensures.small in
    omega (
      arith,
      few-digits c.loop-octet.octet-index c.loop-octet.number (omega arith) c.loop-octet.invariant.small,
      digit,
      c.unwrap_or.ensures,
      c.from.ensures,
    )
