use Rattle.std.proofs.Common.{arith}
use Rattle.tlv_text.proofs.DumpLemmas.{digit-more, offset-small}
use Rattle.tlv_text.proofs.dump.lines.read_offset.Goals as goal

pub overflow_mul-number : goal.overflow_mul-number
overflow_mul-number c =
    let small = offset-small c.loop-rest.number c.loop-rest.count c.loop-rest.invariant.small c.if-count-ge16.false in
    let more = digit-more c.loop-rest.number c.base.result 0 c.base.ensures.few (omega arith) in
    omega (arith, small, more)

pub overflow_add-number : goal.overflow_add-number
overflow_add-number c =
    let small = offset-small c.loop-rest.number c.loop-rest.count c.loop-rest.invariant.small c.if-count-ge16.false in
    let more = digit-more c.loop-rest.number c.base.result c.digit_value.result c.base.ensures.few
    c.digit_value.ensures.few in
    omega (arith, small, more)
