use Rattle.std.proofs.Common.{arith}
use Rattle.tlv_reasons.proofs.KindLemmas.{counted-all, counted-element, counted-nothing, counted-too_many}
use Rattle.tlv_reasons.proofs.element_kinds.outermost_kinds.Goals as goal

pub returns-then-len-ge-TOO_MANY : goal.returns-then-len-ge-TOO_MANY
returns-then-len-ge-TOO_MANY c =
    counted-too_many c.args.padding c.args.octets.now c.loop-offset.offset c.loop-offset.counts c.loop-offset.invariant
    (omega (arith, c.if-len-ge-TOO_MANY.true, c.len.ensures.value))

pub loop-offset-preserved : goal.loop-offset-preserved
loop-offset-preserved c =
    rw c.count_element.ensures
    (counted-element c.args.padding c.args.octets.now c.loop-offset.offset c.in-Some-Element.end
    c.in-Some-Element.primitive c.loop-offset.counts c.loop-offset.invariant
    (rw c.in-Some-Element.field-0-is at c.in-Some-Element.ensures))

pub returns-in-None : goal.returns-in-None
returns-in-None c =
    counted-nothing c.args.padding c.args.octets.now c.loop-offset.offset c.loop-offset.counts c.loop-offset.invariant
    c.in-None.ensures

pub returns : goal.returns
returns c =
    rw c.kinds_counted.ensures
    (counted-all c.args.padding c.args.octets.now c.loop-offset.offset c.loop-offset.counts (omega arith)
    c.loop-offset.invariant)
