use Rattle.std.proofs.Common.{get_or}
use Rattle.std.specs.Prelude.{None, Some}
use Rattle.tlv_reasons.proofs.RecordLemmas.{tried-all, tried-here, tried-later, tried-spent}
use Rattle.tlv_reasons.proofs.records.first_within.Goals as goal

pub returns-then-left-eq0-clause-first : goal.returns-then-left-eq0-clause-first
returns-then-left-eq0-clause-first c =
    c.loop-offset.invariant None
    (tried-spent c.args.padding c.args.octets.now c.args.fault c.loop-offset.left _ c.if-left-eq0.true)

pub returns-in-Ok-clause-first : goal.returns-in-Ok-clause-first
returns-in-Ok-clause-first c =
    rw c.in-Ok.ensures.there.0
    (c.loop-offset.invariant (Some (get_or c.args.offsets.now c.loop-offset.offset-index 0))
    (tried-here c.args.padding c.args.octets.now c.args.fault c.loop-offset.left c.args.offsets.now
    c.loop-offset.offset-index c.loop-offset-test.true c.if-left-eq0.false
    (c.in-Ok.next.fault, c.in-Ok.ensures.there.1)))

pub returns-in-Ok-clause-parses : goal.returns-in-Ok-clause-parses
returns-in-Ok-clause-parses c = rw c.in-Ok.ensures.there.0 c.in-Ok.ensures.there.1

pub loop-offset-preserved : goal.loop-offset-preserved
loop-offset-preserved c = λ found f.
    c.loop-offset.invariant found
    (tried-later c.args.padding c.args.octets.now c.args.fault c.loop-offset.left c.in-Err.count c.args.offsets.now
    c.loop-offset.offset-index found c.loop-offset-test.true c.if-left-eq0.false c.in-Err.ensures.vain
    (rw c.saturating_sub-left.ensures at f))

pub returns-clause-first : goal.returns-clause-first
returns-clause-first c =
    c.loop-offset.invariant None
    (tried-all c.args.padding c.args.octets.now c.args.fault c.loop-offset.left c.args.offsets.now
    c.loop-offset.offset-index c.loop-offset-test.false)
