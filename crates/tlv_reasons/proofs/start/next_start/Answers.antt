use Rattle.std.proofs.Common.{arith}
use Rattle.tlv_reasons.specs.NextStart.{of_damaged, of_one_record, of_records, otherwise}
use Rattle.tlv_reasons.proofs.MoveLemmas.{denied}
use Rattle.tlv_reasons.proofs.start.next_start.Goals as goal

pub returns-then-begins_and_ends : goal.returns-then-begins_and_ends
returns-then-begins_and_ends c = of_one_record (c.begins_and_ends.ensures.0 c.if-begins_and_ends.true)

pub returns-then-not-seems_right : goal.returns-then-not-seems_right
returns-then-not-seems_right c =
    otherwise (denied _ c.begins_and_ends.ensures c.if-begins_and_ends.false)
    (denied _ c.seems_right.ensures c.if-not-seems_right.true) c.first_start.ensures

pub returns-then-top-gt0 : goal.returns-then-top-gt0
returns-then-top-gt0 c =
    of_records (denied _ c.begins_and_ends.ensures c.if-begins_and_ends.false)
    (c.seems_right.ensures.0 c.if-not-seems_right.false) (omega (arith, c.if-top-gt0.true))

pub returns : goal.returns
returns c =
    of_damaged (denied _ c.begins_and_ends.ensures c.if-begins_and_ends.false)
    (c.seems_right.ensures.0 c.if-not-seems_right.false) (omega (arith, c.if-top-gt0.false))
    (rw c.saturating_add.ensures at c.first_start-2.ensures)
