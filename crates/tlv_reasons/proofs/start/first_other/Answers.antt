use Rattle.std.proofs.Common.{arith}
use Rattle.tlv_reasons.proofs.start.first_other.Goals as goal

pub returns-then-is_other_start : goal.returns-then-is_other_start
returns-then-is_other_start c = (
  record { low = omega arith; high = omega arith; before = c.loop-offset.invariant },
  c.is_other_start.ensures.0 c.if-is_other_start.true,
)

pub returns : goal.returns
returns c = λ k low high. c.loop-offset.invariant k low (omega arith)
