use Rattle.std.proofs.Common.{arith}
use Rattle.tlv_reasons.proofs.start.first_alone.Goals as goal

pub returns : goal.returns
returns c = λ k low high. c.loop-offset.invariant k low (omega arith)
