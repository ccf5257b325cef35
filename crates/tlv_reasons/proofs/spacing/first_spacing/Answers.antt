use Rattle.std.proofs.Common.{arith}
use Rattle.std.specs.Prelude.{None}
use Rattle.tlv_reasons.specs.Spacing.{no_more, wider}
use Rattle.tlv_reasons.proofs.spacing.first_spacing.Goals as goal

pub loop-gap-preserved : goal.loop-gap-preserved
loop-gap-preserved c = λ found f. c.loop-gap.invariant found
    (wider (omega (arith, c.loop-gap-test.true)) c.in_default.ensures.0 c.in_default.ensures.1 f)

pub returns : goal.returns
returns c = c.loop-gap.invariant None (no_more (omega (arith, c.loop-gap-test.false)))
