use Rattle.std.proofs.Common.{arith}
use Rattle.tlv_reasons.specs.Spacing.{before_each, behind_each}
use Rattle.tlv_reasons.proofs.spacing.spacing_of.Goals as goal

pub returns-in-Some : goal.returns-in-Some
returns-in-Some c = behind_each (omega (arith, c.requires.gap)) c.in-Some.ensures

pub returns-in-Some-spaced_from : goal.returns-in-Some-spaced_from
returns-in-Some-spaced_from c =
    before_each (omega (arith, c.requires.gap)) c.in_default.ensures c.in-Some-spaced_from.ensures
