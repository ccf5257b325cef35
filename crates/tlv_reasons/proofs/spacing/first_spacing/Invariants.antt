use Rattle.std.specs.Prelude.{Option}
use Rattle.tlv_reasons.specs.Spacing.{IsSpacingFrom}
use Rattle.tlv_reasons.specs.declared.spacing.Spacing.{Spacing}
use Rattle.tlv_reasons.proofs.spacing.first_spacing.Given as goal

abbrev pub invariant-loop-gap : goal.invariant-loop-gap
invariant-loop-gap l =
    (found : Option Spacing) → IsSpacingFrom l.octets l.gap found → IsSpacingFrom l.octets 1 found
