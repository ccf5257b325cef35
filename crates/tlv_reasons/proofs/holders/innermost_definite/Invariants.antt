use Rattle.std.proofs.Common.{◌≡◌, None, drop}
use Rattle.tlv_reasons.specs.OpenHolders.{innermost_definite}
use Rattle.tlv_reasons.proofs.holders.innermost_definite.Given as goal

abbrev pub invariant-loop-element : goal.invariant-loop-element
invariant-loop-element l =
    innermost_definite None l.holders ≡ innermost_definite l.found (drop l.element-index l.holders)
