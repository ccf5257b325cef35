use Rattle.std.proofs.Common.{◌≡◌, drop}
use Rattle.tlv_reasons.specs.OpenHolders.{outermost_definite}
use Rattle.tlv_reasons.proofs.holders.outermost_definite.Given as goal

abbrev pub invariant-loop-element : goal.invariant-loop-element
invariant-loop-element l = outermost_definite l.holders ≡ outermost_definite (drop l.element-index l.holders)
