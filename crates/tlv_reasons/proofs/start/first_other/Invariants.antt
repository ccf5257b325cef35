use Rattle.std.proofs.Common.{ℕ, ◌≤◌, ◌<◌}
use Rattle.tlv_reasons.specs.NextStart.{IsOtherStart}
use Rattle.tlv_reasons.proofs.start.first_other.Given as goal

abbrev pub invariant-loop-offset : goal.invariant-loop-offset
invariant-loop-offset l = (k : ℕ) → l.first ≤ k → k < l.offset → IsOtherStart l.padding l.octets k → ⊥
