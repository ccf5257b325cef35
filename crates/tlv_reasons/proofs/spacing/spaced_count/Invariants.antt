use Rattle.std.proofs.Common.{ℕ, ◌+◌, ◌-◌, ◌≤◌, length}
use Rattle.tlv_reasons.specs.Spacing.{AreSpaced}
use Rattle.tlv_reasons.proofs.spacing.spaced_count.Given as goal

abbrev pub invariant-loop-end : goal.invariant-loop-end
invariant-loop-end l = record {
  found : (n : ℕ) → AreSpaced l.gap l.octets l.at n → AreSpaced l.gap l.octets l.first (n + l.count);
  none : ((n : ℕ) → AreSpaced l.gap l.octets l.at n → ⊥) → (n : ℕ) → AreSpaced l.gap l.octets l.first n → ⊥;
  counted : l.count ≤ l.at;
}

abbrev pub decreases-loop-end : goal.decreases-loop-end
decreases-loop-end l = length l.octets + 9 - l.at
