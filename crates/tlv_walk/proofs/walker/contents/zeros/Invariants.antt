use Rattle.std.proofs.Common.{◌≡◌, ◌-◌, ◌≤◌, All, length, take}
use Rattle.tlv_walk.proofs.walker.contents.zeros.Given as goal

abbrev pub invariant-loop-count : goal.invariant-loop-count
invariant-loop-count l = record {
  within : l.count ≤ length l.octets;
  zeros : All (λ x. x ≡ 0) (take l.count l.octets);
}

abbrev pub decreases-loop-count : goal.decreases-loop-count
decreases-loop-count l = length l.octets - l.count
