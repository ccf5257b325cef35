use Rattle.std.proofs.Common.{◌≡◌, ◌≤◌, ◌<◌, ◌-◌, ◌^◌}
use Rattle.tlv_reasons.specs.WrongLength.{reversed}
use Rattle.tlv_reasons.proofs.tried_lengths.reversed.Given as goal

abbrev pub invariant-loop-left : goal.invariant-loop-left
invariant-loop-left l = record {
  few : l.left ≤ l.count;
  same : reversed l.count l.said 0 ≡ reversed l.left l.rest l.front;
  below : l.front < 256 ^ (l.count - l.left);
}

abbrev pub decreases-loop-left : goal.decreases-loop-left
decreases-loop-left l = l.left
