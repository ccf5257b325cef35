use Rattle.std.proofs.Common.{◌≡◌, ◌≤◌, take}
use Rattle.tlv_reasons.specs.OpenHolders.{indefinite_count}
use Rattle.tlv_reasons.proofs.holders.indefinite_count.Given as goal

abbrev pub invariant-loop-element : goal.invariant-loop-element
invariant-loop-element l = record {
  counted : l.count ≡ indefinite_count (take l.element-index l.holders);
  within : l.count ≤ l.element-index;
}
