use Rattle.std.proofs.Common.{◌≡◌, ◌≤◌, drop}
use Rattle.tlv_reasons.specs.Overwritten.{count_back}
use Rattle.tlv_reasons.proofs.overwritten.count_back.Given as goal

abbrev pub invariant-loop-other : goal.invariant-loop-other
invariant-loop-other l = record {
  counted : count_back l.octet 0 l.octets ≡ count_back l.octet l.count (drop l.other-index l.octets);
  within : l.count ≤ l.other-index;
}
