use Rattle.std.proofs.Common.{◌≡◌, ◌+◌, ◌≤◌, drop}
use Rattle.tlv_reasons.specs.FaultReasons.{zero_count}
use Rattle.tlv_reasons.proofs.fault_reasons.zero_count.Given as goal

abbrev pub invariant-loop-octet : goal.invariant-loop-octet
invariant-loop-octet l = record {
  counted : zero_count l.octets ≡ l.count + zero_count (drop l.octet-index l.octets);
  within : l.count ≤ l.octet-index;
}
