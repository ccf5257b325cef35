use Rattle.std.proofs.Common.{◌≡◌, ◌≤◌, ◌+◌, drop}
use Rattle.tlv_reasons.specs.Traces.{zeros_at}
use Rattle.tlv_reasons.proofs.traces.zeros_at.Given as goal

abbrev pub invariant-loop-octet : goal.invariant-loop-octet
invariant-loop-octet l = record {
  counted : zeros_at l.is_here l.octets ≡ l.count + zeros_at l.is_counted (drop l.octet-index l.octets);
  within : l.count ≤ l.octet-index;
}
