use Rattle.std.proofs.Common.{◌≡◌, ◌≤◌, take}
use Rattle.tlv_reasons.specs.Traces.{beyond_ascii}
use Rattle.tlv_reasons.proofs.traces.beyond_ascii.Given as goal

abbrev pub invariant-loop-octet : goal.invariant-loop-octet
invariant-loop-octet l = record {
  counted : l.count ≡ beyond_ascii (take l.octet-index l.octets);
  within : l.count ≤ l.octet-index;
}
