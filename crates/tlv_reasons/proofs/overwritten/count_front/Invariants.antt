use Rattle.std.proofs.Common.{◌≡◌, ◌≤◌, ◌+◌, drop}
use Rattle.tlv_reasons.specs.Overwritten.{count_front}
use Rattle.tlv_reasons.proofs.overwritten.count_front.Given as goal

abbrev pub invariant-loop-other : goal.invariant-loop-other
invariant-loop-other l = record {
  counted : count_front l.octet l.octets ≡ count_front l.octet (drop l.other-index l.octets) + l.count;
  within : l.count ≤ l.other-index;
}
