use Rattle.std.proofs.Common.{◌≡◌, ◌≤◌, take}
use Rattle.std.specs.Prelude.{count_by, nat_le}
use Rattle.tlv_reasons.proofs.traces.high_count.Given as goal

abbrev pub invariant-loop-octet : goal.invariant-loop-octet
invariant-loop-octet l = record {
  counted : l.count ≡ count_by (λ x. nat_le 0x80 x) (take l.octet-index l.octets);
  within : l.count ≤ l.octet-index;
}
