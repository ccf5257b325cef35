use Rattle.std.proofs.Common.{◌≡◌, ◌≤◌, take}
use Rattle.std.specs.Prelude.{count_by, eqb}
use Rattle.tlv_reasons.proofs.traces.count_of.Given as goal

abbrev pub invariant-loop-octet : goal.invariant-loop-octet
invariant-loop-octet l = record {
  counted : l.count ≡ count_by (λ x. eqb x l.wanted) (take l.octet-index l.octets);
  within : l.count ≤ l.octet-index;
}
