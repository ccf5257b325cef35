use Rattle.std.proofs.Common.{◌≡◌, ◌≤◌, length, take}
use Rattle.std.specs.Prelude.{nat_le}
use Rattle.std.specs.List.{filter}
use Rattle.tlv_reasons.proofs.suspects.suspects_from.Given as goal

abbrev pub invariant-loop-each : goal.invariant-loop-each
invariant-loop-each l = record {
  kept : l.kept.items ≡ filter (λ o. nat_le l.offset o) (take l.each-index l.each-items);
  few : length l.kept.items ≤ l.each-index;
}
