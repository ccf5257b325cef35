use Rattle.std.proofs.Common.{◌≡◌, ◌≤◌, ◌++◌, drop, length}
use Rattle.tlv_reasons.specs.Suspects.{distinct, distinct_after}
use Rattle.tlv_reasons.proofs.suspects.distinct.Given as goal

abbrev pub invariant-loop-each : goal.invariant-loop-each
invariant-loop-each l = record {
  kept : distinct l.offsets ≡ l.kept.items ++ distinct_after l.kept.items (drop l.each-index l.offsets);
  few : length l.kept.items ≤ l.each-index;
}
