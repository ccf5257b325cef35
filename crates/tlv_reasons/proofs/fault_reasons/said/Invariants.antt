use Rattle.std.proofs.Common.{◌≡◌, ◌≤◌, length, take}
use Rattle.tlv_reasons.specs.FaultReasons.{said}
use Rattle.tlv_reasons.proofs.fault_reasons.said.Given as goal

abbrev pub invariant-loop-sentence : goal.invariant-loop-sentence
invariant-loop-sentence l = record {
  kept : l.reasons.items ≡ said (take l.sentence-index l.sentences);
  few : length l.reasons.items ≤ l.sentence-index;
}
