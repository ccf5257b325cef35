use Rattle.std.proofs.Common.{◌≤◌, ◌-◌, length}
use Rattle.tlv_text.proofs.RunLemmas.{NoRunBefore}
use Rattle.tlv_text.proofs.runs.first_run.Given as goal

abbrev pub invariant-loop-start : goal.invariant-loop-start
invariant-loop-start l = record {
  within : l.start ≤ length l.text;
  before : NoRunBefore l.text l.start;
}

abbrev pub decreases-loop-start : goal.decreases-loop-start
decreases-loop-start l = length l.text - l.start
