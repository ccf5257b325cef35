use Rattle.std.proofs.Common.{◌≡◌, ◌+◌, length}
use Rattle.tlv_text.specs.Runs.{break_after}
use Rattle.tlv_text.proofs.runs.break_from.Given as goal

abbrev pub invariant-loop-rest : goal.invariant-loop-rest
invariant-loop-rest l = record {
  size : break_after 0 l.text ≡ break_after l.blanks l.rest;
  within : l.blanks + length l.rest ≡ length l.text;
}

abbrev pub decreases-loop-rest : goal.decreases-loop-rest
decreases-loop-rest l = length l.rest
