use Rattle.std.proofs.Common.{◌≤◌, ◌-◌, length}
use Rattle.tlv_text.specs.Private.TokenSteps.{NoneMarked}
use Rattle.tlv_text.proofs.tokens.first_marked.Given as goal

abbrev pub invariant-loop-more : goal.invariant-loop-more
invariant-loop-more l = record {
  within : l.start ≤ length l.part;
  first : NoneMarked l.mark l.before l.text l.start;
}

abbrev pub decreases-loop-more : goal.decreases-loop-more
decreases-loop-more l = length l.part - l.start
