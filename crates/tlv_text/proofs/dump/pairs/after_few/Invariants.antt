use Rattle.std.proofs.Common.{◌≡◌}
use Rattle.tlv_text.specs.DumpPairs.{after_few}
use Rattle.tlv_text.proofs.dump.pairs.after_few.Given as goal

abbrev pub invariant-loop-left : goal.invariant-loop-left
invariant-loop-left l = after_few l.most l.text ≡ after_few l.left l.rest

abbrev pub decreases-loop-left : goal.decreases-loop-left
decreases-loop-left l = l.left
