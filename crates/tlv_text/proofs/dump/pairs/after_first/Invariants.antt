use Rattle.std.proofs.Common.{◌≡◌, length}
use Rattle.tlv_text.specs.DumpPairs.{after_first}
use Rattle.tlv_text.proofs.dump.pairs.after_first.Given as goal

abbrev pub invariant-loop-rest : goal.invariant-loop-rest
invariant-loop-rest l = after_first l.character l.text ≡ after_first l.character l.rest

abbrev pub decreases-loop-rest : goal.decreases-loop-rest
decreases-loop-rest l = length l.rest
