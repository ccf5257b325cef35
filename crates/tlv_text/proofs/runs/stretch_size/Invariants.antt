use Rattle.std.proofs.Common.{length}
use Rattle.tlv_text.proofs.RunLemmas.{IsStretchSoFar}
use Rattle.tlv_text.proofs.runs.stretch_size.Given as goal

abbrev pub invariant-loop-rest : goal.invariant-loop-rest
invariant-loop-rest l = IsStretchSoFar l.text l.rest

abbrev pub decreases-loop-rest : goal.decreases-loop-rest
decreases-loop-rest l = length l.rest
