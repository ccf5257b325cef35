use Rattle.std.proofs.Common.{◌≡◌, length}
use Rattle.tlv_text.specs.Runs.{is_at_line_end}
use Rattle.tlv_text.proofs.runs.is_at_line_end.Given as goal

abbrev pub invariant-loop-rest : goal.invariant-loop-rest
invariant-loop-rest l = is_at_line_end l.text ≡ is_at_line_end l.rest

abbrev pub decreases-loop-rest : goal.decreases-loop-rest
decreases-loop-rest l = length l.rest
