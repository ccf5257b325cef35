use Rattle.std.proofs.Common.{◌≡◌, length}
use Rattle.tlv_text.specs.DumpLines.{after_blanks}
use Rattle.tlv_text.proofs.dump.lines.after_blanks.Given as goal

abbrev pub invariant-loop-rest : goal.invariant-loop-rest
invariant-loop-rest l = after_blanks l.text ≡ after_blanks l.rest

abbrev pub decreases-loop-rest : goal.decreases-loop-rest
decreases-loop-rest l = length l.rest
