use Rattle.std.proofs.Common.{◌≡◌, length}
use Rattle.tlv_text.specs.PemBody.{after_line}
use Rattle.tlv_text.proofs.body.after_line.Given as goal

abbrev pub invariant-loop-rest : goal.invariant-loop-rest
invariant-loop-rest l = after_line l.text ≡ after_line l.rest

abbrev pub decreases-loop-rest : goal.decreases-loop-rest
decreases-loop-rest l = length l.rest
