use Rattle.std.proofs.Common.{◌≡◌, drop}
use Rattle.tlv_reasons.specs.Remedies.{named_at}
use Rattle.tlv_reasons.proofs.mend.named_at.Given as goal

abbrev pub invariant-loop-each : goal.invariant-loop-each
invariant-loop-each l = named_at l.offset l.wrong ≡ named_at l.offset (drop l.each-index l.wrong)
