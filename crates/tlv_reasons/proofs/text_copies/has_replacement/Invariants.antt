use Rattle.std.proofs.Common.{◌≡◌, length}
use Rattle.tlv_reasons.specs.TextCopies.{has_replacement}
use Rattle.tlv_reasons.proofs.text_copies.has_replacement.Given as goal

abbrev pub invariant-loop-rest : goal.invariant-loop-rest
invariant-loop-rest l = has_replacement l.octets ≡ has_replacement l.rest

abbrev pub decreases-loop-rest : goal.decreases-loop-rest
decreases-loop-rest l = length l.rest
