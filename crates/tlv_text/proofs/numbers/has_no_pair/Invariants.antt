use Rattle.std.proofs.Common.{◌≡◌, length}
use Rattle.tlv_text.specs.Numbers.{has_no_pair}
use Rattle.tlv_text.proofs.numbers.has_no_pair.Given as goal

abbrev pub invariant-loop-rest : goal.invariant-loop-rest
invariant-loop-rest l = has_no_pair l.text ≡ has_no_pair l.rest

abbrev pub decreases-loop-rest : goal.decreases-loop-rest
decreases-loop-rest l = length l.rest
