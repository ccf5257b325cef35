use Rattle.std.proofs.Common.{◌≡◌, length}
use Rattle.tlv_tests.proofs.value.put_octets.Given as goal

abbrev pub invariant-loop-rest : goal.invariant-loop-rest
invariant-loop-rest g l = l.text.left ≡ length l.rest

abbrev pub decreases-loop-rest : goal.decreases-loop-rest
decreases-loop-rest g l = length l.rest
