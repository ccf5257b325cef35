use Rattle.std.proofs.Common.{◌≡◌, length}
use Rattle.tlv_value.specs.Units.{without_leading_zeros}
use Rattle.tlv_value.proofs.units.without_leading_zeros.Given as goal

abbrev pub invariant-loop-rest : goal.invariant-loop-rest
invariant-loop-rest l = without_leading_zeros l.rest ≡ without_leading_zeros l.digits

abbrev pub decreases-loop-rest : goal.decreases-loop-rest
decreases-loop-rest l = length l.rest
