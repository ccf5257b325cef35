use Rattle.std.proofs.Common.{◌≡◌, length}
use Rattle.tlv_value.specs.RealState.{real_check_after}
use Rattle.tlv_value.proofs.real.RealCheck.after.Given as goal

abbrev pub invariant-loop-rest : goal.invariant-loop-rest
invariant-loop-rest l = real_check_after l.check l.rest ≡ real_check_after l.fn.self l.octets

abbrev pub decreases-loop-rest : goal.decreases-loop-rest
decreases-loop-rest l = length l.rest
