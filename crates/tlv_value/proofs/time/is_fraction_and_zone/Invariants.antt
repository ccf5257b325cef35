use Rattle.std.proofs.Common.{◌≡◌, length}
use Rattle.tlv_value.specs.Times.{digits, fraction, generalized_zone, maybe, ◌followed_by◌}
use Rattle.tlv_value.proofs.time.is_fraction_and_zone.Given as goal

abbrev pub invariant-loop-rest : goal.invariant-loop-rest
invariant-loop-rest l =
    (digits followed_by maybe generalized_zone) l.rest ≡ (fraction followed_by maybe generalized_zone) l.octets

abbrev pub decreases-loop-rest : goal.decreases-loop-rest
decreases-loop-rest l = length l.rest
