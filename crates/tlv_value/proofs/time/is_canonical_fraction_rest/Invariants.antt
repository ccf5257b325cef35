use Rattle.std.proofs.Common.{◌≡◌, length}
use Rattle.tlv_value.specs.Times.{digits, mark, octet_between, ◌followed_by◌}
use Rattle.tlv_value.proofs.time.is_canonical_fraction_rest.Given as goal

abbrev pub invariant-loop-rest : goal.invariant-loop-rest
invariant-loop-rest l =
    ((digits followed_by octet_between 0x31 0x39) followed_by mark 0x5a) l.rest
    ≡ ((digits followed_by octet_between 0x31 0x39) followed_by mark 0x5a) l.octets

abbrev pub decreases-loop-rest : goal.decreases-loop-rest
decreases-loop-rest l = length l.rest
