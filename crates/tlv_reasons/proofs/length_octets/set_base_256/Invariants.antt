use Rattle.std.proofs.Common.{◌≡◌, ◌≤◌, ◌++◌, length, drop}
use Rattle.tlv_reasons.specs.WrongLength.{base_256}
use Rattle.tlv_reasons.proofs.length_octets.set_base_256.Given as goal

abbrev pub invariant-loop-at : goal.invariant-loop-at
invariant-loop-at l = record {
  within : l.at ≤ length l.octets;
  said : base_256 (length l.octets) l.number ≡ base_256 l.at l.rest ++ drop l.at l.octets;
}

abbrev pub decreases-loop-at : goal.decreases-loop-at
decreases-loop-at l = l.at
