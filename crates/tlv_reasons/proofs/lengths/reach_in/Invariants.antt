use Rattle.std.proofs.Common.{◌≡◌, drop}
use Rattle.tlv_reasons.specs.WrongLength.{reach_of}
use Rattle.tlv_reasons.proofs.lengths.reach_in.Given as goal

abbrev pub invariant-loop-holder : goal.invariant-loop-holder
invariant-loop-holder l =
    reach_of l.holders l.offset l.size ≡ reach_of (drop l.holder-index l.holders) l.offset l.reach
