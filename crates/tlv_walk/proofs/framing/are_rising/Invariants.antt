use Rattle.std.proofs.Common.{◌≡◌, drop}
use Rattle.tlv_walk.specs.Inside.{are_rising}
use Rattle.tlv_walk.proofs.framing.are_rising.Given as goal

abbrev pub invariant-loop-offset : goal.invariant-loop-offset
invariant-loop-offset l = are_rising l.least (drop l.offset-index l.offsets) ≡ are_rising 0 l.offsets
