use Rattle.std.proofs.Common.{◌≡◌, ◌++◌, length}
use Rattle.tlv_reasons.specs.Moves.{turned_fours}
use Rattle.tlv_reasons.proofs.moves.turned_fours.Given as goal

abbrev pub invariant-loop-rest : goal.invariant-loop-rest
invariant-loop-rest l = turned_fours l.octets ≡ l.copy.items ++ turned_fours l.rest

abbrev pub decreases-loop-rest : goal.decreases-loop-rest
decreases-loop-rest l = length l.rest
