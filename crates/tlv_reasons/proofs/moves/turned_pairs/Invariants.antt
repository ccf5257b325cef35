use Rattle.std.proofs.Common.{◌≡◌, ◌++◌, length}
use Rattle.tlv_reasons.specs.Moves.{turned_pairs}
use Rattle.tlv_reasons.proofs.moves.turned_pairs.Given as goal

abbrev pub invariant-loop-rest : goal.invariant-loop-rest
invariant-loop-rest l = turned_pairs l.octets ≡ l.copy.items ++ turned_pairs l.rest

abbrev pub decreases-loop-rest : goal.decreases-loop-rest
decreases-loop-rest l = length l.rest
