use Rattle.std.proofs.Common.{◌≡◌, [], length}
use Rattle.std.specs.Prelude.{◌&&◌}
use Rattle.tlv_value.specs.UnitsSoFar.{are_characters_after}
use Rattle.tlv_value.proofs.value_check.units.are_characters_of_four.Given as goal

abbrev pub invariant-loop-rest : goal.invariant-loop-rest
invariant-loop-rest l = (l.all && are_characters_after 4 [] l.rest) ≡ are_characters_after 4 [] l.octets

abbrev pub decreases-loop-rest : goal.decreases-loop-rest
decreases-loop-rest l = length l.rest
