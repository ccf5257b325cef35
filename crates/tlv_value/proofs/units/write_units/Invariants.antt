use Rattle.std.proofs.Common.{◌≡◌, ℕ, ◌++◌, List, length}
use Rattle.std.specs.Prelude.{flat_map}
use Rattle.tlv_io.specs.LineTexts.{AddsIfRoom}
use Rattle.tlv_value.specs.Units.{unit_text, units}
use Rattle.tlv_value.proofs.units.write_units.Given as goal

abbrev pub invariant-loop-rest : goal.invariant-loop-rest
invariant-loop-rest l =
    (text : List ℕ) × AddsIfRoom l.fn.held l.held text
    × (text ++ flat_map (unit_text l.kind) (units l.kind l.rest) ≡ flat_map (unit_text l.kind) (units l.kind l.row))

abbrev pub decreases-loop-rest : goal.decreases-loop-rest
decreases-loop-rest l = length l.rest
