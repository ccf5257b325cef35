use Rattle.std.proofs.Common.{◌≡◌, ◌<◌, drop, length}
use Rattle.std.specs.Prelude.{◌&&◌}
use Rattle.tlv_value.specs.UnitsSoFar.{are_characters_after, open_unit}
use Rattle.tlv_value.proofs.value_check.units.take_units.Given as goal

abbrev pub invariant-loop-octet : goal.invariant-loop-octet
invariant-loop-octet l = record {
  short : length l.unit.items < l.size;
  unit : open_unit l.size l.unit.items (drop l.octet-index l.octets) ≡ open_unit l.size l.initial.unit.items l.octets;
  characters : (l.all && are_characters_after l.size l.unit.items (drop l.octet-index l.octets))
      ≡ are_characters_after l.size l.initial.unit.items l.octets;
}
