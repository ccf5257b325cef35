use Rattle.std.proofs.Common.{◌≡◌, ◌≤◌, length, map, take}
use Rattle.std.specs.List.{filter}
use Rattle.tlv_reasons.specs.OpenHolders.{has_end}
use Rattle.tlv_reasons.specs.Suspects.{element_offset}
use Rattle.tlv_reasons.proofs.chains.definite_offsets.Given as goal

abbrev pub invariant-loop-element : goal.invariant-loop-element
invariant-loop-element l = record {
  kept : l.offsets.items ≡ map element_offset (filter has_end (take l.element-index l.elements));
  few : length l.offsets.items ≤ l.element-index;
}
