use Rattle.std.proofs.Common.{◌≡◌, ◌++◌, map, take}
use Rattle.tlv_reasons.specs.Suspects.{element_offset}
use Rattle.tlv_reasons.proofs.suspects.add_offsets.Given as goal

abbrev pub invariant-loop-element : goal.invariant-loop-element
invariant-loop-element l =
    l.offsets.items ≡ l.initial.offsets.items ++ map element_offset (take l.element-index l.elements)
