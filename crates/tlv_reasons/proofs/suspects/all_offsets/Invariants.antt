use Rattle.std.proofs.Common.{◌≡◌, ◌++◌, take}
use Rattle.tlv_reasons.specs.Suspects.{offset_there}
use Rattle.tlv_reasons.proofs.suspects.all_offsets.Given as goal

abbrev pub invariant-loop-offset : goal.invariant-loop-offset
invariant-loop-offset l = l.offsets.items ≡ offset_there l.facts.there ++ take l.offset-index l.offset-items
