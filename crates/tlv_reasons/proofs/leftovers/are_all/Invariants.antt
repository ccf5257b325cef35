use Rattle.std.proofs.Common.{◌≡◌, drop}
use Rattle.tlv_reasons.specs.Leftovers.{are_all}
use Rattle.tlv_reasons.proofs.leftovers.are_all.Given as goal

abbrev pub invariant-loop-other : goal.invariant-loop-other
invariant-loop-other l = are_all l.octet l.octets ≡ are_all l.octet (drop l.other-index l.octets)
