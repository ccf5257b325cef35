use Rattle.std.proofs.Common.{◌≡◌, drop}
use Rattle.tlv_reasons.specs.Leftovers.{are_blank_octets}
use Rattle.tlv_reasons.proofs.leftovers.are_blank_octets.Given as goal

abbrev pub invariant-loop-octet : goal.invariant-loop-octet
invariant-loop-octet l = are_blank_octets l.octets ≡ are_blank_octets (drop l.octet-index l.octets)
