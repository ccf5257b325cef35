use Rattle.std.proofs.Common.{◌≡◌, drop}
use Rattle.std.specs.List.{list_all}
use Rattle.tlv_reasons.specs.Leftovers.{is_text_octet}
use Rattle.tlv_reasons.proofs.leftovers.are_text_octets.Given as goal

abbrev pub invariant-loop-octet : goal.invariant-loop-octet
invariant-loop-octet l = list_all is_text_octet l.octets ≡ list_all is_text_octet (drop l.octet-index l.octets)
