use Rattle.std.proofs.Common.{◌≡◌, drop}
use Rattle.tlv_reasons.specs.Traces.{are_characters}
use Rattle.tlv_reasons.proofs.traces.are_characters.Given as goal

abbrev pub invariant-loop-octet : goal.invariant-loop-octet
invariant-loop-octet l = are_characters 0 l.octets ≡ are_characters l.wanted (drop l.octet-index l.octets)
