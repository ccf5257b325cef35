use Rattle.std.proofs.Common.{◌≡◌, drop}
use Rattle.tlv_reasons.specs.Traces.{are_seven_bits}
use Rattle.tlv_reasons.proofs.traces.are_seven_bits.Given as goal

abbrev pub invariant-loop-octet : goal.invariant-loop-octet
invariant-loop-octet l = are_seven_bits l.octets ≡ are_seven_bits (drop l.octet-index l.octets)
