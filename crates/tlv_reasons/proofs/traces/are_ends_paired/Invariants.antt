use Rattle.std.proofs.Common.{◌≡◌, drop}
use Rattle.tlv_reasons.specs.Traces.{are_ends_paired}
use Rattle.tlv_reasons.proofs.traces.are_ends_paired.Given as goal

abbrev pub invariant-loop-octet : goal.invariant-loop-octet
invariant-loop-octet l = are_ends_paired 0 l.octets ≡ are_ends_paired l.before (drop l.octet-index l.octets)
