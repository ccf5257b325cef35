use Rattle.std.proofs.Common.{◌≡◌, ◌==◌, drop}
use Rattle.std.specs.List.{list_all}
use Rattle.tlv_value.proofs.real.are_zeros.Given as goal

abbrev pub invariant-loop-octet : goal.invariant-loop-octet
invariant-loop-octet l =
    list_all (λ octet. octet == 0) (drop l.octet-index l.octets) ≡ list_all (λ octet. octet == 0) l.octets
