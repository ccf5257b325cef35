use Rattle.std.proofs.Common.{◌≡◌, drop}
use Rattle.std.specs.List.{list_all}
use Rattle.std.specs.Prelude.{◌&&◌}
use Rattle.tlv_value.proofs.value_check.characters.is_all_allowed.Given as goal
use Rattle.tlv_value.specs.Characters.{allows_octet}

abbrev pub invariant-loop-octet : goal.invariant-loop-octet
invariant-loop-octet l =
    (l.all && list_all (allows_octet l.number) (drop l.octet-index l.octets))
    ≡ list_all (allows_octet l.number) l.octets
