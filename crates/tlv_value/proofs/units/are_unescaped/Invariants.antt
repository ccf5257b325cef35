use Rattle.std.proofs.Common.{◌≡◌, drop}
use Rattle.std.specs.Prelude.{◌&&◌}
use Rattle.std.specs.List.{list_all}
use Rattle.tlv_value.specs.Private.UnescapedCharacters.{is_unescaped}
use Rattle.tlv_value.proofs.units.are_unescaped.Given as goal

abbrev pub invariant-loop-octet : goal.invariant-loop-octet
invariant-loop-octet l = (l.all && list_all is_unescaped (drop l.octet-index l.octets)) ≡ list_all is_unescaped l.octets
