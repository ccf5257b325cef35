use Rattle.std.proofs.Common.{◌≡◌, drop}
use Rattle.std.specs.List.{list_all}
use Rattle.tlv_value.specs.Units.{is_printable}
use Rattle.tlv_view_program.proofs.lines.are_printable.Given as goal

abbrev pub invariant-loop-octet : goal.invariant-loop-octet
invariant-loop-octet l =
    list_all is_printable (drop l.octet-index l.octets) ≡ list_all is_printable l.octets
