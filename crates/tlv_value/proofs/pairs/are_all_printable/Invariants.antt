use Rattle.std.proofs.Common.{◌≡◌, ◌&&◌, drop}
use Rattle.std.specs.List.{list_all}
use Rattle.tlv_value.specs.Units.{is_printable}
use Rattle.tlv_value.proofs.pairs.are_all_printable.Given as goal

abbrev pub invariant-loop-octet : goal.invariant-loop-octet
invariant-loop-octet l =
    (l.all && list_all is_printable (drop l.octet-index l.row)) ≡ list_all is_printable l.row
