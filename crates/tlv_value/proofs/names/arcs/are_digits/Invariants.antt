use Rattle.std.proofs.Common.{◌≡◌, drop}
use Rattle.std.specs.List.{list_all}
use Rattle.std.specs.Char.{is_ascii_digit}
use Rattle.tlv_value.proofs.names.arcs.are_digits.Given as goal

abbrev pub invariant-loop-octet : goal.invariant-loop-octet
invariant-loop-octet l = list_all is_ascii_digit l.part ≡ list_all is_ascii_digit (drop l.octet-index l.part)
