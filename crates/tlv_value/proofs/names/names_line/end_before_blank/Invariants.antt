use Rattle.std.proofs.Common.{◌≡◌, ◌+◌, drop}
use Rattle.std.specs.List.{position_or_len}
use Rattle.tlv_value.specs.Names.{is_blank}
use Rattle.tlv_value.proofs.names.names_line.end_before_blank.Given as goal

abbrev pub invariant-loop-i : goal.invariant-loop-i
invariant-loop-i l = position_or_len is_blank l.text ≡ l.i + position_or_len is_blank (drop l.i l.text)
