use Rattle.std.proofs.Common.{◌≡◌, drop}
use Rattle.tlv_value.specs.Names.{without_first_blanks}
use Rattle.tlv_value.proofs.names.names_line.without_first_blanks.Given as goal

abbrev pub invariant-loop-i : goal.invariant-loop-i
invariant-loop-i l = without_first_blanks l.text ≡ without_first_blanks (drop l.i l.text)
