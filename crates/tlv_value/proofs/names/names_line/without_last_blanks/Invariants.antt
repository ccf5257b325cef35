use Rattle.std.proofs.Common.{◌≡◌, ◌≤◌, length, take}
use Rattle.tlv_value.specs.Names.{without_last_blanks}
use Rattle.tlv_value.proofs.names.names_line.without_last_blanks.Given as goal

abbrev pub invariant-loop-end : goal.invariant-loop-end
invariant-loop-end l = record {
  within : l.end ≤ length l.text;
  same : without_last_blanks l.text ≡ without_last_blanks (take l.end l.text);
}

abbrev pub decreases-loop-end : goal.decreases-loop-end
decreases-loop-end l = l.end
