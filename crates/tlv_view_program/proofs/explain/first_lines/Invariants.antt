use Rattle.std.proofs.Common.{◌≡◌, ◌≤◌, ◌++◌, take}
use Rattle.tlv_view_program.specs.Reasons.{first_lines}
use Rattle.tlv_view_program.proofs.LineLemmas.{ToCome}
use Rattle.tlv_view_program.proofs.explain.first_lines.Given as goal

abbrev pub invariant-loop-index : goal.invariant-loop-index
invariant-loop-index l = record {
  few : l.lines ≤ l.most;
  behind : l.end ≤ l.index;
  lines : first_lines l.most l.text ≡ take l.end l.text ++ ToCome l.most l.text l.end l.lines l.index;
}
