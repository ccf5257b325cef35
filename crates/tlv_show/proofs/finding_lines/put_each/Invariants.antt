use Rattle.std.proofs.Common.{◌≡◌, ◌++◌, ℕ, List, drop}
use Rattle.tlv_io.proofs.Puts.{HasPut}
use Rattle.tlv_show.specs.FindingLines.{styled_lines}
use Rattle.tlv_show.proofs.finding_lines.put_each.Given as goal

abbrev pub invariant-loop-finding : goal.invariant-loop-finding
invariant-loop-finding g l = record {
  put : (text : List ℕ) × HasPut g.D.Drain.state l.initial.out l.out text
      × (text ++ styled_lines l.style l.level l.offset (drop l.finding-index l.findings)
      ≡ styled_lines l.style l.level l.offset l.findings);
}
