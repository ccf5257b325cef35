use Rattle.std.proofs.Common.{◌≡◌, ◌≤◌, length, take}
use Rattle.std.specs.List.{filter}
use Rattle.tlv_value.specs.ValueCheckState.{findings_in}
use Rattle.tlv_show.specs.ShownFindings.{is_shown}
use Rattle.tlv_show.proofs.contents_findings.add_contents_findings.Given as goal

abbrev pub invariant-loop-finding : goal.invariant-loop-finding
invariant-loop-finding l = record {
  kept : l.found.items ≡ filter (is_shown l.wanted) (take l.finding-index l.finding-items);
  short : length l.found.items ≤ l.finding-index;
  all : l.finding-items ≡ findings_in l.check;
  all_short : length l.finding-items ≤ 16;
}
