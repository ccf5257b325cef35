use Rattle.std.proofs.Common.{◌≡◌, ◌≤◌, length, take}
use Rattle.std.specs.List.{filter}
use Rattle.tlv_value.specs.AllChecks.{is_listed}
use Rattle.tlv_value.specs.ValueCheckState.{findings_in}
use Rattle.tlv_value.proofs.value_check.ValueCheck.end.Given as goal

abbrev pub invariant-loop-finding : goal.invariant-loop-finding
invariant-loop-finding l = record {
  kept : l.listed.items ≡ filter is_listed (take l.finding-index l.finding-items);
  short : length l.listed.items ≤ l.finding-index;
  all : l.finding-items ≡ findings_in l.self;
  all_short : length l.finding-items ≤ 16;
}
