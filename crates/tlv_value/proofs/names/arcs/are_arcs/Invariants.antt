use Rattle.std.proofs.Common.{◌≡◌, ◌≤◌, length}
use Rattle.std.specs.List.{list_all}
use Rattle.tlv_value.specs.Names.{dotted_parts, is_arc}
use Rattle.tlv_value.proofs.names.arcs.are_arcs.Given as goal

abbrev pub invariant-loop-rest : goal.invariant-loop-rest
invariant-loop-rest l = record {
  within : length l.rest ≤ length l.fn.text;
  same : list_all is_arc (dotted_parts l.fn.text) ≡ list_all is_arc (dotted_parts l.rest);
}

abbrev pub decreases-loop-rest : goal.decreases-loop-rest
decreases-loop-rest l = length l.rest
