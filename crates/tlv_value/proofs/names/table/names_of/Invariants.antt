use Rattle.std.proofs.Common.{◌≤◌, ◌+◌, length}
use Rattle.tlv_value.specs.NamesFields.{texts_in}
use Rattle.tlv_value.proofs.NamesLemmas.LinesSoFar.{LinesSoFar}
use Rattle.tlv_value.proofs.names.table.names_of.Given as goal

abbrev pub invariant-loop-rest : goal.invariant-loop-rest
invariant-loop-rest g l = record {
  within : l.number + length l.rest ≤ length l.octets;
  standing : LinesSoFar l.octets l.rest l.number (texts_in l.table);
}

abbrev pub decreases-loop-rest : goal.decreases-loop-rest
decreases-loop-rest g l = length l.rest
