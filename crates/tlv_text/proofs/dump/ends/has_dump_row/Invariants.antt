use Rattle.std.proofs.Common.{◌≡◌, length}
use Rattle.tlv_text.specs.DumpEnds.{has_dump_row}
use Rattle.tlv_text.specs.DumpLines.{dump_lines}
use Rattle.tlv_text.proofs.dump.ends.has_dump_row.Given as goal

abbrev pub invariant-loop-rest : goal.invariant-loop-rest
invariant-loop-rest l = has_dump_row (dump_lines l.text) ≡ has_dump_row (dump_lines l.rest)

abbrev pub decreases-loop-rest : goal.decreases-loop-rest
decreases-loop-rest l = length l.rest
