use Rattle.std.proofs.Common.{◌≡◌, length}
use Rattle.tlv_text.specs.DumpEnds.{first_offset}
use Rattle.tlv_text.specs.DumpLines.{dump_lines}
use Rattle.tlv_text.proofs.dump.ends.first_offset.Given as goal

abbrev pub invariant-loop-rest : goal.invariant-loop-rest
invariant-loop-rest l = first_offset l.radix (dump_lines l.text) ≡ first_offset l.radix (dump_lines l.rest)

abbrev pub decreases-loop-rest : goal.decreases-loop-rest
decreases-loop-rest l = length l.rest
