use Rattle.std.proofs.Common.{◌≡◌, false, length}
use Rattle.tlv_text.specs.DumpEnds.{ends_with_repeat}
use Rattle.tlv_text.specs.DumpLines.{dump_lines}
use Rattle.tlv_text.proofs.dump.ends.ends_with_repeat.Given as goal

abbrev pub invariant-loop-rest : goal.invariant-loop-rest
invariant-loop-rest l = ends_with_repeat false (dump_lines l.text) ≡ ends_with_repeat l.repeats (dump_lines l.rest)

abbrev pub decreases-loop-rest : goal.decreases-loop-rest
decreases-loop-rest l = length l.rest
