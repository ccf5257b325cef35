use Rattle.std.proofs.Common.{◌≡◌, length}
use Rattle.tlv_text.specs.Dump.{is_octal_first}
use Rattle.tlv_text.specs.DumpLines.{dump_lines}
use Rattle.tlv_text.proofs.dump.ahead.is_octal_first.Given as goal

abbrev pub invariant-loop-rest : goal.invariant-loop-rest
invariant-loop-rest l = is_octal_first (dump_lines l.text) ≡ is_octal_first (dump_lines l.rest)

abbrev pub decreases-loop-rest : goal.decreases-loop-rest
decreases-loop-rest l = length l.rest
