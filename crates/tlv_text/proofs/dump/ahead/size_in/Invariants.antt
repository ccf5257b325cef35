use Rattle.std.proofs.Common.{◌≡◌, length}
use Rattle.tlv_text.specs.Dump.{size_in}
use Rattle.tlv_text.specs.DumpLines.{dump_lines}
use Rattle.tlv_text.proofs.dump.ahead.size_in.Given as goal

abbrev pub invariant-loop-rest : goal.invariant-loop-rest
invariant-loop-rest l = size_in l.radix l.first (dump_lines l.text) ≡ size_in l.radix l.first (dump_lines l.rest)

abbrev pub decreases-loop-rest : goal.decreases-loop-rest
decreases-loop-rest l = length l.rest
