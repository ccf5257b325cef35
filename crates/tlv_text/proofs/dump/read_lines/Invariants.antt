use Rattle.std.proofs.Common.{◌≡◌, length}
use Rattle.tlv_text.specs.Dump.{dump_in}
use Rattle.tlv_text.proofs.dump.read_lines.Given as goal

abbrev pub invariant-loop-rest : goal.invariant-loop-rest
invariant-loop-rest l = dump_in l.radix l.text ≡ dump_in l.radix l.rest

abbrev pub decreases-loop-rest : goal.decreases-loop-rest
decreases-loop-rest l = length l.rest
