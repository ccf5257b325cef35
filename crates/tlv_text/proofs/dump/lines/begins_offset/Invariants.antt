use Rattle.std.proofs.Common.{length}
use Rattle.tlv_text.proofs.DumpLemmas.{ReadAlike}
use Rattle.tlv_text.specs.DumpLines.{offset_read}
use Rattle.tlv_text.proofs.dump.lines.begins_offset.Given as goal

abbrev pub invariant-loop-rest : goal.invariant-loop-rest
invariant-loop-rest l = ReadAlike (offset_read l.radix 0 0 l.text) (offset_read l.radix l.count 0 l.rest)

abbrev pub decreases-loop-rest : goal.decreases-loop-rest
decreases-loop-rest l = length l.rest
