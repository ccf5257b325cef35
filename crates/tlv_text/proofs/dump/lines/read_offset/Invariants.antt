use Rattle.std.proofs.Common.{◌≡◌, ◌<◌, ◌≤◌, ◌^◌, length}
use Rattle.tlv_text.specs.DumpLines.{offset_read}
use Rattle.tlv_text.proofs.dump.lines.read_offset.Given as goal

abbrev pub invariant-loop-rest : goal.invariant-loop-rest
invariant-loop-rest l = record {
  read : offset_read l.radix 0 0 l.text ≡ offset_read l.radix l.count l.number l.rest;
  few : l.count ≤ 16;
  small : l.number < 16 ^ l.count;
}

abbrev pub decreases-loop-rest : goal.decreases-loop-rest
decreases-loop-rest l = length l.rest
