use Rattle.std.proofs.Common.{◌≡◌, ◌+◌, ◌-◌, ◌<◌, ◌≤◌, ◌++◌, length}
use Rattle.tlv_reasons.specs.NextRecord.{alike_offsets, is_alike}
use Rattle.tlv_reasons.proofs.RecordLemmas.{From}
use Rattle.tlv_reasons.proofs.records.add_alike_offsets.Given as goal

abbrev pub invariant-loop-place : goal.invariant-loop-place
invariant-loop-place l = record {
  few : l.tries < 1024;
  room : length l.tried.items ≤ 3 + l.tries;
  items : l.tried.items ++ From l.octets (is_alike l.octets l.offset) l.place (1024 - l.tries)
      ≡ l.initial.tried.items ++ alike_offsets l.octets l.offset;
}
