use Rattle.std.proofs.Common.{◌≤◌, ◌*◌}
use Rattle.tlv_open.specs.Breaks.{sequence_starts}
use Rattle.tlv_open.specs.Private.Walks.{HasWalkedOver}
use Rattle.tlv_open.proofs.breaking.ending_around.Given as goal

abbrev pub invariant-loop : goal.invariant-loop
invariant-loop l = record {
  within : l.walker.offset ≤ 2 * l.counter;
  walked : HasWalkedOver l.framing (sequence_starts l.counter) l.walker;
}
