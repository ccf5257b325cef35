use Rattle.std.proofs.Common.{◌+◌, ◌≤◌, length, map}
use Rattle.tlv_text.proofs.BlockLemmas.{RunsBefore}
use Rattle.tlv_text.specs.Blocks.{block_value}
use Rattle.tlv_text.specs.Private.BlockSteps.{IsLineIn}
use Rattle.tlv_text.proofs.blocks.runs.run_blocks.Given as goal

abbrev pub invariant-loop-run : goal.invariant-loop-run
invariant-loop-run l = record {
  before : RunsBefore l.text l.rest (map block_value l.blocks.items);
  line : IsLineIn l.text l.here;
  order : l.here.place + length l.rest ≤ length l.text;
}

abbrev pub decreases-loop-run : goal.decreases-loop-run
decreases-loop-run l = length l.rest
