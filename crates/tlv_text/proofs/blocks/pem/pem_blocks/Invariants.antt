use Rattle.std.proofs.Common.{◌+◌, ◌≤◌, length, map}
use Rattle.tlv_text.proofs.BlockLemmas.{PemBefore}
use Rattle.tlv_text.specs.Blocks.{block_value}
use Rattle.tlv_text.specs.Private.BlockSteps.{IsLineIn}
use Rattle.tlv_text.proofs.blocks.pem.pem_blocks.Given as goal

abbrev pub invariant-loop-found : goal.invariant-loop-found
invariant-loop-found l = record {
  before : PemBefore l.text l.rest (map block_value l.blocks.items);
  line : IsLineIn l.text l.here;
  order : l.here.place + length l.rest ≤ length l.text;
}

abbrev pub decreases-loop-found : goal.decreases-loop-found
decreases-loop-found l = length l.rest
