use Rattle.std.proofs.Common.{◌≡◌, ◌+◌, ◌*◌, ◌++◌, All, List, drop, false, length, map}
use Rattle.std.specs.List.{list_any}
use Rattle.std.specs.Vec.Iter.{into_iter_items, into_iter_len}
use Rattle.tlv_text.specs.Private.Counting.{IsBounded, is_too_long}
use Rattle.tlv_text.specs.Taken.{AreFirstBlocks, IsFirstTooLong, RunsCount, TakenValue, TextBlocks, TextTooLong}
use Rattle.tlv_text.specs.Taken.{taken_count, taken_value}
use Rattle.tlv_text.specs.Blocks.{block_value}
use Rattle.tlv_text.specs.Dump.{dump_limit}
use Rattle.tlv_text.proofs.counting.+layers.Given as goal

abbrev pub decreases-text_blocks : goal.decreases-text_blocks
decreases-text_blocks l = 8 * l.layers

abbrev pub decreases-inner_blocks : goal.decreases-inner_blocks
decreases-inner_blocks l = 8 * l.layers + 1

abbrev pub decreases-counted : goal.decreases-counted
decreases-counted l = 8 * l.layers + 2

abbrev pub decreases-counted_base64 : goal.decreases-counted_base64
decreases-counted_base64 l = 8 * l.layers + 3

abbrev pub decreases-counted_runs : goal.decreases-counted_runs
decreases-counted_runs l = 8 * l.layers + 3

abbrev pub decreases-counted_blocks : goal.decreases-counted_blocks
decreases-counted_blocks l = 8 * l.layers + 4

abbrev pub decreases-blocks_in_first_of : goal.decreases-blocks_in_first_of
decreases-blocks_in_first_of l = 8 * l.layers + 5

abbrev pub decreases-lone_base64_blocks : goal.decreases-lone_base64_blocks
decreases-lone_base64_blocks l = 8 * l.layers + 6

abbrev pub decreases-first_blocks : goal.decreases-first_blocks
decreases-first_blocks l = 8 * l.layers + 7

abbrev pub invariant-counted_runs-loop-block : goal.invariant-counted_runs-loop-block
invariant-counted_runs-loop-block l = record {
  counts : RunsCount (TextBlocks l.layers) (map block_value l.yielded) (map taken_value l.taken.items);
  bounded : All (IsBounded (l.layers + 1)) l.taken.items;
  fit : list_any is_too_long (map block_value (into_iter_items l.block-iterator)) ≡ false;
  passed : l.yielded ++ into_iter_items l.block-iterator ≡ into_iter_items l.initial.block-iterator;
  left : into_iter_len l.block-iterator ≡ length (into_iter_items l.block-iterator);
  room : l.left + taken_count (map taken_value l.taken.items) ≡ dump_limit;
}

abbrev pub invariant-blocks_in_first_of-loop-form : goal.invariant-blocks_in_first_of-loop-form
invariant-blocks_in_first_of-loop-form l = record {
  first : (ts : List TakenValue) → AreFirstBlocks (TextBlocks l.layers) l.text (drop l.form-index l.forms) ts
      → AreFirstBlocks (TextBlocks l.layers) l.text l.forms ts;
  long : IsFirstTooLong (TextBlocks l.layers) (TextTooLong l.layers) l.text (drop l.form-index l.forms)
      → IsFirstTooLong (TextBlocks l.layers) (TextTooLong l.layers) l.text l.forms;
}
