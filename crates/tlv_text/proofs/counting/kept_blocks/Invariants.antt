use Rattle.std.proofs.Common.{◌≡◌, ◌++◌, All, false, filter, length, map}
use Rattle.std.specs.List.{list_any}
use Rattle.std.specs.Vec.Iter.{into_iter_items, into_iter_len}
use Rattle.tlv_text.specs.Private.Counting.{IsBounded, is_kept, is_too_long}
use Rattle.tlv_text.specs.Taken.{taken_as, taken_value}
use Rattle.tlv_text.specs.declared.taken.TakenFor.TheVariants.{Text}
use Rattle.tlv_text.specs.Blocks.{block_value}
use Rattle.tlv_text.proofs.counting.kept_blocks.Given as goal

abbrev pub invariant-loop-block : goal.invariant-loop-block
invariant-loop-block l = record {
  taken :
      map taken_value l.kept.items
      ++ map (taken_as (Text l.form)) (filter (is_kept l.form) (map block_value (into_iter_items l.block-iterator)))
      ≡ map (taken_as (Text l.form))
      (filter (is_kept l.form) (map block_value (into_iter_items l.initial.block-iterator)));
  bounded : All (IsBounded 1) l.kept.items;
  fit : list_any is_too_long (map block_value (into_iter_items l.block-iterator)) ≡ false;
  left : into_iter_len l.block-iterator ≡ length (into_iter_items l.block-iterator);
}
