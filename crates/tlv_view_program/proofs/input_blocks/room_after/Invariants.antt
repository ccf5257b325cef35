use Rattle.std.proofs.Common.{◌≡◌, ◌+◌, drop, map}
use Rattle.tlv_text.specs.Taken.{taken_value}
use Rattle.tlv_view_program.specs.InputBlocks.{decoded_count}
use Rattle.tlv_view_program.proofs.input_blocks.room_after.Given as goal

abbrev pub invariant-loop-block : goal.invariant-loop-block
invariant-loop-block l =
    l.rest + decoded_count (map taken_value l.taken)
    ≡ l.room + decoded_count (map taken_value (drop l.block-index l.taken))
