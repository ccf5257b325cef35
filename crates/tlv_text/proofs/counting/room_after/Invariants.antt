use Rattle.std.proofs.Common.{◌≡◌, ◌+◌, drop, map}
use Rattle.tlv_text.specs.Taken.{taken_count, taken_value}
use Rattle.tlv_text.proofs.counting.room_after.Given as goal

abbrev pub invariant-loop-block : goal.invariant-loop-block
invariant-loop-block l =
    l.room + taken_count (map taken_value l.taken)
    ≡ l.left + taken_count (map taken_value (drop l.block-index l.taken))
