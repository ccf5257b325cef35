use Rattle.std.proofs.Common.{◌≡◌, drop, map}
use Rattle.std.specs.Prelude.{nat_lt}
use Rattle.tlv_text.specs.Blocks.{are_too_long, block_value, octet_count}
use Rattle.tlv_text.proofs.blocks.are_too_long.Given as goal

abbrev pub invariant-loop-block : goal.invariant-loop-block
invariant-loop-block l =
    are_too_long l.text (map block_value l.blocks)
    ≡ nat_lt l.left (octet_count (map block_value (drop l.block-index l.blocks)))
