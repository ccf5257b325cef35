use Rattle.std.proofs.Common.{◌≡◌, ◌<◌, ◌^◌, flat_map, length, take}
use Rattle.tlv_view_program.specs.Private.BlockParts.{file_blocks}
use Rattle.tlv_view_program.proofs.input_blocks.block_count.Given as goal

abbrev pub invariant-loop-file : goal.invariant-loop-file
invariant-loop-file l = record {
  counted : l.count ≡ length (flat_map file_blocks (take l.file-index l.files));
  fits : l.count < 2 ^ 64;
}
