use Rattle.std.proofs.Common.{arith, rules}
use Rattle.std.proofs.lemmas.List.{length-take-le}
use Rattle.tlv_io.proofs.HeldTexts.{spaces_prefix}
use Rattle.tlv_io.proofs.held_octets.texts.fill_spaces.Goals as goal

pub slice_bounds-copy_from_slice-end-2 : goal.slice_bounds-copy_from_slice-end-2
slice_bounds-copy_from_slice-end-2 c = omega (arith, length-take-le 32 c.args.to.now (omega (arith, c.requires)))

pub copy_from_slice-requires : goal.copy_from_slice-requires
copy_from_slice-requires c = length-take-le 32 c.args.to.now (omega (arith, c.requires))

pub returns-else-count-gt32 : goal.returns-else-count-gt32
returns-else-count-gt32 c = record {
  text =
      spaces_prefix c.args.count 32 c.copy_from_slice.new.self _ c.copy_from_slice.ensures.after c.if-count-gt32.false;
  size = search rules;
}
