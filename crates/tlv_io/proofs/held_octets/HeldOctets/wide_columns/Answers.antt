use Rattle.std.proofs.Common.{◌∷◌, [], decimal, arith}
use Rattle.tlv_io.specs.LineTexts.{at_right}
use Rattle.tlv_io.proofs.HeldTexts.{length-added, columns_added, right-short}
use Rattle.tlv_io.proofs.held_octets.HeldOctets.wide_columns.Goals as goal

pub add-requires : goal.add-requires
add-requires c =
    omega (
      arith,
      length-added _ _ (at_right 8 (decimal c.args.offset)) c.right.ensures,
      right-short 8 c.args.offset (omega arith) c.ranges.offset.fits,
      c.requires,
    )

pub right-requires-2 : goal.right-requires-2
right-requires-2 c =
    omega (
      arith,
      length-added _ _ (at_right 8 (decimal c.args.offset)) c.right.ensures,
      right-short 8 c.args.offset (omega arith) c.ranges.offset.fits,
      length-added _ _ (32 ∷ []) c.add.ensures,
      c.requires,
    )

pub add-requires-2 : goal.add-requires-2
add-requires-2 c =
    let first = length-added _ _ (at_right 8 (decimal c.args.offset)) c.right.ensures in
    let last = length-added _ _ (at_right 6 (decimal c.args.size)) c.right-2.ensures in
    omega (
      arith,
      first,
      right-short 8 c.args.offset (omega arith) c.ranges.offset.fits,
      length-added _ _ (32 ∷ []) c.add.ensures,
      last,
      right-short 6 c.args.size (omega arith) c.ranges.size.fits,
      c.requires,
    )

pub returns : goal.returns
returns c =
    columns_added _ _ _ _ _ (at_right 8 (decimal c.args.offset)) (at_right 6 (decimal c.args.size)) c.right.ensures
    c.add.ensures c.right-2.ensures c.add-2.ensures
