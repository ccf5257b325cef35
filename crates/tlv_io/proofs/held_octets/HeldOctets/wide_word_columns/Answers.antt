use Rattle.std.proofs.Common.{◌∙◌, ◌++◌, ◌∷◌, [], List, ℕ, decimal, ap, sym, arith}
use Rattle.tlv_io.specs.LineTexts.{at_right}
use Rattle.tlv_io.proofs.HeldTexts.{length-added, columns_added, right-short, right_long}
use Rattle.tlv_io.proofs.held_octets.HeldOctets.wide_word_columns.Goals as goal

pub add-requires : goal.add-requires
add-requires c =
    omega (
      arith,
      length-added _ _ (at_right 8 (decimal c.args.offset)) c.right.ensures,
      right-short 8 c.args.offset (omega arith) c.ranges.offset.fits,
      c.requires,
    )

pub add-requires-2 : goal.add-requires-2
add-requires-2 c =
    let first = length-added _ _ (at_right 8 (decimal c.args.offset)) c.right.ensures in
    omega (
      arith,
      first,
      right-short 8 c.args.offset (omega arith) c.ranges.offset.fits,
      length-added _ _ (32 ∷ []) c.add.ensures,
      c.told-word,
      c.requires,
    )

pub add-requires-3 : goal.add-requires-3
add-requires-3 c =
    let first = length-added _ _ (at_right 8 (decimal c.args.offset)) c.right.ensures in
    omega (
      arith,
      first,
      right-short 8 c.args.offset (omega arith) c.ranges.offset.fits,
      length-added _ _ (32 ∷ []) c.add.ensures,
      length-added _ _ c.args.word.now c.add-2.ensures,
      c.told-word,
      c.requires,
    )

pub returns : goal.returns
returns c =
    let joined =
    columns_added _ _ _ _ _ (at_right 8 (decimal c.args.offset)) c.args.word.now c.right.ensures c.add.ensures
    c.add-2.ensures c.add-3.ensures in
    joined
    ∙ ap (λ (l : List ℕ). c.args.self.now ++ (at_right 8 (decimal c.args.offset) ++ 32 ∷ [] ++ l ++ 58 ∷ 32 ∷ []))
    (sym (right_long 6 c.args.word.now (omega (arith, c.told-word))))
