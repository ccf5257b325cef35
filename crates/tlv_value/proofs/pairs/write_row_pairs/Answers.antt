use Rattle.std.proofs.Common.{◌∷◌, arith}
use Rattle.tlv_io.proofs.HeldTexts.{length-added}
use Rattle.tlv_value.proofs.TextLemmas.RowTextLengths.{joined-short}
use Rattle.tlv_value.proofs.pairs.write_row_pairs.Goals as goal
use Rattle.tlv_value.specs.Private.Rows.{joined_pairs}

pub write_text_behind-requires : goal.write_text_behind-requires
write_text_behind-requires c =
    omega (
      arith,
      length-added _ _ (32 ∷ joined_pairs c.args.row.now) c.write_joined_pairs.ensures,
      joined-short c.args.row.now,
      c.requires.short,
      c.requires.room,
    )
