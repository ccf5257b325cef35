use Rattle.std.proofs.Common.{arith}
use Rattle.tlv_io.specs.LineTexts.{spaced_pairs}
use Rattle.tlv_io.proofs.HeldTexts.{length-added, pairs-size}
use Rattle.tlv_value.proofs.pairs.write_full_row.Goals as goal

pub write_between_bars-requires : goal.write_between_bars-requires
write_between_bars-requires g c =
    omega (
      arith,
      length-added _ _ (spaced_pairs c.args.row.now) c.spaced_row.ensures,
      pairs-size c.args.row.now,
      c.told-row,
      c.requires,
    )
