use Rattle.std.proofs.Common.{arith}
use Rattle.tlv_io.specs.LineTexts.{spaced_pairs}
use Rattle.tlv_io.proofs.HeldTexts.{length-added, pairs-size}
use Rattle.tlv_value.proofs.pairs.write_pairs.Goals as goal

pub write_text_behind-requires : goal.write_text_behind-requires
write_text_behind-requires c =
    omega (
      arith,
      length-added _ _ (spaced_pairs c.args.octets.now) c.spaced_pairs.ensures,
      pairs-size c.args.octets.now,
      c.requires,
    )
