use Rattle.std.proofs.Common.{◌∙◌, ap, arith, length}
use Rattle.tlv_reasons.proofs.MoveLemmas.{move-size}
use Rattle.tlv_reasons.proofs.moves.is_undone.Goals as goal

pub is_sound-requires : goal.is_sound-requires
is_sound-requires c =
    omega (
      arith,
      ap length (c.as_slice.ensures.value ∙ c.in_ok-copy.ensures),
      move-size c.args.change c.args.octets.now,
    )
