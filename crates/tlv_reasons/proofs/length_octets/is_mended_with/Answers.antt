use Rattle.std.proofs.Common.{◌≤◌, arith}
use Rattle.tlv_reasons.proofs.ChainLemmas.{put-said}
use Rattle.tlv_reasons.proofs.length_octets.is_mended_with.Goals as goal

pub returns-clause-mended : goal.returns-clause-mended
returns-clause-mended c =
    let order : c.args.place.start ≤ c.args.place.end = omega (arith, c.requires.some) in
    rw (
      put-said c.args.place.start c.args.place.end c.args.would c.args.copy.now c.set_length.new.octets order
          c.set_length.ensures,
      c.requires.copied,
    ) at c.is_mended-mended.ensures
