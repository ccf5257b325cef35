use Rattle.std.proofs.Common.{◌∷◌, [], arith}
use Rattle.tlv_io.proofs.HeldTexts.{length-added}
use Rattle.tlv_value.proofs.TextLemmas.LineLengths.{number_short}
use Rattle.tlv_show.proofs.finding_lines.write_check_finding.Goals as goal

pub add-requires : goal.add-requires
add-requires c = omega (arith, number_short _ _ _ c.ranges.offset.fits c.number.ensures, c.requires)

pub add_prefix-requires : goal.add_prefix-requires
add_prefix-requires c =
    let first = number_short _ _ _ c.ranges.offset.fits c.number.ensures in
    let second = length-added _ _ (32 ∷ []) c.add.ensures in
    (omega arith, (omega (arith, c.line_block-count.ensures.count), omega (arith, first, second, c.requires)))
