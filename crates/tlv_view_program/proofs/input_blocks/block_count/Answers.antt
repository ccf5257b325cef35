use Rattle.std.proofs.Common.{arith, ◌∙◌}
use Rattle.tlv_view_program.proofs.InputBlockLemmas.{counted-all, counted-within}
use Rattle.tlv_view_program.proofs.input_blocks.block_count.Goals as goal

pub returns-in_default : goal.returns-in_default
returns-in_default c fits =
    let within =
    counted-within c.args.files.now c.loop-file.file-index c.file-item.result c.loop-file-test.true c.file-item.is in
    c.in_default.ensures
    (omega (arith, fits, within, c.loop-file.invariant.counted, c.file_block_count.ensures))

pub returns : goal.returns
returns c =
    let all = counted-all c.args.files.now c.loop-file.file-index (omega (arith, c.loop-file-test.false)) in
    let count = c.loop-file.invariant.counted in
    (omega (arith, all, count, c.loop-file.invariant.fits), count ∙ all)
