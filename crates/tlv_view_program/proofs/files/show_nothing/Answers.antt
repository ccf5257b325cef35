use Rattle.std.proofs.Common.{◌+◌}
use Rattle.tlv_view_program.proofs.BlockSteps.{one-shown}
use Rattle.tlv_view_program.specs.Private.BlockParts.{blocks_place}
use Rattle.tlv_view_program.proofs.files.show_nothing.Goals as goal

pub returns : goal.returns
returns g c =
    let p = blocks_place c.args.task.now in
    one-shown c.args.task.now.request.now c.args.task.now.names.now p (c.args.before + 1) _ _ _ _ _ c.block.ensures
