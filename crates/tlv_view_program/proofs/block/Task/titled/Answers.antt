use Rattle.std.proofs.Common.{rules}
use Rattle.tlv_view_program.specs.ShowsBlock.{title_failed, titled}
use Rattle.tlv_view_program.proofs.block.Task.titled.Goals as goal

pub returns-in-Ok : goal.returns-in-Ok
returns-in-Ok g c =
    titled (g.D.Drain.state c.write_title.new.drain) c.write_title.result _ _ (search rules) c.write_title.ensures
    c.contents.ensures

pub returns-in-Err : goal.returns-in-Err
returns-in-Err g c =
    rw (c.reported.ensures.report, c.reported.ensures.none, c.device_report.ensures)
    (title_failed c.write_title.result (search rules) c.write_title.ensures)
