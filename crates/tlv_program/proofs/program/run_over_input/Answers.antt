use Rattle.std.proofs.Common.{rules, refl}
use Rattle.tlv_run.specs.Report.{report_value_of}
use Rattle.tlv_program.specs.RunsProgram.{file, standard_input, unopened}
use Rattle.tlv_program.proofs.program.run_over_input.Goals as goal

pub returns-in_default : goal.returns-in_default
returns-in_default g c = standard_input (report_value_of c.run.result) (search rules) refl c.run.ensures

pub returns-in-Ok : goal.returns-in-Ok
returns-in-Ok g c =
    file c.in-Some.name.now c.«open».new.self (g.S.File.Source.state c.in-Ok.file) _ _ (search rules)
    c.in-Ok.ensures.opens c.in-Ok.ensures.unread (search rules) (search rules) c.close.ensures

pub returns-in-Err : goal.returns-in-Err
returns-in-Err g c =
    rw c.unopened_report.ensures
    (unopened c.in-Some.name.now c.in-Err.field-0 (search rules) c.in-Err.ensures.opens refl)
