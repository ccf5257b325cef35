use Rattle.std.proofs.Common.{refl}
use Rattle.tlv_run.specs.Report.{report_value_of}
use Rattle.tlv_program.specs.RunsProgram.{no_names, runs}
use Rattle.tlv_program.proofs.program.run_command.Goals as goal

pub returns-in-Ok : goal.returns-in-Ok
returns-in-Ok g c =
    runs c.names_for.new.system c.in-Ok.names (report_value_of c.run_over_input.result)
    (rw c.in-Ok.is at c.names_for.ensures) c.run_over_input.ensures

pub returns-in-Err : goal.returns-in-Err
returns-in-Err g c =
    rw c.names_report.ensures (no_names c.in-Err.fault (rw c.in-Err.is at c.names_for.ensures) refl)
