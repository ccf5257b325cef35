use Rattle.tlv_run.specs.Indef.{indef_job}
use Rattle.tlv_run.specs.Report.{indef_report}
use Rattle.tlv_run.proofs.JobReports.{reported_runs}
use Rattle.tlv_run.proofs.command_runs.run_indef.Goals as goal

pub returns-in-Ok : goal.returns-in-Ok
returns-in-Ok g c =
    reported_runs indef_report (indef_job _) c.indef.ensures.runs (rw c.in-Ok.is c.indef_report.ensures)

pub returns-in-Err : goal.returns-in-Err
returns-in-Err g c =
    reported_runs indef_report (indef_job _) c.indef.ensures.runs (rw c.in-Err.is c.device_report.ensures)
