use Rattle.tlv_run.specs.Extract.{extract_job}
use Rattle.tlv_run.specs.Report.{cut_report}
use Rattle.tlv_run.proofs.JobReports.{reported_runs}
use Rattle.tlv_run.proofs.command_runs.run_extract.Goals as goal

pub returns-in-Ok : goal.returns-in-Ok
returns-in-Ok g c =
    reported_runs (cut_report _) (extract_job _ _ _) c.extract.ensures (rw c.in-Ok.is c.cut_report.ensures)

pub returns-in-Err : goal.returns-in-Err
returns-in-Err g c =
    reported_runs (cut_report _) (extract_job _ _ _) c.extract.ensures (rw c.in-Err.is c.device_report.ensures)
