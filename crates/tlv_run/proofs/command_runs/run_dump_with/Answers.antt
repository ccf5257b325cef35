use Rattle.tlv_show.specs.WantedJobs.{dump_job_with}
use Rattle.tlv_run.specs.Report.{outcome_report}
use Rattle.tlv_run.proofs.JobReports.{reported_runs}
use Rattle.tlv_run.proofs.command_runs.run_dump_with.Goals as goal

pub returns-in-Ok : goal.returns-in-Ok
returns-in-Ok g c =
    reported_runs outcome_report (dump_job_with _ _ _ _) c.dump_with.ensures (rw c.in-Ok.is c.outcome_report.ensures)

pub returns-in-Err : goal.returns-in-Err
returns-in-Err g c =
    reported_runs outcome_report (dump_job_with _ _ _ _) c.dump_with.ensures (rw c.in-Err.is c.device_report.ensures)
