-- The result of a run over a source and a drain.
use Rattle.std.specs.Prelude.{◌≡◌, Result}
use Rattle.tlv_walk.specs.Job.{DeviceStates, Job, Runs}
use Rattle.tlv_walk.specs.declared.run.DeviceFault.{DeviceFault}
use Rattle.tlv_run.specs.Report.{ReportValue, result_report}

-- a job was done over a source and a drain, and this is the final report: about the input, or that a device failed or
-- the input is too long
pub record RunsAndReports (job : Job ReportValue) (old new : DeviceStates) (report : ReportValue) : Type 0 where
  pub result : Result ReportValue DeviceFault
  pub runs : Runs job old new result
  pub report_is : report ≡ result_report result
