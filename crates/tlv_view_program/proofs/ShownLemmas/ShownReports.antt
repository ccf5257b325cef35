-- What is reported of blocks is printable ASCII.
use Rattle.std.proofs.Common.{◌≡◌, ℕ, ◌==◌, Bool, true, false, List, Option, Some, None, Result}
use Rattle.std.proofs.Common.{refl, subst, sym}
use Rattle.std.proofs.lemmas.List.Folds.{list_all-append}
use Rattle.tlv_head.specs.declared.fault.Fault.{Fault}
use Rattle.tlv_io.specs.Device.{DrainState, SourceState}
use Rattle.tlv_walk.specs.Forest.{Forest}
use Rattle.tlv_walk.specs.Job.{ComesTo, DeviceStates, Job}
use Rattle.tlv_walk.specs.declared.ending.Ending.{Ending}
use Rattle.tlv_walk.specs.declared.ending.Ending.TheVariants as ending
use Rattle.tlv_walk.specs.declared.framing.Framing.{Framing}
use Rattle.tlv_walk.specs.declared.run.DeviceFault.{DeviceFault}
use Rattle.tlv_walk.specs.declared.run.DeviceFault.TheVariants.{ReadFailed, WriteFailed, InputTooLong}
use Rattle.tlv_value.specs.Names.{NamesValue}
use Rattle.tlv_show.specs.WantedJobs.{check_job_with, dump_job_with}
use Rattle.tlv_show.specs.ShownFindings.{all_by}
use Rattle.tlv_show.specs.declared.scope.Scope.TheVariants.{All}
use Rattle.tlv_show.specs.declared.outcome.Outcome.{Outcome}
use Rattle.tlv_text.specs.declared.text_fault.TextFault.{TextFault}
use Rattle.tlv_text.specs.declared.text_fault.TextFault.TheVariants as text
use Rattle.tlv_run.specs.Report.{ReportValue, cut_report, device_report, fault_line, indef_report, outcome_report}
use Rattle.tlv_run.specs.Report.{result_report}
use Rattle.tlv_run.specs.Results.{job_with_report}
use Rattle.tlv_run.specs.RunsAndReports.{RunsAndReports}
use Rattle.tlv_view_program.specs.ReadWhole.{input_report}
use Rattle.tlv_view_program.specs.Views.{Views, dump_options, job_of_view}
use Rattle.tlv_view_program.specs.declared.input.InputFault.{InputFault}
use Rattle.tlv_view_program.specs.declared.input.InputFault.TheVariants as input
use Rattle.tlv_view_program.specs.declared.view_call.View.{View}
use Rattle.tlv_view_program.specs.declared.view_call.View.TheVariants as view
use Rattle.tlv_reasons.specs.Laws.{AreShown}
use Rattle.tlv_reasons.proofs.ShownLemmas.ShownValues.{code-shown, decimal-shown}
use Rattle.tlv_view_program.specs.Notes.{text_report}

abbrev pub IsShownReport : ReportValue → Type 0
IsShownReport report = AreShown report.message

-- ---- faults

fault_line-shown : (f : Fault) → AreShown (fault_line f)
fault_line-shown f =
    simp (list_all-append, decimal-shown, (code-shown f.code).0, (code-shown f.code).1)

-- ---- what an input comes to

outcome-shown : (outcome : Outcome) (e : Ending) (unused : Option ℕ) (none : Bool) → outcome.ending ≡ e
    → outcome.unused ≡ unused → (outcome.findings == 0) ≡ none → IsShownReport (outcome_report outcome)
outcome-shown outcome (ending.Fault f) unused none d u z = rw d (fault_line-shown f)
outcome-shown outcome ending.Done (Some offset) none d u z = rw (d, u) (simp (list_all-append, decimal-shown))
outcome-shown outcome ending.Done None false d u z = rw (d, u, z) (simp (list_all-append, decimal-shown))
outcome-shown outcome ending.Done None true d u z = rw (d, u, z) refl

outcome_report-shown : (outcome : Outcome) → IsShownReport (outcome_report outcome)
outcome_report-shown outcome =
    outcome-shown outcome outcome.ending outcome.unused (outcome.findings == 0) refl refl refl

cut-shown : (offset : ℕ) (e : Ending) (found : Bool)
    → IsShownReport (cut_report offset (record { ending = e; found = found }))
cut-shown offset (ending.Fault f) found = fault_line-shown f
cut-shown offset ending.Done false = simp (list_all-append, decimal-shown)
cut-shown offset ending.Done true = refl

pub indef_report-shown : (e : Ending) → IsShownReport (indef_report e)
indef_report-shown (ending.Fault f) = fault_line-shown f
indef_report-shown ending.Done = refl

-- ---- devices

pub device_report-shown : (fault : DeviceFault) → IsShownReport (device_report fault)
device_report-shown ReadFailed = refl
device_report-shown WriteFailed = refl
device_report-shown InputTooLong = refl

pub input_report-shown : (fault : InputFault) → IsShownReport (input_report fault)
input_report-shown input.ReadFailed = refl
input_report-shown input.TooLong = refl
input_report-shown input.Memory = refl

pub text_report-shown : (fault : TextFault) → IsShownReport (text_report fault)
text_report-shown text.TooLong = refl
text_report-shown text.Memory = refl

-- ---- runs

-- each report that a job may come to is shown
abbrev pub ReportsShown : Job ReportValue → Type 0
ReportsShown job = (f : Forest) (e : Ending) → IsShownReport (job.returns f e)

module _ (job : Job ReportValue) (all : ReportsShown job) where
  comes-shown : (limit : ℕ) (given : List ℕ) (f : Forest) (new : SourceState) (result : Result ReportValue DeviceFault)
      → ComesTo job limit given f new result → IsShownReport (result_report result)
  comes-shown limit given f new _ (ComesTo.at_settled_result e ends settled) = all f e
  comes-shown limit given f new _ (ComesTo.at_source_end e ends last end) = all f e
  comes-shown limit given f new _ (ComesTo.read_failed last) = device_report-shown ReadFailed
  comes-shown limit given f new _ ComesTo.write_failed = device_report-shown WriteFailed
  comes-shown limit given f new _ (ComesTo.too_long long more) = device_report-shown InputTooLong

  runs-shown : (old new : DeviceStates) (report : ReportValue) → RunsAndReports job old new report
      → IsShownReport report
  runs-shown old new report r =
      subst IsShownReport (sym r.report_is) (comes-shown _ _ _ _ r.result r.runs.comes)

job-shown : {A : Type 0} (make : A → ReportValue) (job : Job A) → ((a : A) → IsShownReport (make a))
    → ReportsShown (job_with_report make job)
job-shown make job all f e = all (job.returns f e)

view-shown : (v : View) (framing : Framing) (names : NamesValue) → ReportsShown (job_of_view v framing names)
view-shown (view.Dump rules limit pure text) framing names =
    job-shown outcome_report (dump_job_with All text (dump_options rules limit pure framing) names) outcome_report-shown
view-shown (view.Check rules) framing names =
    job-shown outcome_report (check_job_with (all_by rules) framing) outcome_report-shown
view-shown (view.Extract offset contents) framing names =
    λ f e. cut-shown offset e _

pub views-shown : (v : View) (names : NamesValue) (closed padding : Bool) (octets : List ℕ) (old new : DrainState)
    (report : ReportValue)
    → Views v names closed padding octets old new report → IsShownReport report
views-shown v names closed padding octets old new report x =
    runs-shown (job_of_view v _ names) (view-shown v _ names) _ _ report x.runs
