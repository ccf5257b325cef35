-- The result of a command for an input.
use Rattle.std.specs.Prelude.{◌≡◌, ℕ, List}
use Rattle.tlv_run.specs.Extract.{extract_job}
use Rattle.tlv_run.specs.Indef.{indef_job}
use Rattle.tlv_show.specs.ShowJob.{check_job, dump_job}
use Rattle.tlv_value.specs.Names.{NamesValue}
use Rattle.tlv_walk.specs.declared.ending.Ending.{Ending}
use Rattle.tlv_walk.specs.Forest.{Forest}
use Rattle.tlv_walk.specs.Job.{EndsWith, Job}
use Rattle.tlv_walk.specs.Reading.{IsReading}
use Rattle.tlv_run.specs.Report.{ReportValue, cut_report, indef_report, outcome_report}
use Rattle.tlv_run.specs.declared.command.Command.{Command}
use Rattle.tlv_run.specs.declared.command.Command.TheVariants.{Check, Dump, Extract, Indef}

-- the same job, but it returns the report of its result
abbrev pub job_with_report : {A : Type 0} → (A → ReportValue) → Job A → Job ReportValue
job_with_report report job = record {
  framing = job.framing;
  text = job.text;
  is_enough = job.is_enough;
  returns = λ f e. report (job.returns f e);
}

-- what each command wants of an input: what is written for its elements, when nothing more is wanted, and what is
-- reported
abbrev pub command_job : Command → NamesValue → Job ReportValue
command_job (Dump options names_file file) names = job_with_report outcome_report (dump_job options names)
command_job (Check rules framing file) names = job_with_report outcome_report (check_job rules framing)
command_job (Extract offset contents_only framing file) names =
    job_with_report (cut_report offset) (extract_job offset contents_only framing)
command_job (Indef padding file) names = job_with_report indef_report (indef_job padding)

-- the result of an input: the octets written, the ending of the job (`EndsWith`), and the report, with status, number
-- of findings and message
pub record CommandResult : Type 0 where
  pub output : List ℕ
  pub ending : Ending
  pub report : ReportValue

-- the result of a job for an input that is exactly these octets
pub record IsResult (job : Job ReportValue) (b : List ℕ) (made : CommandResult) : Type 0 where
  -- the elements of the input
  pub reading : Forest
  pub is_reading : IsReading job.framing b reading
  pub ends : EndsWith job b reading made.ending
  pub output_is : made.output ≡ job.text reading
  pub report_is : made.report ≡ job.returns reading made.ending
