-- The view of octets in memory if the strings that hold encodings are opened.
use Rattle.std.specs.Prelude.{◌≡◌, ℕ, Bool, true, false, List, [], Option, Some, None}
use Rattle.tlv_io.specs.Device.{DrainState, SourceState, new_source}
use Rattle.tlv_walk.specs.declared.framing.Framing.{Framing}
use Rattle.tlv_walk.specs.Job.{Job, device_states}
use Rattle.tlv_value.specs.Names.{NamesValue}
use Rattle.tlv_open.specs.Laws.{opened_framing}
use Rattle.tlv_open.specs.Breaks.{AreBroken}
use Rattle.tlv_open.specs.Opens.{AreOpened}
use Rattle.tlv_open.specs.declared.strings.BrokenString.{BrokenString}
use Rattle.tlv_show.specs.WantedJobs.{check_job_with, dump_job_with}
use Rattle.tlv_show.specs.ShownFindings.{all_by}
use Rattle.tlv_show.specs.declared.options.Options.{Options}
use Rattle.tlv_show.specs.declared.rules.Rules.{Rules}
use Rattle.tlv_show.specs.declared.scope.Scope.TheVariants.{All}
use Rattle.tlv_run.specs.Report.{ReportValue, outcome_report}
use Rattle.tlv_run.specs.Results.{command_job, job_with_report}
use Rattle.tlv_run.specs.RunsAndReports.{RunsAndReports}
use Rattle.tlv_run.specs.declared.command.Command.TheVariants as command
use Rattle.tlv_view_program.specs.declared.view_call.View.{View}
use Rattle.tlv_view_program.specs.declared.view_call.View.TheVariants.{Dump, Check, Extract}

-- the options of a dump
abbrev pub dump_options : Rules → Option ℕ → Bool → Framing → Options
dump_options rules limit pure framing = record { rules = rules; limit = limit; pure = pure; framing = framing }

-- the job of a view of an input in which strings are named as the framing says: the job of the command, but with all
-- findings in place of the listed ones, and a dump may have text beside pairs of digits
abbrev pub job_of_view : View → Framing → NamesValue → Job ReportValue
job_of_view (Dump rules limit pure text) framing names =
    job_with_report outcome_report (dump_job_with All text (dump_options rules limit pure framing) names)
job_of_view (Check rules) framing names = job_with_report outcome_report (check_job_with (all_by rules) framing)
job_of_view (Extract offset contents) framing names =
    command_job (command.Extract offset contents framing None) names

-- the offsets of the opened strings: none, if all are to stay closed
abbrev pub AreOpenedUnless : Bool → Bool → List ℕ → List ℕ → Type 0
AreOpenedUnless true padding octets offsets = offsets ≡ []
AreOpenedUnless false padding octets offsets = AreOpened padding octets offsets

-- the broken strings: none, if all are to stay closed
abbrev pub AreBrokenUnless : Bool → Bool → List ℕ → List BrokenString → Type 0
AreBrokenUnless true padding octets broken = broken ≡ []
AreBrokenUnless false padding octets broken = AreBroken padding octets broken

-- the view is what the command writes and reports for these octets with these strings named: the source has the
-- octets, nothing of it was read before, and no read of it failed
pub record Views
    (view : View) (names : NamesValue) (closed padding : Bool) (octets : List ℕ) (old new : DrainState)
    (report : ReportValue)
    : Type 0 where
  pub offsets : List ℕ
  pub are_opened : AreOpenedUnless closed padding octets offsets
  -- the source after the run
  pub source : SourceState
  -- so no failed read (E1) is reported
  pub no_failures : source.failures ≡ 0
  pub runs :
      RunsAndReports (job_of_view view (opened_framing padding offsets) names)
      (device_states (new_source (Some octets)) old) (device_states source new) report
