use Rattle.std.proofs.Common.{◌≡◌, List, rules, refl}
use Rattle.std.specs.Prelude.{Result, Err}
use Rattle.clap.specs.Words.{Text}
use Rattle.tlv_run.specs.Report.{ReportValue, report_value_of}
use Rattle.tlv_program.specs.Usage.{not_utf8_report, usage_report}
use Rattle.tlv_program.specs.declared.usage.UsageFault.TheVariants as usage
use Rattle.tlv_program.specs.System.{Allows}
use Rattle.tlv_program.specs.RunsProgram.{ProgramStates, RunsProgram, no_memory, not_utf8, refused, runs}
use Rattle.tlv_program.specs.declared.program.NoWords.{NoWords}
use Rattle.tlv_program.specs.declared.program.NoWords.TheVariants.{NotUtf8, Memory}
use Rattle.tlv_program.proofs.program.run_program.Goals as goal

module _ {S : Type 0} (allows : Allows S) (states : ProgramStates S) where
  -- nothing is done, and this is reported
  without_words : (words : Result (List Text) NoWords) (why : NoWords) (report : ReportValue) → words ≡ Err why
      → RunsProgram allows states states (Err why) report → RunsProgram allows states states words report
  without_words words why report is x = rw is x

pub returns-in-Err-NotUtf8 : goal.returns-in-Err-NotUtf8
returns-in-Err-NotUtf8 g c =
    rw c.not_utf8_report.ensures
    (without_words g.S.System.allows _ c.args.words.now NotUtf8 not_utf8_report (search rules) (not_utf8 refl))

pub returns-in-Err-Memory : goal.returns-in-Err-Memory
returns-in-Err-Memory g c =
    rw c.usage_report.ensures
    (without_words g.S.System.allows _ c.args.words.now Memory (usage_report usage.Memory) (search rules)
    (no_memory refl))

pub returns-in-Ok-command_of : goal.returns-in-Ok-command_of
returns-in-Ok-command_of g c =
    rw c.in-Ok.is
    (runs c.in-Ok.words c.in-Ok-command_of.command (report_value_of c.run_command.result)
    c.in-Ok-command_of.ensures.ok c.run_command.ensures)

pub returns-in-Err : goal.returns-in-Err
returns-in-Err g c =
    rw (c.in-Ok.is, c.refusal_report.ensures)
    (refused c.in-Ok.words c.in-Err.fault c.print_if_parser-printed.result c.in-Err.ensures.err
    c.print_if_parser-printed.ensures refl)
