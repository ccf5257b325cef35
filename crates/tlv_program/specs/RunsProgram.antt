-- What the program does, from the words of its command line to the report, and in which order.
use Rattle.std.specs.Prelude.{◌≡◌, ◌||◌, ℕ, Bool, true, false, eqb, not, List, Some, None, Result, Ok, Err}
use Rattle.std.specs.Prelude.{if◌then◌else◌}
use Rattle.std.specs.FinMap as finite
use Rattle.clap.specs.Words.{Text, kind_of}
use Rattle.tlv_io.specs.Device.{DrainState, SourceState}
use Rattle.tlv_walk.specs.Job.{DeviceStates, device_states}
use Rattle.tlv_value.specs.Names.{NamesValue}
use Rattle.tlv_value.specs.NamesReading.{ReadsFrom}
use Rattle.tlv_value.specs.declared.names.fault.NamesFault.{NamesFault}
use Rattle.tlv_value.specs.declared.names.fault.NamesFault.TheVariants as names
use Rattle.tlv_run.specs.CommandFiles.{file_of, names_file_of}
use Rattle.tlv_run.specs.Report.{ReportValue, names_report, unopened_report}
use Rattle.tlv_run.specs.Results.{command_job}
use Rattle.tlv_run.specs.RunsAndReports.{RunsAndReports}
use Rattle.tlv_run.specs.declared.command.Command.{Command}
use Rattle.tlv_program.specs.CommandOf.{AreReadAs, IsUsageFaultOf}
use Rattle.tlv_program.specs.Usage.{not_utf8_report, status_of_kind, unprinted_report, usage_report}
use Rattle.tlv_program.specs.declared.usage.UsageFault.{UsageFault}
use Rattle.tlv_program.specs.declared.usage.UsageFault.TheVariants as usage
use Rattle.tlv_program.specs.System.{Allows, IsUnread}
use Rattle.tlv_program.specs.declared.program.NoWords.{NoWords}
use Rattle.tlv_program.specs.declared.system.OpenFault.{OpenFault}
use Rattle.tlv_program.specs.declared.program.NoWords.TheVariants.{NotUtf8, Memory}

-- what the program works with, before or after it runs: the system, standard input and standard output
pub record ProgramStates (S : Type 0) : Type 0 where
  pub system : S
  pub standard : DeviceStates

-- the states of a program with these
abbrev pub program_states : {S : Type 0} → S → SourceState → DrainState → ProgramStates S
program_states system input output = record { system = system; standard = device_states input output }

-- the words ask for help or for the version, which `clap` prints
abbrev pub asks_for_text : UsageFault → Bool
asks_for_text (usage.Parser error) = eqb (status_of_kind (kind_of error)) 0
asks_for_text fault = false

-- the report if there is no command to run: E2 if the words ask for what `clap` has to say, and it is not printed
abbrev pub refusal_report : UsageFault → Bool → ReportValue
refusal_report fault printed =
    if printed || not (asks_for_text fault) then usage_report fault else unprinted_report

module _ {S : Type 0} (allows : Allows S) where
  -- what `clap` has to say is printed, or cannot be; for another fault nothing is printed here
  abbrev pub PrintsIfParser : S → S → UsageFault → Bool → Type 0
  PrintsIfParser old new (usage.Parser error) printed = allows.prints old new error printed
  PrintsIfParser old new fault printed = (new ≡ old) × (printed ≡ true)

  -- the names for object identifiers that a command asks for, or why there are none: a line for each case
  pub data GetsNames (command : Command) (old new : S) : Result NamesValue NamesFault → Type 0 where
    -- the command asks for no names
    not_asked : names_file_of command ≡ None → new ≡ old → GetsNames command old new (Ok finite.empty)
    -- the names file does not open
    unopened : (name : List ℕ) (why : OpenFault) → names_file_of command ≡ Some name
        → allows.opens old new name (Err why) → GetsNames command old new (Err names.ReadFailed)
    -- the names file is opened and read, and given back in the state after that
    read : (name : List ℕ) (between : S) (before after : SourceState) (result : Result NamesValue NamesFault)
        → names_file_of command ≡ Some name → allows.opens old between name (Ok before) → IsUnread before
        → ReadsFrom before after result → allows.closes between new after
        → GetsNames command old new result

  -- a command is run over its input, with these names, and this is reported: a line for each case
  pub data RunsOverInput (command : Command) (table : NamesValue) (old new : ProgramStates S)
      : ReportValue → Type 0 where
    -- the input is standard input
    standard_input : (report : ReportValue) → file_of command ≡ None → new.system ≡ old.system
        → RunsAndReports (command_job command table) old.standard new.standard report
        → RunsOverInput command table old new report
    -- the file does not open, and nothing is read or written
    unopened : (name : List ℕ) (why : OpenFault) → file_of command ≡ Some name
        → allows.opens old.system new.system name (Err why) → new.standard ≡ old.standard → RunsOverInput command table old new unopened_report
    -- the input is the file, which is opened, and given back in the state after the run; standard input is not read
    file : (name : List ℕ) (between : S) (before after : SourceState) (report : ReportValue)
        → file_of command ≡ Some name → allows.opens old.system between name (Ok before) → IsUnread before
        → new.standard.source ≡ old.standard.source
        → RunsAndReports (command_job command table) (device_states before old.standard.drain)
        (device_states after new.standard.drain) report
        → allows.closes between new.system after
        → RunsOverInput command table old new report

  -- a command is run, and this is reported: it first gets its names, and then runs over its input
  pub data RunsCommand (command : Command) (old new : ProgramStates S) : ReportValue → Type 0 where
    -- there are no names: the file is not opened, and nothing is read or written
    no_names : (fault : NamesFault) → GetsNames command old.system new.system (Err fault)
        → new.standard ≡ old.standard → RunsCommand command old new (names_report fault)
    runs : (between : S) (table : NamesValue) (report : ReportValue)
        → GetsNames command old.system between (Ok table)
        → RunsOverInput command table (record old { system = between }) new report
        → RunsCommand command old new report

  -- the program runs on these words, or on the reason why there are none, and this is reported: a line for each case
  pub data RunsProgram (old new : ProgramStates S) : Result (List Text) NoWords → ReportValue → Type 0 where
    -- a word is not UTF-8: nothing is done
    not_utf8 : new ≡ old → RunsProgram old new (Err NotUtf8) not_utf8_report
    -- memory for the words is refused: nothing is done
    no_memory : new ≡ old → RunsProgram old new (Err Memory) (usage_report usage.Memory)
    -- there is no command to run: no file is opened, and nothing is read or written
    refused : (words : List Text) (fault : UsageFault) (printed : Bool) → IsUsageFaultOf words fault
        → PrintsIfParser old.system new.system fault printed → new.standard ≡ old.standard
        → RunsProgram old new (Ok words) (refusal_report fault printed)
    runs : (words : List Text) (command : Command) (report : ReportValue) → AreReadAs words (Ok command)
        → RunsCommand command old new report → RunsProgram old new (Ok words) report
