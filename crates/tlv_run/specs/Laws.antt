-- Laws of the results of commands.
use Rattle.std.specs.Prelude.{◌≡◌, ℕ, ◌^◌, ◌≤◌, Bool, List, ◌++◌, length, Option, ◌↔◌, ◌<◌, ◌-◌, Some, false}
use Rattle.std.specs.Io.KnownBytes.{Appends}
use Rattle.tlv_value.specs.Names.{NamesValue}
use Rattle.tlv_walk.specs.declared.ending.Ending.TheVariants.{Done}
use Rattle.tlv_io.specs.Device.{SourceState}
use Rattle.tlv_walk.specs.Job.{DeviceStates, IsSettled}
use Rattle.tlv_walk.specs.Reading.{AreOctets, IsPrefixOf, IsSoundList}
use Rattle.tlv_run.specs.Report.{ReportValue}
use Rattle.tlv_run.specs.Results.{CommandResult, IsResult, command_job}
use Rattle.tlv_run.specs.RunsAndReports.{RunsAndReports}
use Rattle.tlv_run.specs.declared.command.Command.{Command}
use Rattle.tlv_run.specs.declared.command.Command.TheVariants.{Indef}
use Rattle.tlv_head.specs.Limits.{input_limit}

-- an input has exactly one result
abbrev pub InputsHaveOneResult : Type 0
InputsHaveOneResult =
    (command : Command) (names : NamesValue) (b : List ℕ) → AreOctets b
    → (made : CommandResult)
    × IsResult (command_job command names) b made
    × ((other : CommandResult) → IsResult (command_job command names) b other → other ≡ made)

-- after a fault other than F01 and F02, or when `extract` has its whole element, the result stays, whatever follows
abbrev pub SettledResultsStay : Type 0
SettledResultsStay =
    (command : Command) (names : NamesValue) (b c : List ℕ) (made : CommandResult) → AreOctets (b ++ c)
    → (x : IsResult (command_job command names) b made) → IsSettled (command_job command names) x.reading made.ending
    → IsResult (command_job command names) (b ++ c) made

-- what is written for an input of at most 2^40 octets begins with what is written for a prefix of the input
abbrev pub OutputsGoOn : Type 0
OutputsGoOn =
    (command : Command) (names : NamesValue) (b c : List ℕ) (made more : CommandResult) → length (b ++ c) ≤ input_limit
    → IsResult (command_job command names) b made → IsResult (command_job command names) (b ++ c) more
    → IsPrefixOf made.output more.output

-- when `indef` reads its own output, it writes it unchanged; and if the input ended without a fault, so does the
-- output
abbrev pub SecondIndefIsTheFirst : Type 0
SecondIndefIsTheFirst =
    (padding : Bool) (file : Option (List ℕ)) (names : NamesValue) (b : List ℕ) (made again : CommandResult)
    → let job = command_job (Indef padding file) names in IsResult job b made → IsResult job made.output again
    → (again.output ≡ made.output) × (made.ending ≡ Done → again ≡ made)

-- the source has these octets left, at most 2^40
pub record HasInput (source : SourceState) (octets : List ℕ) : Type 0 where
  pub are_octets : AreOctets octets
  pub limit : length octets ≤ input_limit
  pub left_is : source.left ≡ Some octets

-- neither device counted a failure, and each could have: its count was below the maximum
pub record FailsNowhere (old new : DeviceStates) : Type 0 where
  pub can_count_failed_read : old.source.failures < 2 ^ 64 - 1
  pub no_failed_read : new.source.failures ≡ old.source.failures
  pub can_count_failed_write : old.drain.failures < 2 ^ 64 - 1
  pub no_failed_write : new.drain.failures ≡ old.drain.failures

-- the effect of a run on a source that knows its octets, if neither device fails: the result of these octets
abbrev pub RunsAreResults : Type 0
RunsAreResults =
    (command : Command) (names : NamesValue) (octets : List ℕ)
    (old new : DeviceStates) (report : ReportValue)
    → HasInput old.source octets → FailsNowhere old new
    → RunsAndReports (command_job command names) old new report
    → (made : CommandResult)
    × IsResult (command_job command names) octets made
    × Appends old.drain.octets new.drain.octets made.output
    × (report ≡ made.report)

-- if no element is asked for, or it is not whole, the status is 2 if and only if the input is not a sound list of
-- encodings
abbrev pub StatusesShowSoundness : Type 0
StatusesShowSoundness =
    (command : Command) (names : NamesValue) (b : List ℕ) (made : CommandResult)
    → (x : IsResult (command_job command names) b made)
    → let job = command_job command names in job.is_enough x.reading ≡ false
    → (made.report.status ≡ 2) ↔ (IsSoundList job.framing b → ⊥)
