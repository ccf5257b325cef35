-- The result of reading all that a source gives, and what is reported if the input cannot be read into memory.
use Rattle.std.specs.Prelude.{◌≡◌, ℕ, ◌<◌, ◌≤◌, List, length, Result, Ok, Err, codes}
use Rattle.std.specs.List.{concat}
use Rattle.std.specs.Io.KnownBytes.{IsAtEnd}
use Rattle.tlv_io.specs.Device.{Pieces, SourceState, failed, gave, next_count, octets_given}
use Rattle.tlv_walk.specs.declared.run.DeviceFault.TheVariants as device
use Rattle.tlv_run.specs.Report.{ReportValue, device_report, report_with}
use Rattle.tlv_view_program.specs.declared.input.InputFault.{InputFault}
use Rattle.tlv_view_program.specs.declared.input.InputFault.TheVariants.{ReadFailed, TooLong, Memory}

-- the maximum number of octets of an input that is read into memory: 2^32
abbrev pub whole_limit : ℕ
whole_limit = 4294967296

-- the source has ended, and these are the octets that the reads gave
pub record IsWholeInput {old new : SourceState} (pieces : Pieces old new) (octets : List ℕ) : Type 0 where
  pub are_given : octets ≡ octets_given pieces
  pub ended : new.last ≡ gave 0
  pub at_end : IsAtEnd new.left

-- the last read gave some octets, and there is no memory for them, though there are no more than the limit
pub record IsWithoutMemory {old new : SourceState} (pieces : Pieces old new) : Type 0 where
  pub gave_some : 0 < length pieces.last
  pub in_limit : length (octets_given pieces) ≤ whole_limit

-- why reading stopped, for each result
abbrev pub GivesWhole : {old new : SourceState} → Pieces old new → Result (List ℕ) InputFault → Type 0
GivesWhole pieces (Ok octets) = IsWholeInput pieces octets
GivesWhole {old} {new} pieces (Err ReadFailed) = new.last ≡ failed
GivesWhole pieces (Err TooLong) = whole_limit < length (octets_given pieces)
GivesWhole pieces (Err Memory) = IsWithoutMemory pieces

-- the failures of a source: one more if a read failed
abbrev pub input_failures_after : Result (List ℕ) InputFault → ℕ → ℕ
input_failures_after (Err ReadFailed) old = next_count old
input_failures_after _ old = old

-- a source was read until there was a reason to stop: before the last read there was none
pub record ReadsWhole (old new : SourceState) (result : Result (List ℕ) InputFault) : Type 0 where
  pub pieces : Pieces old new
  pub within : length (concat pieces.pieces) ≤ whole_limit
  pub gives : GivesWhole pieces result
  pub failures : new.failures ≡ input_failures_after result old.failures

-- the report for an input that cannot be read into memory
abbrev pub input_report : InputFault → ReportValue
input_report ReadFailed = device_report device.ReadFailed
input_report TooLong =
    report_with 3 (codes "E3 input of more than 4294967296 octets; tlvdump dump reads longer ones")
input_report Memory = report_with 5 (codes "E8 out of memory")
