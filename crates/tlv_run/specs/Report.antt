-- What the program reports at its end: the exit status, the number of findings and the message.
use Rattle.std.specs.Prelude.{◌∷◌, ⊤, ℕ, Bool, true, false, ◌==◌, List, [], ◌++◌, Option, Some, None, Result, Ok, Err}
use Rattle.std.specs.Prelude.{codes, decimal, if◌then◌else◌}
use Rattle.tlv_run.specs.declared.extract_call.Cut.{Cut}
use Rattle.tlv_head.specs.declared.fault.Fault.{Fault}
use Rattle.tlv_head.specs.Fault.{fault_code, fault_text}
use Rattle.tlv_show.specs.declared.outcome.Outcome.{Outcome}
use Rattle.tlv_value.specs.declared.names.fault.NamesFault.{NamesFault}
use Rattle.tlv_value.specs.declared.names.fault.NamesFault.TheVariants as names
use Rattle.tlv_io.specs.Device.{DrainState}
use Rattle.tlv_io.specs.Out.{Sends}
use Rattle.tlv_io.specs.declared.drain.WriteFault.{WriteFault}
use Rattle.tlv_walk.specs.declared.ending.Ending.{Ending}
use Rattle.tlv_walk.specs.declared.ending.Ending.TheVariants as endings
use Rattle.tlv_walk.specs.declared.run.DeviceFault.{DeviceFault}
use Rattle.tlv_walk.specs.declared.run.DeviceFault.TheVariants.{ReadFailed, WriteFailed, InputTooLong}
use Rattle.tlv_run.specs.declared.report.Report.{Report}

-- the message is one line without its line feed, or nothing
pub record ReportValue : Type 0 where
  pub status : ℕ
  pub findings : ℕ
  pub message : List ℕ

abbrev pub report_value_of : Report → ReportValue
report_value_of report = record { status = report.status; findings = report.findings; message = report.message.items }

abbrev pub report_with : ℕ → List ℕ → ReportValue
report_with status message = record { status = status; findings = 0; message = message }

-- ---- the result of an input

-- a fault of the encoding: its offset, its code and its text
abbrev pub fault_line : Fault → List ℕ
fault_line fault =
    codes "fault at " ++ decimal fault.offset ++ codes ": "
    ++ fault_code fault.code ++ codes " " ++ fault_text fault.code

-- a dump or a check: a fault, else the first named offset at which there is no string to read, else the findings. The
-- count of findings is reported with each
abbrev pub outcome_report : Outcome → ReportValue
outcome_report outcome = record (by_case outcome.ending outcome.unused) { findings = outcome.findings }
  where
    by_case : Ending → Option ℕ → ReportValue
    by_case (endings.Fault f) unused = report_with 2 (fault_line f)
    by_case endings.Done (Some offset) = report_with 1 (codes "E7 no string to read at offset " ++ decimal offset)
    by_case endings.Done None =
        if outcome.findings == 0 then report_with 0 []
        else report_with 1 (codes "findings: " ++ decimal outcome.findings)

-- an extract of the element at this offset: a fault, else whether the element was found
abbrev pub cut_report : ℕ → Cut → ReportValue
cut_report offset cut = by_case cut.ending cut.found
  where
    by_case : Ending → Bool → ReportValue
    by_case (endings.Fault f) found = report_with 2 (fault_line f)
    by_case endings.Done false = report_with 1 (codes "E4 no element at offset " ++ decimal offset)
    by_case endings.Done true = report_with 0 []

-- an input written with indefinite lengths: a fault, or nothing
abbrev pub indef_report : Ending → ReportValue
indef_report (endings.Fault f) = report_with 2 (fault_line f)
indef_report endings.Done = report_with 0 []

-- ---- devices

abbrev pub device_report : DeviceFault → ReportValue
device_report ReadFailed = report_with 3 (codes "E1 read failed")
device_report WriteFailed = report_with 3 (codes "E2 write failed")
device_report InputTooLong = report_with 3 (codes "E3 input too long")

-- the final report: about the input, or that a device failed or the input is too long
abbrev pub result_report : Result ReportValue DeviceFault → ReportValue
result_report (Ok report) = report
result_report (Err fault) = device_report fault

-- the file to read does not open
abbrev pub unopened_report : ReportValue
unopened_report = report_with 3 (codes "E5 cannot open the file")

-- ---- the names file

-- a code, the number of a line of the names file, and what is wrong with that line
abbrev pub names_fault_line : List ℕ → ℕ → List ℕ → List ℕ
names_fault_line code line text = code ++ codes " line " ++ decimal line ++ text

abbrev pub names_report : NamesFault → ReportValue
names_report (names.BadOid line) =
    report_with 4 (names_fault_line (codes "N1") line (codes ": not an object identifier"))
names_report (names.BadName line) = report_with 4 (names_fault_line (codes "N2") line (codes ": no usable name"))
names_report (names.Repeated line) = report_with 4 (names_fault_line (codes "N3") line (codes ": repeated"))
names_report names.TooLarge = report_with 4 (codes "N4 names file too large")
names_report names.ReadFailed = report_with 4 (codes "N5 names file not read")
names_report names.Memory = report_with 5 (codes "N6 out of memory")

-- ---- how it is written

-- the message with its line feed; nothing if there is no message
abbrev pub message_line : List ℕ → List ℕ
message_line [] = []
message_line (x ∷ xs) = (x ∷ xs) ++ 10 ∷ []

-- a line was written, or a write failed and the drain took a prefix of it
abbrev pub WritesMessage : List ℕ → DrainState → DrainState → Type 0
WritesMessage line old new = (result : Result ⊤ WriteFault) × Sends old new line result
