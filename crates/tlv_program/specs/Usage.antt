-- What the program reports if there is no command to run.
use Rattle.std.specs.Prelude.{ℕ, [], ◌++◌, codes, take}
use Rattle.clap.specs.Words.{kind_of}
use Rattle.clap.specs.declared.error.kind.ErrorKind.{ErrorKind}
use Rattle.clap.specs.declared.error.kind.ErrorKind.TheVariants as kind
use Rattle.tlv_run.specs.Report.{ReportValue, device_report, report_with}
use Rattle.tlv_walk.specs.declared.run.DeviceFault.TheVariants.{WriteFailed}
use Rattle.tlv_program.specs.declared.usage.UsageFault.{UsageFault}
use Rattle.tlv_program.specs.declared.usage.UsageFault.TheVariants as usage

-- 0 if the words ask for help or for the version
abbrev pub status_of_kind : ErrorKind → ℕ
status_of_kind kind.DisplayHelp = 0
status_of_kind kind.DisplayVersion = 0
status_of_kind _ = 4

-- the report. It contains nothing of `clap`'s text for refused words, for help, or for the version
abbrev pub usage_report : UsageFault → ReportValue
usage_report (usage.Parser error) = report_with (status_of_kind (kind_of error)) []
usage_report (usage.Value option) = report_with 4 (codes "U2 value out of range: " ++ take 64 option.now)
usage_report usage.Memory = report_with 5 (codes "U3 out of memory")

-- a word is not UTF-8
abbrev pub not_utf8_report : ReportValue
not_utf8_report = report_with 4 (codes "U1 an argument is not UTF-8")

-- help or the version could not be written
abbrev pub unprinted_report : ReportValue
unprinted_report = device_report WriteFailed
