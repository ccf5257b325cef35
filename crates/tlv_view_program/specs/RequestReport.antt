-- What is reported if the words ask for nothing.
use Rattle.std.specs.Prelude.{[], ◌++◌, codes}
use Rattle.clap.specs.Words.{Text, kind_of}
use Rattle.tlv_run.specs.Report.{ReportValue, report_with}
use Rattle.tlv_program.specs.Usage.{status_of_kind}
use Rattle.tlv_view_program.specs.declared.refusal.Refusal.{Refusal}
use Rattle.tlv_view_program.specs.declared.refusal.Refusal.TheVariants.{ContentsAlone, FormValue, LimitValue, NotWith}
use Rattle.tlv_view_program.specs.declared.refusal.Refusal.TheVariants.{OffsetValue, RulesValue, SeveralFiles}
use Rattle.tlv_view_program.specs.declared.refusal.RequestFault.{RequestFault}
use Rattle.tlv_view_program.specs.declared.refusal.RequestFault.TheVariants as fault
use Rattle.tlv_view_program.specs.declared.refusal.ShowOption.{ShowOption}
use Rattle.tlv_view_program.specs.declared.refusal.ShowOption.TheVariants.{Check, Closed, Contents, Limit, Names}
use Rattle.tlv_view_program.specs.declared.refusal.ShowOption.TheVariants.{NoText, Offset, Offsets, Pure, Raw, Rules, Why}

-- the option as it is written
abbrev pub option_spelling : ShowOption → Text
option_spelling Check = codes "--check"
option_spelling Offset = codes "--offset"
option_spelling Contents = codes "--contents"
option_spelling Offsets = codes "--offsets"
option_spelling Raw = codes "--raw"
option_spelling Why = codes "--why"
option_spelling Rules = codes "--rules"
option_spelling Limit = codes "--limit"
option_spelling Pure = codes "--pure"
option_spelling Names = codes "--names"
option_spelling Closed = codes "--closed"
option_spelling NoText = codes "--no-text"

abbrev pub refusal_message : Refusal → Text
refusal_message RulesValue = codes "U2 value out of range: --rules (ber, der or cer)"
refusal_message LimitValue = codes "U2 value out of range: --limit (0 to 4294967295)"
refusal_message OffsetValue = codes "U2 value out of range: --offset (0 to 1099511627776)"
refusal_message FormValue =
    codes "U2 value out of range: --as (octets, pem, dump, hex, numbers, base64 or runs)"
refusal_message (NotWith asked option) =
    codes "U4 not with " ++ option_spelling asked ++ codes ": " ++ option_spelling option
refusal_message ContentsAlone = codes "U4 only with --offset: --contents"
refusal_message (SeveralFiles asked) = codes "U4 one FILE with " ++ option_spelling asked

-- the report. It contains nothing of `clap`'s text for refused words, for help, or for the version
abbrev pub request_report : RequestFault → ReportValue
request_report (fault.Parser error) = report_with (status_of_kind (kind_of error)) []
request_report (fault.Refused refusal) = report_with 4 (refusal_message refusal)
request_report fault.Memory = report_with 5 (codes "U3 out of memory")
