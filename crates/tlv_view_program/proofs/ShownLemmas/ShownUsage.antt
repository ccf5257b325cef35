-- What is reported before any block is shown is printable ASCII: of words, of names, and of streams.
use Rattle.std.proofs.Common.{ℕ, Bool, true, false, List, [], ◌∷◌, refl}
use Rattle.std.specs.Prelude.{if◌then◌else◌, not}
use Rattle.std.proofs.lemmas.List.Folds.{list_all-append}
use Rattle.tlv_walk.specs.declared.run.DeviceFault.TheVariants.{WriteFailed}
use Rattle.tlv_value.specs.declared.names.fault.NamesFault.{NamesFault}
use Rattle.tlv_value.specs.declared.names.fault.NamesFault.TheVariants as names
use Rattle.tlv_run.specs.Report.{message_line, names_report}
use Rattle.tlv_reasons.specs.Laws.{AreShown}
use Rattle.tlv_reasons.proofs.ShownLemmas.ShownValues.{decimal-shown}
use Rattle.tlv_program.specs.Usage.{unprinted_report}
use Rattle.tlv_view_program.specs.RequestReport.{option_spelling, refusal_message, request_report}
use Rattle.tlv_view_program.specs.declared.refusal.Refusal.{Refusal}
use Rattle.tlv_view_program.specs.declared.refusal.Refusal.TheVariants.{ContentsAlone, FormValue, LimitValue, NotWith}
use Rattle.tlv_view_program.specs.declared.refusal.Refusal.TheVariants.{OffsetValue, RulesValue, SeveralFiles}
use Rattle.tlv_view_program.specs.declared.refusal.RequestFault.{RequestFault}
use Rattle.tlv_view_program.specs.declared.refusal.RequestFault.TheVariants as fault
use Rattle.tlv_view_program.specs.declared.refusal.ShowOption.{ShowOption}
use Rattle.tlv_view_program.specs.declared.refusal.ShowOption.TheVariants.{Check, Closed, Contents, Limit, Names}
use Rattle.tlv_view_program.specs.declared.refusal.ShowOption.TheVariants.{NoText, Offset, Offsets, Pure, Raw, Rules, Why}
use Rattle.tlv_view_program.specs.Lines.{no_names_note}
use Rattle.tlv_view_program.specs.ShowsAll.{asks_for_help, note_of_input, refused_report}
use Rattle.tlv_view_program.proofs.ShownLemmas.ShownReports.{IsShownReport, device_report-shown}

pub message_line-shown : (message : List ℕ) → AreShown message → AreShown (message_line message)
message_line-shown [] shown = refl
message_line-shown (x ∷ message) shown = simp (list_all-append, shown)

-- ---- names

pub names_report-shown : (fault : NamesFault) → IsShownReport (names_report fault)
names_report-shown (names.BadOid line) = simp (list_all-append, decimal-shown)
names_report-shown (names.BadName line) = simp (list_all-append, decimal-shown)
names_report-shown (names.Repeated line) = simp (list_all-append, decimal-shown)
names_report-shown names.TooLarge = refl
names_report-shown names.ReadFailed = refl
names_report-shown names.Memory = refl

pub names_note-shown : (noted : Bool) → AreShown (if noted then no_names_note else [])
names_note-shown true = refl
names_note-shown false = refl

pub input_note-shown : (typed : Bool) (files : List (List ℕ)) → AreShown (note_of_input typed files)
input_note-shown true [] = refl
input_note-shown false [] = refl
input_note-shown typed (file ∷ files) = refl

-- ---- words

spelling-shown : (option : ShowOption) → AreShown (option_spelling option)
spelling-shown Check = refl
spelling-shown Offset = refl
spelling-shown Contents = refl
spelling-shown Offsets = refl
spelling-shown Raw = refl
spelling-shown Why = refl
spelling-shown Rules = refl
spelling-shown Limit = refl
spelling-shown Pure = refl
spelling-shown Names = refl
spelling-shown Closed = refl
spelling-shown NoText = refl

refusal-shown : (refusal : Refusal) → AreShown (refusal_message refusal)
refusal-shown RulesValue = refl
refusal-shown LimitValue = refl
refusal-shown OffsetValue = refl
refusal-shown FormValue = refl
refusal-shown (NotWith asked option) = simp (list_all-append, spelling-shown)
refusal-shown ContentsAlone = refl
refusal-shown (SeveralFiles asked) = simp (list_all-append, spelling-shown)

pub request_report-shown : (why : RequestFault) → IsShownReport (request_report why)
request_report-shown (fault.Parser error) = refl
request_report-shown (fault.Refused refusal) = refusal-shown refusal
request_report-shown fault.Memory = refl

pub refused_report-shown : (why : RequestFault) (printed : Bool) → IsShownReport (refused_report why printed)
refused_report-shown why true = request_report-shown why
refused_report-shown why false = by_help (asks_for_help why)
  where
    by_help : (asks : Bool) → IsShownReport (if not asks then request_report why else unprinted_report)
    by_help true = device_report-shown WriteFailed
    by_help false = request_report-shown why
