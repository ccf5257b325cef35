-- What is said after a block that is shown is printable ASCII.
use Rattle.std.proofs.Common.{ℕ, Bool, true, false, List, [], ◌∷◌, Result, Ok, Err, refl}
use Rattle.std.specs.Prelude.{◌&&◌, ⊤, flat_map, if◌then◌else◌}
use Rattle.tlv_io.specs.Device.{DrainState}
use Rattle.tlv_io.specs.declared.drain.WriteFault.{WriteFault}
use Rattle.tlv_walk.specs.declared.ending.Ending.{Ending}
use Rattle.tlv_walk.specs.declared.run.DeviceFault.TheVariants.{WriteFailed}
use Rattle.tlv_value.specs.Names.{NamesValue}
use Rattle.tlv_open.specs.BrokenLine.{broken_line}
use Rattle.tlv_open.specs.declared.strings.BrokenString.{BrokenString}
use Rattle.tlv_run.specs.Report.{ReportValue}
use Rattle.tlv_view_program.specs.declared.input.InputFault.TheVariants as input
use Rattle.tlv_view_program.specs.declared.request.Request.{Request}
use Rattle.tlv_reasons.specs.Laws.{AreShown}
use Rattle.tlv_reasons.proofs.ShownLemmas.ShownValues.{broken_line-shown}
use Rattle.tlv_view_program.specs.InputBlocks.{BlockContents, InputBlockValue}
use Rattle.tlv_view_program.specs.Lines.{MessagePlace, placed_line}
use Rattle.tlv_view_program.specs.ShowsBlock.{BlockPlace, ShowsContents, ShowsOctets, ShowsTitled, block_messages}
use Rattle.tlv_view_program.specs.ShowsBlock.{has_failed_write, offsets_report, raw_report, said_message}
use Rattle.tlv_view_program.specs.ShownLines.{HasShownReport, MessagesAreShown}
use Rattle.tlv_view_program.proofs.ShownLemmas.ShownLabels.{joined-shown}
use Rattle.tlv_view_program.proofs.ShownLemmas.ShownNotes.{placed-shown}
use Rattle.tlv_view_program.proofs.ShownLemmas.ShownReasons.{reasons_report-shown}
use Rattle.tlv_view_program.proofs.ShownLemmas.ShownReports.{IsShownReport, device_report-shown}
use Rattle.tlv_view_program.proofs.ShownLemmas.ShownReports.{indef_report-shown, input_report-shown, views-shown}

-- ---- what is reported

offsets_report-shown : (e : Ending) (result : Result ⊤ WriteFault) → IsShownReport (offsets_report e result)
offsets_report-shown e (Ok done) = indef_report-shown e
offsets_report-shown e (Err fault) = device_report-shown WriteFailed

raw_report-shown : (result : Result ⊤ WriteFault) → IsShownReport (raw_report result)
raw_report-shown (Ok done) = refl
raw_report-shown (Err fault) = device_report-shown WriteFailed

module _ (request : Request) (table : NamesValue) where
  octets_report-shown : {reads : ℕ} (octets : List ℕ) (old new : DrainState) (report : ReportValue) (broken : List BrokenString)
      → ShowsOctets reads request table octets old new report broken → IsShownReport report
  octets_report-shown octets old new _ _ (ShowsOctets.shown v report broken is views are) =
      views-shown v table _ _ octets old new report views
  octets_report-shown octets old new _ _ (ShowsOctets.listed offsets e result is are ends sends) =
      offsets_report-shown e result
  octets_report-shown octets old new _ _ (ShowsOctets.raw result is sends) = raw_report-shown result
  octets_report-shown octets old new _ _ (ShowsOctets.explained closed report broken is shows) =
      reasons_report-shown closed _ table octets old new report broken shows
  octets_report-shown octets old new _ _ (ShowsOctets.no_memory same) = input_report-shown input.Memory

  contents_report-shown : {reads : ℕ} (old new : DrainState) (contents : BlockContents) (report : ReportValue)
      (broken : List BrokenString)
      → HasShownReport contents → ShowsContents reads request table old new contents report broken → IsShownReport report
  contents_report-shown old new _ _ _ has (ShowsContents.no_block {report} same) = has
  contents_report-shown old new _ _ _ has (ShowsContents.no_octets {t} none same) = refl
  contents_report-shown old new _ _ _ has (ShowsContents.octets {t} {report} {broken} some shows) =
      octets_report-shown t.block.octets old new report broken shows

  titled_report-shown : (p : BlockPlace) (b : InputBlockValue) (old new : DrainState) (report : ReportValue)
      (broken : List BrokenString)
      → HasShownReport b.contents → ShowsTitled request table p b old new report broken → IsShownReport report
  titled_report-shown p b old new _ _ has (ShowsTitled.title_failed result failed sends) =
      device_report-shown WriteFailed
  titled_report-shown p b old new _ _ has (ShowsTitled.titled between result report broken sent sends shows) =
      contents_report-shown between new b.contents report broken has shows

-- ---- lines

placed_line-shown : (place : MessagePlace) (message : List ℕ) → AreShown message
    → AreShown (placed_line place message)
placed_line-shown place [] shown = refl
placed_line-shown place (x ∷ message) shown = placed-shown place (x ∷ message) shown

broken_lines-shown : (place : MessagePlace) (broken : List BrokenString)
    → AreShown (flat_map (λ (s : BrokenString). placed_line place (broken_line s)) broken)
broken_lines-shown place [] = refl
broken_lines-shown place (s ∷ broken) =
    joined-shown (placed_line place (broken_line s)) _ (placed_line-shown place (broken_line s) (broken_line-shown s))
    (broken_lines-shown place broken)

pub block_messages-shown : (place : MessagePlace) (message : List ℕ) (broken : List BrokenString) → AreShown message
    → AreShown (block_messages place message broken)
block_messages-shown place message broken shown =
    joined-shown (placed_line place message) _ (placed_line-shown place message shown)
    (broken_lines-shown place broken)

-- a message that may be left out
said-shown : (left_out : Bool) (message : List ℕ) → AreShown message → AreShown (if left_out then [] else message)
said-shown true message shown = refl
said-shown false message shown = shown

pub messages-shown : MessagesAreShown
messages-shown request table p b old new report broken place reader_gone has shows =
    block_messages-shown place (said_message reader_gone report) broken
    (said-shown (reader_gone && has_failed_write report) report.message
    (titled_report-shown request table p b old new report broken has shows))
