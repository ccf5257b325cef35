-- What is shown of a block of the inputs, and what is said about it.
use Rattle.std.specs.Prelude.{◌≡◌, ◌&&◌, ◌||◌, ◌++◌, ⊤, ℕ, Bool, true, false, eqb, not, List, [], ◌∷◌, Option, Some}
use Rattle.std.specs.Prelude.{None, Result, Ok, Err, flat_map, if◌then◌else◌, max, nat_lt}
use Rattle.std.specs.Result.{IsErr, IsOk}
use Rattle.std.specs.Str.{bytes_eq}
use Rattle.tlv_io.specs.Device.{DrainState}
use Rattle.tlv_io.specs.Out.{Sends}
use Rattle.tlv_io.specs.declared.drain.WriteFault.{WriteFault}
use Rattle.tlv_walk.specs.Ending.{IsEnding}
use Rattle.tlv_walk.specs.Reading.{AreOctets}
use Rattle.tlv_walk.specs.declared.ending.Ending.{Ending}
use Rattle.tlv_walk.specs.declared.run.DeviceFault.TheVariants.{WriteFailed}
use Rattle.tlv_value.specs.Names.{NamesValue}
use Rattle.tlv_open.specs.BrokenLine.{broken_line}
use Rattle.tlv_open.specs.Opens.{AreOpened, closed_framing}
use Rattle.tlv_open.specs.declared.strings.BrokenString.{BrokenString}
use Rattle.tlv_text.specs.Blocks.{BlockValue}
use Rattle.tlv_text.specs.declared.block.BlockState.{BlockState}
use Rattle.tlv_text.specs.declared.block.BlockState.TheVariants.{Whole, BeginsAt, MayBePairs, Unended, Ended}
use Rattle.tlv_text.specs.Taken.{TakenValue, has_some}
use Rattle.tlv_run.specs.Report.{ReportValue, device_report, indef_report, report_with}
use Rattle.tlv_view_program.specs.ReadWhole.{input_report}
use Rattle.tlv_view_program.specs.declared.input.InputFault.TheVariants.{Memory}
use Rattle.tlv_view_program.specs.Offsets.{offsets_line}
use Rattle.tlv_view_program.specs.Views.{AreBrokenUnless, Views}
use Rattle.tlv_view_program.specs.declared.view_call.View.{View}
use Rattle.tlv_view_program.specs.declared.view_call.View.TheVariants as view
use Rattle.tlv_view_program.specs.declared.request.Request.{Request}
use Rattle.tlv_view_program.specs.declared.request.Wanted.{Wanted}
use Rattle.tlv_view_program.specs.declared.request.Wanted.TheVariants.{Dump, Check, Extract, Offsets, Raw, Why}
use Rattle.tlv_view_program.specs.declared.reasons.Explained.{Explained}
use Rattle.tlv_view_program.specs.declared.reasons.Explained.TheVariants as what
use Rattle.tlv_view_program.specs.Reasons.{ShowsReasons}
use Rattle.tlv_view_program.specs.WritesReasons.{Outcome, WritesReasons, block_reads, explained_by}
use Rattle.tlv_view_program.specs.InputBlocks.{BlockContents, InputBlockValue}
use Rattle.tlv_view_program.specs.Lines.{MessagePlace, block_line, block_title, placed_line}
use Rattle.tlv_view_program.specs.Notes.{name_by, note_line}
use Rattle.tlv_view_program.specs.Streams.{StreamsValue}

-- ---- what is wanted

-- the view of octets that is wanted; a list of offsets is not a view, nor are the octets themselves, nor reasons
abbrev pub view_of : Wanted → Option View
view_of (Dump rules limit pure text closed names) = Some (view.Dump rules limit pure text)
view_of (Check rules closed) = Some (view.Check rules)
view_of (Extract offset contents) = Some (view.Extract offset contents)
view_of Offsets = None
view_of Raw = None
view_of (Why closed) = None

-- all strings stay closed
abbrev pub stays_closed : Wanted → Bool
stays_closed (Dump rules limit pure text closed names) = closed
stays_closed (Check rules closed) = closed
stays_closed (Why closed) = closed
stays_closed wanted = false

-- each of several blocks has a line before it: in a dump, in a check, and with the reasons
abbrev pub has_titles : Wanted → Bool
has_titles (Dump rules limit pure text closed names) = true
has_titles (Check rules closed) = true
has_titles (Why closed) = true
has_titles wanted = false

-- broken strings are reported: in a dump, in a check, and with the reasons, unless all strings stay closed
abbrev pub reports_broken : Wanted → Bool
reports_broken wanted = has_titles wanted && not (stays_closed wanted)

-- the place of a block: the number of blocks, its number, and whether there are several files
pub record BlockPlace : Type 0 where
  pub number : ℕ
  pub count : ℕ
  pub several_files : Bool

-- the label of a block, or the line of a run of base64
abbrev pub contents_name : BlockContents → List ℕ
contents_name (BlockContents.reported report) = []
contents_name (BlockContents.taken t) = name_by t.taken_for t.block

-- the line before a block
abbrev pub title : Wanted → BlockPlace → InputBlockValue → List ℕ
title wanted p b =
    if has_titles wanted && nat_lt 1 p.count
    then block_line p.number p.count (block_title p.several_files b.file (contents_name b.contents))
    else []

-- what comes before a message that concerns a block
abbrev pub message_place : BlockPlace → InputBlockValue → MessagePlace
message_place p b = record { file = b.file; number = if b.is_one_of_several then Some p.number else None }

-- ---- what is reported

-- the status, or 1 if that is higher and there are broken strings
abbrev pub status_with : ℕ → List BrokenString → ℕ
status_with status [] = status
status_with status (string ∷ strings) = max status 1

-- a text that is not decoded, or not decoded to its end
abbrev pub is_undecoded : BlockState → Bool
is_undecoded Whole = false
is_undecoded (BeginsAt offset) = false
is_undecoded MayBePairs = false
is_undecoded Unended = false
is_undecoded (Ended line) = false
is_undecoded state = true

-- octets that are shown: those of a text that is not decoded are shown if there are any
abbrev pub has_octets : BlockValue → Bool
has_octets b = not (is_undecoded b.state) || has_some b.octets

abbrev pub refused_status : Wanted → ℕ
refused_status Raw = 2
refused_status wanted = 4

-- the status of a block: that of what is shown, or `refused_status` if it is 0 and the text is not decoded to its end
abbrev pub contents_status : Wanted → BlockContents → ℕ → ℕ
contents_status wanted (BlockContents.reported report) status = status
contents_status wanted (BlockContents.taken t) status =
    if is_undecoded t.block.state && eqb status 0 then refused_status wanted else status

-- the report says that a write failed
abbrev pub has_failed_write : ReportValue → Bool
has_failed_write report = bytes_eq report.message (device_report WriteFailed).message

-- the message of a report. There is none if a write failed because nothing reads standard output any more: whatever read
-- it ended by itself, as `head` does, and needs no more
abbrev pub said_message : Bool → ReportValue → List ℕ
said_message reader_gone report = if reader_gone && has_failed_write report then [] else report.message

-- the report on a list of offsets: that it could not be written, or else the fault of the input
abbrev pub offsets_report : Ending → Result ⊤ WriteFault → ReportValue
offsets_report ending (Ok done) = indef_report ending
offsets_report ending (Err fault) = device_report WriteFailed

-- the report on octets that are written as they are
abbrev pub raw_report : Result ⊤ WriteFault → ReportValue
raw_report (Ok done) = report_with 0 []
raw_report (Err fault) = device_report WriteFailed

-- ---- octets

-- what is written and reported of octets, and which strings in them are reported as broken: a line for each case
pub data ShowsOctets (reads : ℕ) (request : Request) (table : NamesValue) (octets : List ℕ) (old new : DrainState)
    : ReportValue → List BrokenString → Type 0 where
  -- a view of them
  shown : (v : View) (report : ReportValue) (broken : List BrokenString) → view_of request.wanted ≡ Some v
      → Views v table (stays_closed request.wanted) request.padding octets old new report
      → AreBrokenUnless (not (reports_broken request.wanted)) request.padding octets broken
      → ShowsOctets reads request table octets old new report broken
  -- the offsets of the strings that are opened; the report has the ending of the octets
  listed : (offsets : List ℕ) (ending : Ending) (result : Result ⊤ WriteFault) → request.wanted ≡ Offsets
      → AreOpened request.padding octets offsets → IsEnding (closed_framing request.padding) octets ending
      → Sends old new (offsets_line offsets) result
      → ShowsOctets reads request table octets old new (offsets_report ending result) []
  -- the octets themselves
  raw : (result : Result ⊤ WriteFault) → request.wanted ≡ Raw → Sends old new octets result
      → ShowsOctets reads request table octets old new (raw_report result) []
  -- whether they parse, and if not, why, and what may be done
  explained : (closed : Bool) (report : ReportValue) (broken : List BrokenString) → request.wanted ≡ Why closed
      → ShowsReasons reads closed request.padding table octets old new report broken
      → ShowsOctets reads request table octets old new report broken
  -- memory is refused, and nothing is written
  no_memory : new ≡ old → ShowsOctets reads request table octets old new (input_report Memory) []

-- ---- blocks

-- what is written and reported of what a block holds: a line for each case
pub data ShowsContents (reads : ℕ) (request : Request) (table : NamesValue) (old new : DrainState)
    : BlockContents → ReportValue → List BrokenString → Type 0 where
  no_block : {report : ReportValue} → new ≡ old
      → ShowsContents reads request table old new (BlockContents.reported report) report []
  no_octets : {t : TakenValue} → has_octets t.block ≡ false → new ≡ old
      → ShowsContents reads request table old new (BlockContents.taken t) (report_with 0 []) []
  octets : {t : TakenValue} {report : ReportValue} {broken : List BrokenString} → has_octets t.block ≡ true
      → ShowsOctets reads request table t.block.octets old new report broken
      → ShowsContents reads request table old new (BlockContents.taken t) report broken

-- what is said about a block before it is shown
abbrev pub contents_note : MessagePlace → BlockContents → List ℕ
contents_note place (BlockContents.reported report) = []
contents_note place (BlockContents.taken t) = note_line place t

-- the same with the line before the block: a line for each case
pub data ShowsTitled (request : Request) (table : NamesValue) (p : BlockPlace) (b : InputBlockValue)
    (old new : DrainState)
    : ReportValue → List BrokenString → Type 0 where
  -- that line cannot be written, and nothing is written after it
  title_failed : (result : Result ⊤ WriteFault) → IsErr result → Sends old new (title request.wanted p b) result
      → ShowsTitled request table p b old new (device_report WriteFailed) []
  titled : (between : DrainState) (result : Result ⊤ WriteFault) (report : ReportValue)
      (broken : List BrokenString) → IsOk result → Sends old between (title request.wanted p b) result
      → ShowsContents (block_reads p.count) request table between new b.contents report broken
      → ShowsTitled request table p b old new report broken

-- ---- reasons

-- what to explain after the messages: nothing if the octets are written as they are, or if reasons are what is shown
abbrev pub explained_in : Wanted → ReportValue → List BrokenString → Explained
explained_in Raw report broken = what.Nothing
explained_in (Why closed) report broken = what.Nothing
explained_in wanted report broken = explained_by (has_failed_write report) report.status broken

-- the octets of a block
abbrev pub octets_of_contents : BlockContents → List ℕ
octets_of_contents (BlockContents.reported report) = []
octets_of_contents (BlockContents.taken t) = t.block.octets

-- the report on the reasons: that memory for them is refused, if it is
abbrev pub reasons_report : Outcome → ReportValue
reasons_report (Ok result) = report_with 0 []
reasons_report (Err error) = input_report Memory

-- ---- all of a block

-- the message of a block, and a line for each broken string
abbrev pub block_messages : MessagePlace → List ℕ → List BrokenString → List ℕ
block_messages place message broken =
    placed_line place message ++ flat_map (λ string. placed_line place (broken_line string)) broken

-- what is shown of a block, what is said before it, and what is said after it. The Bool says whether standard output
-- failed; the last number is the status
pub record ShowsBlock {S : Type 0} (request : Request) (table : NamesValue) (p : BlockPlace) (b : InputBlockValue)
    (old new : StreamsValue S) (failed : Bool) (status : ℕ)
    : Type 0 where
  -- its octets are octets, each below 256
  pub octets : AreOctets (octets_of_contents b.contents)
  -- the note
  pub noted : Result ⊤ WriteFault
  pub after_note : DrainState
  pub notes : Sends old.messages after_note (contents_note (message_place p b) b.contents) noted
  -- what is shown
  pub report : ReportValue
  pub broken : List BrokenString
  pub output : DrainState
  pub shows : ShowsTitled request table p b old.output output report broken
  -- the messages
  pub said : Result ⊤ WriteFault
  pub after_messages : DrainState
  pub says :
      Sends after_note after_messages
      (block_messages (message_place p b) (said_message new.reader_gone report) broken) said
  -- the reasons
  pub outcome : Outcome
  pub after_reasons : DrainState
  pub reasons :
      WritesReasons (block_reads p.count) request.padding (octets_of_contents b.contents) after_messages after_reasons
      (explained_in request.wanted report broken) outcome
  -- the message that memory for the reasons is refused, if it is
  pub told : Result ⊤ WriteFault
  pub tells :
      Sends after_reasons new.messages (block_messages (message_place p b) (reasons_report outcome).message []) told
  pub same : new ≡ record old { output = output; reader_gone = new.reader_gone; messages = new.messages }
  pub failed_is : failed ≡ has_failed_write report
  pub status_is :
      status ≡ max (contents_status request.wanted b.contents (status_with report.status broken))
      (reasons_report outcome).status
