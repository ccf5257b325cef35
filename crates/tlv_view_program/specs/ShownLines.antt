-- Nothing raw: whatever the inputs have, what the program says is printable ASCII, in lines.
use Rattle.std.specs.Prelude.{◌≡◌, ℕ, Bool, true, false, List, All, Option, Some, Result, Ok}
use Rattle.std.specs.FinMap as finite
use Rattle.std.specs.Io.KnownBytes.{Appends}
use Rattle.clap.specs.Words.{Text}
use Rattle.tlv_io.specs.Device.{DrainState}
use Rattle.tlv_walk.specs.Reading.{AreOctets}
use Rattle.tlv_value.specs.Names.{NamesValue, names_of}
use Rattle.tlv_show.specs.declared.rules.Rules.{Rules}
use Rattle.tlv_open.specs.declared.strings.BrokenString.{BrokenString}
use Rattle.tlv_text.specs.declared.text_fault.TextFault.{TextFault}
use Rattle.tlv_text.specs.Taken.{TakenValue}
use Rattle.tlv_run.specs.Report.{ReportValue}
use Rattle.tlv_view_program.specs.Views.{Views}
use Rattle.tlv_view_program.specs.declared.view_call.View.TheVariants as view
use Rattle.tlv_reasons.specs.Laws.{AreShown}
use Rattle.tlv_program.specs.System.{Allows}
use Rattle.tlv_program.specs.declared.program.NoWords.{NoWords}
use Rattle.tlv_view_program.specs.declared.request.InputForm.{InputForm}
use Rattle.tlv_view_program.specs.declared.request.Request.{Request}
use Rattle.tlv_view_program.specs.declared.request.Wanted.{Wanted}
use Rattle.tlv_view_program.specs.declared.request.Wanted.TheVariants.{Extract, Raw}
use Rattle.tlv_view_program.specs.InputBlocks.{BlockContents, InputBlockValue, TakesInput, blocks_taken}
use Rattle.tlv_view_program.specs.Lines.{MessagePlace}
use Rattle.tlv_view_program.specs.Notes.{note_line}
use Rattle.tlv_view_program.specs.Reasons.{ReportsFindings, ShowsReasons, findings_line}
use Rattle.tlv_view_program.specs.ShowsAll.{RunsShow, ShowsRequest}
use Rattle.tlv_view_program.specs.ShowsBlock.{BlockPlace, ShowsTitled, block_messages, said_message, title}
use Rattle.tlv_view_program.specs.Streams.{StreamsValue}

-- ---- lines

-- the notes on what an input is taken for, whatever it has, and whatever form is requested. The base64 in which texts
-- are written and the names of files are arbitrary
abbrev pub NotesAreShown : Type 0
NotesAreShown =
    (form : InputForm) (octets : List ℕ) (taken : List TakenValue) (place : MessagePlace)
    → TakesInput form octets (Ok taken) → All (λ t. AreShown (note_line place t)) taken

-- the lines before the blocks of such an input, with their labels and the names of files
abbrev pub TitlesAreShown : Type 0
TitlesAreShown =
    (form : InputForm) (octets : List ℕ) (result : Result (List TakenValue) TextFault) (file : Option (List ℕ))
    (wanted : Wanted) (p : BlockPlace)
    → TakesInput form octets result → All (λ b. AreShown (title wanted p b)) (blocks_taken file result)

-- the report on a file that gives no block
abbrev pub HasShownReport : BlockContents → Type 0
HasShownReport (BlockContents.reported report) = AreShown report.message
HasShownReport (BlockContents.taken t) = Unit {0}

-- what is said after a block that is shown, whatever the block holds
abbrev pub MessagesAreShown : Type 0
MessagesAreShown =
    (request : Request) (table : NamesValue) (p : BlockPlace) (b : InputBlockValue) (old new : DrainState)
    (report : ReportValue) (broken : List BrokenString) (place : MessagePlace) (reader_gone : Bool)
    → HasShownReport b.contents → ShowsTitled request table p b old new report broken
    → AreShown (block_messages place (said_message reader_gone report) broken)

-- the line of the findings in octets that parse
abbrev pub FindingsLinesAreShown : Type 0
FindingsLinesAreShown =
    (first second : Rules) (closed padding : Bool) (table : NamesValue) (octets : List ℕ) (ber der : ReportValue)
    → ReportsFindings first closed padding table octets ber → ReportsFindings second closed padding table octets der
    → AreShown (findings_line ber.message der.message)

-- ---- streams

-- what a drain took after what it had, if it knows its octets
pub record TakesShown (old new : DrainState) : Type 0 where
  pub text : List ℕ
  pub shown : AreShown text
  pub takes : Appends old.octets new.octets text

-- all that is written about octets with `--why`
abbrev pub ReasonsAreShown : Type 0
ReasonsAreShown =
    (reads : ℕ) (closed padding : Bool) (table : NamesValue) (octets : List ℕ) (old new : DrainState) (report : ReportValue)
    (broken : List BrokenString)
    → AreOctets octets → ShowsReasons reads closed padding table octets old new report broken → TakesShown old new

-- the names of object identifiers are printable ASCII
abbrev pub HasShownNames : NamesValue → Type 0
HasShownNames table = (dotted name : List ℕ) → finite.get table dotted ≡ Some name → AreShown name

-- so are the names in a names file
abbrev pub NamesAreShown : Type 0
NamesAreShown = (octets : List ℕ) (table : NamesValue) → names_of octets ≡ Ok table → HasShownNames table

-- all that a dump with such names writes about octets, whatever the octets are, and whether they parse or not
abbrev pub DumpsAreShown : Type 0
DumpsAreShown =
    (rules : Rules) (limit : Option ℕ) (pure with_text closed padding : Bool) (table : NamesValue) (octets : List ℕ)
    (old new : DrainState) (report : ReportValue)
    → AreOctets octets → HasShownNames table
    → Views (view.Dump rules limit pure with_text) table closed padding octets old new report → TakesShown old new

-- what is wanted is lines, and not octets as they are
abbrev pub wants_lines : Wanted → Bool
wants_lines (Extract offset contents) = false
wants_lines Raw = false
wants_lines wanted = true

-- all that is written to standard output if lines are wanted, whatever the names and the inputs are
abbrev pub OutputsAreShown : {S : Type 0} → Allows S → Type 0
OutputsAreShown {S} allows =
    (places : List (List ℕ)) (typed : Bool) (request : Request) (old new : StreamsValue S) (status : ℕ)
    → wants_lines request.wanted ≡ true → ShowsRequest allows places typed request old new status
    → TakesShown old.output new.output

-- all that a run of the program writes to standard error, whatever the words, the names and the inputs are. What `clap`
-- has to say about words is not written there: the system prints it
abbrev pub RunsAreShown : {S : Type 0} → Allows S → Type 0
RunsAreShown {S} allows =
    (places : List (List ℕ)) (typed : Bool) (old new : StreamsValue S) (words : Result (List Text) NoWords)
    (status : ℕ)
    → RunsShow allows places typed old new words status → TakesShown old.messages new.messages
