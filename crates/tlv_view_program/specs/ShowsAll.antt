-- What the program does, from its words to its status, and in which order.
use Rattle.std.specs.Prelude.{◌≡◌, ◌+◌, ◌||◌, ℕ, Bool, true, false, eqb, not, List, [], ◌∷◌, Option, Some, None}
use Rattle.std.specs.Prelude.{Result, Ok, Err, codes, if◌then◌else◌, length, map, max, nat_lt}
use Rattle.std.specs.FinMap as finite
use Rattle.std.specs.Str.{bytes_eq}
use Rattle.clap.specs.Words.{Text, kind_of}
use Rattle.tlv_io.specs.Device.{SourceState}
use Rattle.tlv_value.specs.Names.{NamesValue}
use Rattle.tlv_value.specs.NamesReading.{ReadsFrom}
use Rattle.tlv_value.specs.declared.names.fault.NamesFault.{NamesFault}
use Rattle.tlv_value.specs.declared.names.fault.NamesFault.TheVariants as names
use Rattle.tlv_run.specs.Report.{ReportValue, WritesMessage, message_line, names_report}
use Rattle.tlv_view_program.specs.ReadWhole.{input_report}
use Rattle.tlv_view_program.specs.declared.input.InputFault.TheVariants as input
use Rattle.tlv_program.specs.Usage.{not_utf8_report, status_of_kind, unprinted_report}
use Rattle.tlv_view_program.specs.RequestOf.{AreAskedAs, IsRequestFaultOf}
use Rattle.tlv_view_program.specs.RequestReport.{request_report}
use Rattle.tlv_view_program.specs.declared.refusal.RequestFault.{RequestFault}
use Rattle.tlv_view_program.specs.declared.refusal.RequestFault.TheVariants as fault
use Rattle.tlv_view_program.specs.declared.request.Request.{Request}
use Rattle.tlv_view_program.specs.declared.request.Wanted.{Wanted}
use Rattle.tlv_view_program.specs.declared.request.Wanted.TheVariants.{Dump}
use Rattle.tlv_program.specs.System.{Allows, IsUnread}
use Rattle.tlv_program.specs.declared.program.NoWords.{NoWords}
use Rattle.tlv_program.specs.declared.system.OpenFault.{OpenFault}
use Rattle.tlv_program.specs.declared.program.NoWords.TheVariants.{NotUtf8, Memory}
use Rattle.tlv_view_program.specs.Lines.{input_note, no_names_note}
use Rattle.tlv_view_program.specs.InputBlocks.{GetsAllBlocks, InputBlockValue, run_limit}
use Rattle.tlv_view_program.specs.ShowsBlock.{BlockPlace, ShowsBlock}
use Rattle.tlv_view_program.specs.Streams.{StreamsValue}

-- ---- files

-- the file of a word: `-` is standard input, which has no name
abbrev pub file_of_word : List ℕ → Option (List ℕ)
file_of_word word = if bytes_eq word (codes "-") then None else Some word

-- the files of these words; without words it is standard input
abbrev pub files_of_words : List (List ℕ) → List (Option (List ℕ))
files_of_words [] = None ∷ []
files_of_words words = map file_of_word words

-- the note that standard input is read, if no file is named and standard input is a terminal
abbrev pub note_of_input : Bool → List (List ℕ) → List ℕ
note_of_input typed [] = if typed then input_note else []
note_of_input typed words = []

-- the number of blocks in all, and whether there are several files
pub record BlocksPlace : Type 0 where
  pub count : ℕ
  pub several_files : Bool

abbrev pub places_of : List (Option (List ℕ)) → List InputBlockValue → BlocksPlace
places_of files blocks = record { count = length blocks; several_files = nat_lt 1 (length files) }

-- the place of the block with this number
abbrev pub block_place : BlocksPlace → ℕ → BlockPlace
block_place p number = record { number = number; count = p.count; several_files = p.several_files }

-- the blocks are shown in order, and the first has this number; the status is the highest. After a failed write to
-- standard output no other block is shown
pub data ShowsBlocks {S : Type 0} (request : Request) (table : NamesValue) (p : BlocksPlace)
    : ℕ → List InputBlockValue → StreamsValue S → StreamsValue S → ℕ → Type 0 where
  no_more : {number : ℕ} {states : StreamsValue S} → ShowsBlocks request table p number [] states states 0
  goes_on : {number status rest : ℕ} {b : InputBlockValue} {bs : List InputBlockValue}
      {old new : StreamsValue S} (between : StreamsValue S)
      → ShowsBlock request table (block_place p number) b old between false status
      → ShowsBlocks request table p (number + 1) bs between new rest
      → ShowsBlocks request table p number (b ∷ bs) old new (max status rest)
  stops : {number status : ℕ} {b : InputBlockValue} {bs : List InputBlockValue} {old new : StreamsValue S}
      → ShowsBlock request table (block_place p number) b old new true status
      → ShowsBlocks request table p number (b ∷ bs) old new status

-- ---- words that ask for nothing

-- they ask for help or for the version, which `clap` prints
abbrev pub asks_for_help : RequestFault → Bool
asks_for_help (fault.Parser error) = eqb (status_of_kind (kind_of error)) 0
asks_for_help other = false

-- the report: E2 if the words ask for what `clap` has to say, and it is not printed
abbrev pub refused_report : RequestFault → Bool → ReportValue
refused_report why printed =
    if printed || not (asks_for_help why) then request_report why else unprinted_report

-- ---- names of object identifiers

-- the names file that the words name, if object identifiers are shown
abbrev pub names_of_wanted : Wanted → Option (Option (List ℕ))
names_of_wanted (Dump rules limit pure text closed names) = Some names
names_of_wanted wanted = None

module _ {S : Type 0} (allows : Allows S) where
  -- the first of these files that opens, if one does: each is tried in turn
  pub data OpensFirst : List (List ℕ) → S → S → Option SourceState → Type 0 where
    none : {s : S} → OpensFirst [] s s None
    here : {name : List ℕ} {places : List (List ℕ)} {old new : S} (file : SourceState)
        → allows.opens old new name (Ok file) → IsUnread file → OpensFirst (name ∷ places) old new (Some file)
    later : {name : List ℕ} {places : List (List ℕ)} {old new : S} {found : Option SourceState} (between : S)
        (why : OpenFault) → allows.opens old between name (Err why) → OpensFirst places between new found
        → OpensFirst (name ∷ places) old new found

  -- the names for what is wanted, or why there are none; the Bool says whether to note that no names file was found: a
  -- line for each case
  pub data GetsTable (wanted : Wanted) (places : List (List ℕ)) (old new : S)
      : Bool → Result NamesValue NamesFault → Type 0 where
    -- no object identifiers are shown
    not_asked : names_of_wanted wanted ≡ None → new ≡ old → GetsTable wanted places old new false (Ok finite.empty)
    -- the names file that the words name does not open
    unopened : (name : List ℕ) (why : OpenFault) → names_of_wanted wanted ≡ Some (Some name)
        → allows.opens old new name (Err why) → GetsTable wanted places old new false (Err names.ReadFailed)
    -- it is opened and read
    named : (name : List ℕ) (between : S) (before after : SourceState) (result : Result NamesValue NamesFault)
        → names_of_wanted wanted ≡ Some (Some name) → allows.opens old between name (Ok before) → IsUnread before
        → ReadsFrom before after result → allows.closes between new after
        → GetsTable wanted places old new false result
    -- the words name none, and one is found and read
    found : (between : S) (before after : SourceState) (result : Result NamesValue NamesFault)
        → names_of_wanted wanted ≡ Some None → OpensFirst places old between (Some before)
        → ReadsFrom before after result → allows.closes between new after
        → GetsTable wanted places old new false result
    -- the words name none, and none is found
    none_found : names_of_wanted wanted ≡ Some None → OpensFirst places old new None
        → GetsTable wanted places old new true (Ok finite.empty)

  -- ---- the program

  -- a message is written to standard error, or a write of it failed, and all else is as it was
  abbrev pub IsSaid : List ℕ → StreamsValue S → StreamsValue S → Type 0
  IsSaid message old new =
      WritesMessage (message_line message) old.messages new.messages × (new ≡ record old { messages = new.messages })

  -- all files are read, and then their blocks are shown in order: a line for each case
  pub data ShowsFiles (request : Request) (table : NamesValue) (files : List (Option (List ℕ)))
      (old new : StreamsValue S)
      : ℕ → Type 0 where
    had : (had : StreamsValue S) (blocks : List InputBlockValue) (status : ℕ)
        → GetsAllBlocks allows request.form run_limit files old had (Some blocks)
        → ShowsBlocks request table (places_of files blocks) 1 blocks had new status
        → ShowsFiles request table files old new status
    -- memory for the blocks is refused, and nothing is shown
    not_had : (had : StreamsValue S) → GetsAllBlocks allows request.form run_limit files old had None
        → IsSaid (input_report input.Memory).message had new
        → ShowsFiles request table files old new (input_report input.Memory).status

  -- the names are obtained, and the files are shown; `typed` says whether standard input is a terminal; the status
  -- comes last: a line for each case
  pub data ShowsRequest (places : List (List ℕ)) (typed : Bool) (request : Request) (old new : StreamsValue S)
      : ℕ → Type 0 where
    -- there are no names, and no file is opened
    no_names : (fault : NamesFault) (between : S)
        → GetsTable request.wanted places old.system between false (Err fault)
        → IsSaid (names_report fault).message (record old { system = between }) new
        → ShowsRequest places typed request old new (names_report fault).status
    shows : (table : NamesValue) (noted : Bool) (between : S) (warned ready : StreamsValue S) (status : ℕ)
        → GetsTable request.wanted places old.system between noted (Ok table)
        → IsSaid (if noted then no_names_note else []) (record old { system = between }) warned
        → IsSaid (note_of_input typed request.files) warned ready
        → ShowsFiles request table (files_of_words request.files) ready new status
        → ShowsRequest places typed request old new status

  -- what `clap` has to say is printed, or cannot be; for another fault nothing is printed here
  abbrev pub PrintsRefusal : S → S → RequestFault → Bool → Type 0
  PrintsRefusal old new (fault.Parser error) printed = allows.prints old new error printed
  PrintsRefusal old new other printed = (new ≡ old) × (printed ≡ true)

  -- the program runs on these words, or on the reason why there are none; its status comes last: a line for each case
  pub data RunsShow (places : List (List ℕ)) (typed : Bool) (old new : StreamsValue S)
      : Result (List Text) NoWords → ℕ → Type 0 where
    -- a word is not UTF-8
    not_utf8 : IsSaid not_utf8_report.message old new
        → RunsShow places typed old new (Err NotUtf8) not_utf8_report.status
    -- memory for the words is refused
    no_memory : IsSaid (request_report fault.Memory).message old new
        → RunsShow places typed old new (Err Memory) (request_report fault.Memory).status
    -- the words ask for nothing that can be shown: no file is opened, and nothing is read
    refused : (words : List Text) (why : RequestFault) (printed : Bool) (between : S) → IsRequestFaultOf words why
        → PrintsRefusal old.system between why printed
        → IsSaid (refused_report why printed).message (record old { system = between }) new
        → RunsShow places typed old new (Ok words) (refused_report why printed).status
    runs : (words : List Text) (request : Request) (status : ℕ) → AreAskedAs words (Ok request)
        → ShowsRequest places typed request old new status → RunsShow places typed old new (Ok words) status
