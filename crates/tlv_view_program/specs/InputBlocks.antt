-- The blocks of all inputs, and how they are obtained.
use Rattle.std.specs.Prelude.{◌≡◌, ℕ, ◌+◌, ◌-◌, Bool, false, nat_lt, if◌then◌else◌, List, [], ◌∷◌, ◌++◌}
use Rattle.std.specs.Prelude.{Option, Some, None, Result, Ok, Err, length, map}
use Rattle.tlv_io.specs.Device.{SourceState}
use Rattle.tlv_run.specs.Report.{ReportValue}
use Rattle.tlv_text.specs.Blocks.{IsBlocksFault}
use Rattle.tlv_text.specs.declared.text_fault.TextFault.{TextFault}
use Rattle.tlv_text.specs.declared.text_fault.TextFault.TheVariants as text
use Rattle.tlv_text.specs.Taken.{IsTakenAs, IsTakenFor, IsTakingFault, TakenValue, taken_octets, text_of}
use Rattle.tlv_text.specs.declared.taken.TakenFor.{TakenFor}
use Rattle.tlv_text.specs.declared.taken.TakenFor.TheVariants as for
use Rattle.tlv_view_program.specs.ReadWhole.{ReadsWhole, input_report}
use Rattle.tlv_view_program.specs.declared.input.InputFault.{InputFault}
use Rattle.tlv_view_program.specs.declared.request.InputForm.{InputForm}
use Rattle.tlv_view_program.specs.declared.request.InputForm.TheVariants as asked
use Rattle.tlv_program.specs.System.{Allows, IsUnread}
use Rattle.tlv_program.specs.declared.system.OpenFault.{OpenFault}
use Rattle.tlv_view_program.specs.Notes.{open_report, text_report}
use Rattle.tlv_view_program.specs.Streams.{StreamsValue}

-- ---- blocks

-- what a block holds: the report on a file that gives none, or what was taken for an encoding or a text
pub data BlockContents : Type 0 where
  reported : ReportValue → BlockContents
  taken : TakenValue → BlockContents

-- a block of all inputs: its file, whether it is one of several in the file, and what it holds
pub record InputBlockValue : Type 0 where
  pub file : Option (List ℕ)
  pub is_one_of_several : Bool
  pub contents : BlockContents

abbrev pub block_of_file : Option (List ℕ) → Bool → BlockContents → InputBlockValue
block_of_file file several contents = record { file = file; is_one_of_several = several; contents = contents }

-- the blocks of a file: if it gives none, a single block, which has the report
abbrev pub blocks_taken : Option (List ℕ) → Result (List TakenValue) TextFault → List InputBlockValue
blocks_taken file (Ok ts) = map (λ t. block_of_file file (nat_lt 1 (length ts)) (BlockContents.taken t)) ts
blocks_taken file (Err fault) =
    block_of_file file false (BlockContents.reported (text_report fault)) ∷ []

-- what an input is taken for by the requested form, or why its blocks cannot be obtained
abbrev pub TakesInput : InputForm → List ℕ → Result (List TakenValue) TextFault → Type 0
TakesInput asked.Any octets (Ok ts) = IsTakenFor octets ts
TakesInput asked.Any octets (Err fault) = IsTakingFault octets fault
TakesInput asked.Octets octets (Ok ts) = ts ≡ taken_octets octets ∷ []
TakesInput asked.Octets octets (Err fault) = fault ≡ text.Memory
TakesInput (asked.Text form) octets (Ok ts) = IsTakenAs form octets ts
TakesInput (asked.Text form) octets (Err fault) = IsBlocksFault (text_of octets) form fault

-- ---- how many octets texts may give

-- the maximum number of octets that are decoded from all texts of a run
abbrev pub run_limit : ℕ
run_limit = 1073741824

-- the octets that are decoded from a text; those of an input that is taken for octets stand in it
abbrev pub decoded_in : TakenFor → List ℕ → ℕ
decoded_in for.Octets octets = 0
decoded_in other octets = length octets

abbrev pub decoded_size : TakenValue → ℕ
decoded_size t = decoded_in t.taken_for t.block.octets

abbrev pub decoded_count : List TakenValue → ℕ
decoded_count [] = 0
decoded_count (t ∷ ts) = decoded_size t + decoded_count ts

-- what an input is taken for, if its texts give at most `room` octets; otherwise it is refused
abbrev pub within_room : ℕ → Result (List TakenValue) TextFault → Result (List TakenValue) TextFault
within_room room (Ok ts) = if nat_lt room (decoded_count ts) then Err text.TooLong else Ok ts
within_room room (Err fault) = Err fault

-- how many octets the texts of later files may give
abbrev pub room_after : ℕ → Result (List TakenValue) TextFault → ℕ
room_after room (Ok ts) = room - decoded_count ts
room_after room (Err fault) = room

-- ---- files

-- the octets, or the report if they cannot be obtained
abbrev pub octets_or_report : Result (List ℕ) InputFault → Result (List ℕ) ReportValue
octets_or_report (Ok octets) = Ok octets
octets_or_report (Err fault) = Err (input_report fault)

module _ {S : Type 0} (allows : Allows S) where
  -- the octets of a file, or of standard input, or the report if they cannot be obtained: a line for each case
  pub data GetsOctets (file : Option (List ℕ)) (old new : StreamsValue S)
      : Result (List ℕ) ReportValue → Type 0 where
    standard_input : (result : Result (List ℕ) InputFault) → file ≡ None → ReadsWhole old.input new.input result
        → new ≡ record old { input = new.input } → GetsOctets file old new (octets_or_report result)
    -- the file does not open
    unopened : (name : List ℕ) (why : OpenFault) → file ≡ Some name
        → allows.opens old.system new.system name (Err why)
        → new ≡ record old { system = new.system } → GetsOctets file old new (Err (open_report why))
    -- it is opened, read to its end, and given back
    opened : (name : List ℕ) (between : S) (before after : SourceState) (result : Result (List ℕ) InputFault)
        → file ≡ Some name → allows.opens old.system between name (Ok before) → IsUnread before
        → ReadsWhole before after result → allows.closes between new.system after
        → new ≡ record old { system = new.system } → GetsOctets file old new (octets_or_report result)

  module _ (form : InputForm) where
    -- the blocks of a file, whose texts may give `room` octets, and those of later files `rest` octets: a line for each
    -- case
    pub data GetsBlocks (file : Option (List ℕ)) (room : ℕ) (old new : StreamsValue S)
        : List InputBlockValue → ℕ → Type 0 where
      no_octets : (report : ReportValue) → GetsOctets file old new (Err report)
          → GetsBlocks file room old new (block_of_file file false (BlockContents.reported report) ∷ []) room
      takes : (octets : List ℕ) (result : Result (List TakenValue) TextFault) → GetsOctets file old new (Ok octets)
          → TakesInput form octets result
          → GetsBlocks file room old new (blocks_taken file (within_room room result))
          (room_after room (within_room room result))

    -- the blocks of all files, in order, whose texts may give `room` octets; none if memory for the list of them is
    -- refused, after which no file is opened
    pub data GetsAllBlocks
        : ℕ → List (Option (List ℕ)) → StreamsValue S → StreamsValue S → Option (List InputBlockValue) → Type 0 where
      no_more : {room : ℕ} {states : StreamsValue S} → GetsAllBlocks room [] states states (Some [])
      next : {file : Option (List ℕ)} {files : List (Option (List ℕ))} {old new : StreamsValue S} {room rest : ℕ}
          {blocks more : List InputBlockValue} (between : StreamsValue S)
          → GetsBlocks file room old between blocks rest → GetsAllBlocks rest files between new (Some more)
          → GetsAllBlocks room (file ∷ files) old new (Some (blocks ++ more))
      refused_later : {file : Option (List ℕ)} {files : List (Option (List ℕ))} {old new : StreamsValue S}
          {room rest : ℕ} {blocks : List InputBlockValue} (between : StreamsValue S)
          → GetsBlocks file room old between blocks rest → GetsAllBlocks rest files between new None
          → GetsAllBlocks room (file ∷ files) old new None
      refused_here : {file : Option (List ℕ)} {files : List (Option (List ℕ))} {old new : StreamsValue S}
          {room rest : ℕ} {blocks : List InputBlockValue} → GetsBlocks file room old new blocks rest
          → GetsAllBlocks room (file ∷ files) old new None
