-- What the functions below `show_files` return and keep, without the place where it is kept.
use Rattle.std.specs.Prelude.{ℕ, ◌≤◌, ◌∷◌, [], All, IfOk, List, Option, Some, None, Result, Ok, Err, Vec, false}
use Rattle.std.specs.Prelude.{flat_map, length, map}
use Rattle.tlv_head.specs.Limits.{input_limit}
use Rattle.tlv_run.specs.BorrowedText.{text_in}
use Rattle.tlv_run.specs.Report.{ReportValue}
use Rattle.tlv_view_program.specs.ReadWhole.{input_report}
use Rattle.tlv_view_program.specs.Notes.{open_report, text_report}
use Rattle.tlv_text.specs.declared.text_fault.TextFault.{TextFault}
use Rattle.tlv_text.specs.Taken.{TakenValue, taken_value}
use Rattle.tlv_text.specs.declared.taken.Taken.{Taken}
use Rattle.tlv_view_program.specs.InputBlocks.{BlockContents, InputBlockValue, block_of_file, blocks_taken}
use Rattle.tlv_view_program.specs.Lines.{MessagePlace}
use Rattle.tlv_view_program.specs.ShowsAll.{BlocksPlace, block_place}
use Rattle.tlv_view_program.specs.ShowsBlock.{BlockPlace}
use Rattle.tlv_view_program.specs.declared.block.Task.{Task}
use Rattle.tlv_view_program.specs.declared.input_blocks.Contents.{Contents}
use Rattle.tlv_view_program.specs.declared.input_blocks.Contents.TheVariants.{Nothing, Taken as TakenBlock}
use Rattle.tlv_view_program.specs.declared.input_blocks.FileBlocks.{FileBlocks}
use Rattle.tlv_view_program.specs.declared.input_blocks.NoBlocks.{NoBlocks}
use Rattle.tlv_view_program.specs.declared.input_blocks.NoBlocks.TheVariants.{Unopened, Input, Text}
use Rattle.tlv_view_program.specs.declared.input_blocks.InputBlock.{InputBlock}
use Rattle.tlv_view_program.specs.declared.lines.BlockName.{BlockName}

-- the report for a file that gives no block
abbrev pub report_without_blocks : NoBlocks → ReportValue
report_without_blocks (Unopened why) = open_report why
report_without_blocks (Input fault) = input_report fault
report_without_blocks (Text fault) = text_report fault

-- the octets that were obtained, or the report that there are none
abbrev pub octets_had : {Z : Type 0} → Result (Vec ℕ Z) NoBlocks → Result (List ℕ) ReportValue
octets_had (Ok octets) = Ok octets.items
octets_had (Err why) = Err (report_without_blocks why)

-- what an input was taken for, or why its blocks cannot be obtained
abbrev pub taken_had : {Z : Type 0} → Result (Vec Taken Z) TextFault → Result (List TakenValue) TextFault
taken_had (Ok taken) = Ok (map taken_value taken.items)
taken_had (Err fault) = Err fault

-- what a block holds, and a block, as contracts see them
abbrev pub block_contents : Contents → BlockContents
block_contents (Nothing why) = BlockContents.reported (report_without_blocks why)
block_contents (TakenBlock taken) = BlockContents.taken (taken_value taken.now)

abbrev pub input_block : InputBlock → InputBlockValue
input_block b = record {
  file = text_in b.file;
  is_one_of_several = b.is_one_of_several;
  contents = block_contents b.contents;
}

-- the blocks of a file: if it gives none, a single block, which has the report
abbrev pub blocks_given : {Z : Type 0} → Option (List ℕ) → Result (Vec Taken Z) NoBlocks → List InputBlockValue
blocks_given file (Ok taken) = blocks_taken file (Ok (map taken_value taken.items))
blocks_given file (Err why) =
    block_of_file file false (BlockContents.reported (report_without_blocks why)) ∷ []

abbrev pub file_blocks : FileBlocks → List InputBlockValue
file_blocks f = blocks_given (text_in f.file) f.taken

-- the blocks that were obtained, unless memory was refused
abbrev pub blocks_had : {Z : Type 0} → Option (Vec FileBlocks Z) → Option (List InputBlockValue)
blocks_had (Some files) = Some (flat_map file_blocks files.items)
blocks_had None = None

-- what comes before messages, as contracts see it
abbrev pub name_value : BlockName → MessagePlace
name_value n = record { file = text_in n.file; number = n.number }

-- what a task says about all blocks, and about the block with this number
abbrev pub blocks_place : Task → BlocksPlace
blocks_place t = record { count = t.count; several_files = t.several_files }

abbrev pub place_value : ℕ → Task → BlockPlace
place_value number t = block_place (blocks_place t) number

-- octets that are shown are no more than an input may have
abbrev pub taken_fit : List Taken → Type 0
taken_fit taken = All (λ t. length t.block.octets.items ≤ input_limit) taken

abbrev pub contents_fit : Contents → Type 0
contents_fit (Nothing why) = Unit {0}
contents_fit (TakenBlock taken) = length taken.now.block.octets.items ≤ input_limit

abbrev pub file_fits : FileBlocks → Type 0
file_fits f = IfOk f.taken (λ taken. taken_fit taken.items)

abbrev pub all_fit : List FileBlocks → Type 0
all_fit files = All file_fits files
