-- Blocks of inputs have labels and reports that are printable ASCII, and nothing is written while they are had.
use Rattle.std.proofs.Common.{◌≡◌, ℕ, List, [], ◌++◌, Option, Some, None, Result, Ok, Err, length, refl}
use Rattle.std.proofs.Common.{ap, ◌∙◌}
use Rattle.std.specs.Prelude.{nat_lt}
use Rattle.std.specs.List.{All}
use Rattle.std.proofs.lemmas.List.Elements.{All-append, All-cons, All-map, All-nil}
use Rattle.tlv_io.specs.Device.{DrainState}
use Rattle.tlv_text.specs.declared.text_fault.TextFault.{TextFault}
use Rattle.tlv_text.specs.Taken.{TakenValue}
use Rattle.tlv_run.specs.Report.{ReportValue}
use Rattle.tlv_view_program.specs.declared.input.InputFault.{InputFault}
use Rattle.tlv_view_program.specs.declared.request.InputForm.{InputForm}
use Rattle.tlv_program.specs.System.{Allows}
use Rattle.tlv_program.specs.declared.system.OpenFault.{OpenFault}
use Rattle.tlv_program.specs.declared.system.OpenFault.TheVariants.{Missing, Denied, Other}
use Rattle.tlv_view_program.specs.Notes.{open_report}
use Rattle.tlv_view_program.specs.InputBlocks.{BlockContents, GetsAllBlocks, GetsBlocks, GetsOctets, InputBlockValue}
use Rattle.tlv_view_program.specs.InputBlocks.{block_of_file, blocks_taken, octets_or_report, within_room}
use Rattle.tlv_view_program.specs.ShownLines.{HasShownReport}
use Rattle.tlv_view_program.specs.Streams.{StreamsValue}
use Rattle.tlv_view_program.proofs.ShownLemmas.ShownNotes.{IsShownBlock, within_room-shown}
use Rattle.tlv_view_program.proofs.ShownLemmas.ShownReports.{IsShownReport, input_report-shown, text_report-shown}

abbrev pub HasShownMessage : InputBlockValue → Type 0
HasShownMessage b = HasShownReport b.contents

-- what is reported in place of octets is shown
abbrev pub IsShownIfErr : Result (List ℕ) ReportValue → Type 0
IsShownIfErr (Ok octets) = Unit {0}
IsShownIfErr (Err report) = IsShownReport report

octets_or-shown : (result : Result (List ℕ) InputFault) → IsShownIfErr (octets_or_report result)
octets_or-shown (Ok octets) = tt
octets_or-shown (Err fault) = input_report-shown fault

taken_reports-shown : (file : Option (List ℕ)) (result : Result (List TakenValue) TextFault)
    → All HasShownMessage (blocks_taken file result)
taken_reports-shown file (Ok ts) =
    All-map HasShownMessage (λ (t : TakenValue). block_of_file file (nat_lt 1 (length ts)) (BlockContents.taken t)) ts
    (λ k d less. tt)
taken_reports-shown file (Err fault) =
    All-cons HasShownMessage _ [] (text_report-shown fault) (All-nil HasShownMessage)

-- all labels and reports of blocks are shown
pub record AreShownBlocks (blocks : List InputBlockValue) : Type 0 where
  pub labels : All IsShownBlock blocks
  pub reports : All HasShownMessage blocks

no_blocks-shown : AreShownBlocks []
no_blocks-shown = record { labels = All-nil IsShownBlock; reports = All-nil HasShownMessage }

more_blocks-shown : (xs ys : List InputBlockValue) → AreShownBlocks xs → AreShownBlocks ys → AreShownBlocks (xs ++ ys)
more_blocks-shown xs ys p q = record {
  labels = All-append IsShownBlock xs ys p.labels q.labels;
  reports = All-append HasShownMessage xs ys p.reports q.reports;
}

abbrev pub AreShownIfSome : Option (List InputBlockValue) → Type 0
AreShownIfSome None = Unit {0}
AreShownIfSome (Some blocks) = AreShownBlocks blocks

-- the drains that are written to: standard output, and standard error
abbrev pub written : {S : Type 0} → StreamsValue S → DrainState × DrainState
written streams = (streams.output, streams.messages)

-- nothing is written
abbrev pub IsSilent : {S : Type 0} → StreamsValue S → StreamsValue S → Type 0
IsSilent old new = written new ≡ written old

open_report-shown : (why : OpenFault) → IsShownIfErr (Err (open_report why))
open_report-shown Missing = refl
open_report-shown Denied = refl
open_report-shown Other = refl

module _ {S : Type 0} (allows : Allows S) where
  octets_report-shown : (file : Option (List ℕ)) (old new : StreamsValue S) (r : Result (List ℕ) ReportValue)
      → GetsOctets allows file old new r → IsShownIfErr r
  octets_report-shown file old new _ (GetsOctets.standard_input result none reads same) = octets_or-shown result
  octets_report-shown file old new _ (GetsOctets.unopened name why is opens same) = open_report-shown why
  octets_report-shown file old new _
      (GetsOctets.opened name between before after result is opens unread reads closes same) = octets_or-shown result

  octets-silent : (file : Option (List ℕ)) (old new : StreamsValue S) (r : Result (List ℕ) ReportValue)
      → GetsOctets allows file old new r → IsSilent old new
  octets-silent file old new _ (GetsOctets.standard_input result none reads same) =
      ap written same
  octets-silent file old new _ (GetsOctets.unopened name why is opens same) =
      ap written same
  octets-silent file old new _
      (GetsOctets.opened name between before after result is opens unread reads closes same) =
      ap written same

  blocks-silent : (form : InputForm) (file : Option (List ℕ)) (room rest : ℕ) (old new : StreamsValue S)
      (blocks : List InputBlockValue)
      → GetsBlocks allows form file room old new blocks rest → IsSilent old new
  blocks-silent form file room _ old new _ (GetsBlocks.no_octets report gets) = octets-silent file old new _ gets
  blocks-silent form file room _ old new _ (GetsBlocks.takes octets result gets takes) =
      octets-silent file old new _ gets

  blocks-shown : (form : InputForm) (file : Option (List ℕ)) (room rest : ℕ) (old new : StreamsValue S)
      (blocks : List InputBlockValue)
      → GetsBlocks allows form file room old new blocks rest → AreShownBlocks blocks
  blocks-shown form file room _ old new _ (GetsBlocks.no_octets report gets) = record {
    labels = All-cons IsShownBlock _ [] tt (All-nil IsShownBlock);
    reports =
        All-cons HasShownMessage _ [] (octets_report-shown file old new (Err report) gets)
        (All-nil HasShownMessage);
  }
  blocks-shown form file room _ old new _ (GetsBlocks.takes octets result gets takes) = record {
    labels = within_room-shown form octets room result file takes;
    reports = taken_reports-shown file (within_room room result);
  }

  pub all-silent : (form : InputForm) (room : ℕ) (files : List (Option (List ℕ))) (old new : StreamsValue S)
      (had : Option (List InputBlockValue))
      → GetsAllBlocks allows form room files old new had → IsSilent old new
  all-silent form room _ old _ _ GetsAllBlocks.no_more = refl
  all-silent form room _ old new _
      (GetsAllBlocks.next {file} {files} {rest = rest} {blocks = blocks} {more = more} between gets others) =
      all-silent form rest files between new (Some more) others
      ∙ blocks-silent form file room rest old between blocks gets
  all-silent form room _ old new _
      (GetsAllBlocks.refused_later {file} {files} {rest = rest} {blocks = blocks} between gets others) =
      all-silent form rest files between new None others ∙ blocks-silent form file room rest old between blocks gets
  all-silent form room _ old new _ (GetsAllBlocks.refused_here {file} {files} {rest = rest} {blocks = blocks} gets) =
      blocks-silent form file room rest old new blocks gets

  pub all-shown : (form : InputForm) (room : ℕ) (files : List (Option (List ℕ))) (old new : StreamsValue S)
      (had : Option (List InputBlockValue))
      → GetsAllBlocks allows form room files old new had → AreShownIfSome had
  all-shown form room _ old _ _ GetsAllBlocks.no_more = no_blocks-shown
  all-shown form room _ old new _
      (GetsAllBlocks.next {file} {files} {rest = rest} {blocks = blocks} {more = more} between gets others) =
      more_blocks-shown blocks more (blocks-shown form file room rest old between blocks gets)
      (all-shown form rest files between new (Some more) others)
  all-shown form room _ old new _
      (GetsAllBlocks.refused_later {file} {files} {blocks = blocks} between gets others) = tt
  all-shown form room _ old new _ (GetsAllBlocks.refused_here {file} {files} {blocks = blocks} gets) = tt
