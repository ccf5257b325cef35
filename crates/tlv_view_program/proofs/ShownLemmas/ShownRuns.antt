-- What a run of the program writes to standard error is printable ASCII.
use Rattle.std.proofs.Common.{◌+◌, ℕ, Bool, true, false, List, [], Option, Some, None, Ok, Err}
use Rattle.std.proofs.Common.{ap, refl, subst}
use Rattle.std.specs.List.{All}
use Rattle.std.proofs.lemmas.List.Elements.{All-head, All-tail}
use Rattle.tlv_value.specs.Names.{NamesValue}
use Rattle.tlv_run.specs.Report.{message_line}
use Rattle.tlv_view_program.specs.ReadWhole.{input_report}
use Rattle.tlv_view_program.specs.declared.input.InputFault.TheVariants as input
use Rattle.tlv_program.specs.Usage.{not_utf8_report}
use Rattle.tlv_view_program.specs.RequestReport.{request_report}
use Rattle.tlv_view_program.specs.declared.refusal.RequestFault.TheVariants as fault
use Rattle.tlv_view_program.specs.declared.request.Request.{Request}
use Rattle.tlv_program.specs.System.{Allows}
use Rattle.tlv_reasons.specs.Laws.{AreShown}
use Rattle.tlv_view_program.specs.InputBlocks.{InputBlockValue, run_limit}
use Rattle.tlv_view_program.specs.ShowsAll.{BlocksPlace, IsSaid, RunsShow, ShowsBlocks, ShowsFiles, ShowsRequest}
use Rattle.tlv_view_program.specs.ShowsAll.{block_place, files_of_words, places_of}
use Rattle.tlv_view_program.specs.ShowsBlock.{BlockPlace, ShowsBlock, message_place, octets_of_contents, reasons_report}
use Rattle.tlv_view_program.specs.ShownLines.{RunsAreShown, TakesShown}
use Rattle.tlv_view_program.specs.Streams.{StreamsValue}
use Rattle.tlv_view_program.specs.WritesReasons.{Outcome}
use Rattle.tlv_view_program.proofs.ShownLemmas.ShownInputs.{AreShownBlocks, HasShownMessage, all-shown, all-silent}
use Rattle.tlv_view_program.proofs.ShownLemmas.ShownMessages.{block_messages-shown, messages-shown}
use Rattle.tlv_view_program.proofs.ShownLemmas.ShownNotes.{IsShownBlock, contents_note-shown}
use Rattle.tlv_view_program.proofs.ShownLemmas.ShownReasons.{sends-shown, takes-nothing, takes-then, writes-shown}
use Rattle.tlv_view_program.proofs.ShownLemmas.ShownReports.{input_report-shown}
use Rattle.tlv_view_program.proofs.ShownLemmas.ShownUsage.{input_note-shown, message_line-shown, names_note-shown}
use Rattle.tlv_view_program.proofs.ShownLemmas.ShownUsage.{names_report-shown, refused_report-shown}
use Rattle.tlv_view_program.proofs.ShownLemmas.ShownUsage.{request_report-shown}

-- ---- blocks that are shown

told-shown : (outcome : Outcome) → AreShown (reasons_report outcome).message
told-shown (Ok result) = refl
told-shown (Err error) = input_report-shown input.Memory

module _ {S : Type 0} (request : Request) (table : NamesValue) where
  block-takes : (p : BlockPlace) (b : InputBlockValue) (old new : StreamsValue S) (failed : Bool) (status : ℕ)
      → IsShownBlock b → HasShownMessage b → ShowsBlock request table p b old new failed status
      → TakesShown old.messages new.messages
  block-takes p b old new failed status label report x =
      let place = message_place p b in
      takes-then old.messages x.after_note new.messages
      (sends-shown old.messages x.after_note _ x.noted (contents_note-shown place b.contents label) x.notes)
      (takes-then x.after_note x.after_messages new.messages
      (sends-shown x.after_note x.after_messages _ x.said
      (messages-shown request table p b old.output x.output x.report x.broken place new.reader_gone report x.shows)
      x.says)
      (takes-then x.after_messages x.after_reasons new.messages
      (writes-shown request.padding (octets_of_contents b.contents) x.octets _ x.after_messages x.after_reasons x.outcome
      x.reasons)
      (sends-shown x.after_reasons new.messages _ x.told
      (block_messages-shown place (reasons_report x.outcome).message [] (told-shown x.outcome)) x.tells)))

  blocks-take : (p : BlocksPlace) (number : ℕ) (blocks : List InputBlockValue) (old new : StreamsValue S)
      (status : ℕ)
      → All IsShownBlock blocks → All HasShownMessage blocks
      → ShowsBlocks request table p number blocks old new status
      → TakesShown old.messages new.messages
  blocks-take p _ _ old _ _ labels reports ShowsBlocks.no_more = takes-nothing old.messages
  blocks-take p _ _ old new _ labels reports
      (ShowsBlocks.goes_on {number} {status} {rest} {b} {bs} between x others) =
      takes-then old.messages between.messages new.messages
      (block-takes (block_place p number) b old between false status (All-head IsShownBlock b bs labels)
      (All-head HasShownMessage b bs reports) x)
      (blocks-take p (number + 1) bs between new rest (All-tail IsShownBlock b bs labels)
      (All-tail HasShownMessage b bs reports) others)
  blocks-take p _ _ old new _ labels reports (ShowsBlocks.stops {number} {status} {b} {bs} x) =
      block-takes (block_place p number) b old new true status (All-head IsShownBlock b bs labels)
      (All-head HasShownMessage b bs reports) x

-- ---- runs

module _ {S : Type 0} (allows : Allows S) where
  said-takes : (message : List ℕ) (old new : StreamsValue S) → AreShown message → IsSaid allows message old new
      → TakesShown old.messages new.messages
  said-takes message old new shown said =
      sends-shown old.messages new.messages (message_line message) said.0.0 (message_line-shown message shown) said.0.1

  files-take : (request : Request) (table : NamesValue) (files : List (Option (List ℕ))) (old new : StreamsValue S)
      (status : ℕ)
      → ShowsFiles allows request table files old new status → TakesShown old.messages new.messages
  files-take request table files old new _ (ShowsFiles.had had blocks status gets shows) =
      let all : AreShownBlocks blocks = all-shown allows request.form run_limit files old had (Some blocks) gets in
      subst (λ m. TakesShown m new.messages)
      (ap (λ w. w.1) (all-silent allows request.form run_limit files old had (Some blocks) gets))
      (blocks-take request table (places_of files blocks) 1 blocks had new status all.labels all.reports shows)
  files-take request table files old new _ (ShowsFiles.not_had had gets said) =
      subst (λ m. TakesShown m new.messages) (ap (λ w. w.1) (all-silent allows request.form run_limit files old had None gets))
      (said-takes (input_report input.Memory).message had new (input_report-shown input.Memory) said)

  request-takes : (places : List (List ℕ)) (typed : Bool) (request : Request) (old new : StreamsValue S) (status : ℕ)
      → ShowsRequest allows places typed request old new status → TakesShown old.messages new.messages
  request-takes places typed request old new _ (ShowsRequest.no_names fault between gets said) =
      said-takes _ (record old { system = between }) new (names_report-shown fault) said
  request-takes places typed request old new _
      (ShowsRequest.shows table noted between warned ready status gets said typing files) =
      takes-then old.messages warned.messages new.messages
      (said-takes _ (record old { system = between }) warned (names_note-shown noted) said)
      (takes-then warned.messages ready.messages new.messages
      (said-takes _ warned ready (input_note-shown typed request.files) typing)
      (files-take request table (files_of_words request.files) ready new status files))

  pub runs-shown : RunsAreShown allows
  runs-shown places typed old new _ _ (RunsShow.not_utf8 said) = said-takes not_utf8_report.message old new refl said
  runs-shown places typed old new _ _ (RunsShow.no_memory said) =
      said-takes (request_report fault.Memory).message old new (request_report-shown fault.Memory) said
  runs-shown places typed old new _ _ (RunsShow.refused words why printed between is prints said) =
      said-takes _ (record old { system = between }) new (refused_report-shown why printed) said
  runs-shown places typed old new _ _ (RunsShow.runs words request status asked run) =
      request-takes places typed request old new status run
