-- What a run writes to standard output is printable ASCII, unless octets are wanted as they are.
use Rattle.std.proofs.Common.{◌≡◌, ◌+◌, ◌∙◌, ℕ, Bool, true, false, List, Option, Some, None, Ok, ap, subst, sym}
use Rattle.std.specs.FinMap as finite
use Rattle.std.specs.List.{All}
use Rattle.std.proofs.lemmas.List.Elements.{All-head, All-tail}
use Rattle.std.specs.Cmp.Lexicographic.{slice_cmp}
use Rattle.std.specs.Ordering.{nat_cmp}
use Rattle.tlv_io.specs.Device.{DrainState, octets_given}
use Rattle.tlv_walk.specs.Reading.{AreOctets}
use Rattle.tlv_value.specs.Names.{NamesValue}
use Rattle.tlv_open.specs.declared.strings.BrokenString.{BrokenString}
use Rattle.tlv_run.specs.Report.{ReportValue}
use Rattle.tlv_view_program.specs.Offsets.{offsets_line}
use Rattle.tlv_view_program.specs.Views.{Views}
use Rattle.tlv_view_program.specs.declared.view_call.View.{View}
use Rattle.tlv_view_program.specs.declared.request.Request.{Request}
use Rattle.tlv_view_program.specs.declared.request.Wanted.{Wanted}
use Rattle.tlv_view_program.specs.declared.request.Wanted.TheVariants.{Check, Dump, Extract, Offsets, Raw, Why}
use Rattle.tlv_program.specs.System.{Allows}
use Rattle.tlv_view_program.specs.InputBlocks.{BlockContents, InputBlockValue, run_limit}
use Rattle.tlv_view_program.specs.ShowsAll.{BlocksPlace, GetsTable, ShowsBlocks, ShowsFiles, ShowsRequest, block_place}
use Rattle.tlv_view_program.specs.ShowsAll.{files_of_words, places_of}
use Rattle.tlv_view_program.specs.ShowsBlock.{BlockPlace, ShowsBlock, ShowsContents, ShowsOctets, ShowsTitled, title}
use Rattle.tlv_view_program.specs.ShowsBlock.{octets_of_contents, view_of}
use Rattle.tlv_view_program.specs.ShownLines.{HasShownNames, OutputsAreShown, TakesShown, wants_lines}
use Rattle.tlv_view_program.specs.Streams.{StreamsValue}
use Rattle.tlv_view_program.proofs.ShownLemmas.ShownDumps.{dumps-shown}
use Rattle.tlv_view_program.proofs.ShownLemmas.ShownInputs.{AreShownBlocks, all-shown, all-silent}
use Rattle.tlv_view_program.proofs.ShownLemmas.ShownLists.{check-takes, offsets_line-shown}
use Rattle.tlv_view_program.proofs.ShownLemmas.ShownNames.{names-shown}
use Rattle.tlv_view_program.proofs.ShownLemmas.ShownNotes.{IsShownBlock, title-shown}
use Rattle.tlv_view_program.proofs.ShownLemmas.ShownReasons.{reasons-shown, same-takes, sends-shown, takes-nothing}
use Rattle.tlv_view_program.proofs.ShownLemmas.ShownReasons.{takes-then}

-- ---- octets

some-same : (a b : View) → Some a ≡ Some b → a ≡ b
some-same a b same = ap (λ (o : Option View). value_in o) same
  where
    value_in : Option View → View
    value_in None = a
    value_in (Some x) = x

module _ (table : NamesValue) (names : HasShownNames table) where
  view-takes : (w : Wanted) (v : View) (closed padding : Bool) (octets : List ℕ) (old new : DrainState)
      (report : ReportValue)
      → wants_lines w ≡ true → view_of w ≡ Some v → AreOctets octets
      → Views v table closed padding octets old new report → TakesShown old new
  view-takes (Dump rules limit pure text stays file) v closed padding octets old new report wants is are views =
      dumps-shown rules limit pure text closed padding table octets old new report are names
      (subst (λ (w : View). Views w table closed padding octets old new report) (sym (some-same _ _ is)) views)
  view-takes (Check rules stays) v closed padding octets old new report wants is are views =
      check-takes rules table closed padding octets old new report
      (subst (λ (w : View). Views w table closed padding octets old new report) (sym (some-same _ _ is)) views)
  view-takes (Extract offset contents) v closed padding octets old new report wants is are views = cc wants
  view-takes Offsets v closed padding octets old new report wants is are views = cc is
  view-takes Raw v closed padding octets old new report wants is are views = cc wants
  view-takes (Why stays) v closed padding octets old new report wants is are views = cc is

  module _ (request : Request) (wants : wants_lines request.wanted ≡ true) where
    octets-take : {reads : ℕ} (octets : List ℕ) (old new : DrainState) (report : ReportValue) (broken : List BrokenString)
        → AreOctets octets → ShowsOctets reads request table octets old new report broken → TakesShown old new
    octets-take octets old new _ _ are (ShowsOctets.shown v report broken is views others) =
        view-takes request.wanted v _ request.padding octets old new report wants is are views
    octets-take octets old new _ _ are (ShowsOctets.listed offsets e result is opened ends sends) =
        sends-shown old new (offsets_line offsets) result (offsets_line-shown offsets) sends
    octets-take octets old new _ _ are (ShowsOctets.raw result is sends) = cc (sym wants ∙ ap wants_lines is)
    octets-take octets old new _ _ are (ShowsOctets.explained closed report broken is shows) =
        reasons-shown _ closed request.padding table octets old new report broken are shows
    octets-take octets old new _ _ are (ShowsOctets.no_memory same) = same-takes old new same

    contents-take : {reads : ℕ} (old new : DrainState) (contents : BlockContents) (report : ReportValue)
        (broken : List BrokenString)
        → AreOctets (octets_of_contents contents) → ShowsContents reads request table old new contents report broken
        → TakesShown old new
    contents-take old new _ _ _ are (ShowsContents.no_block {report} same) = same-takes old new same
    contents-take old new _ _ _ are (ShowsContents.no_octets {t} none same) = same-takes old new same
    contents-take old new _ _ _ are (ShowsContents.octets {t} {report} {broken} some shows) =
        octets-take t.block.octets old new report broken are shows

    -- ---- blocks

    titled-takes : (p : BlockPlace) (b : InputBlockValue) (old new : DrainState) (report : ReportValue)
        (broken : List BrokenString)
        → IsShownBlock b → AreOctets (octets_of_contents b.contents)
        → ShowsTitled request table p b old new report broken → TakesShown old new
    titled-takes p b old new _ _ label are (ShowsTitled.title_failed result failed sends) =
        sends-shown old new (title request.wanted p b) result (title-shown request.wanted p b label) sends
    titled-takes p b old new _ _ label are (ShowsTitled.titled between result report broken sent sends shows) =
        takes-then old between new
        (sends-shown old between (title request.wanted p b) result (title-shown request.wanted p b label) sends)
        (contents-take between new b.contents report broken are shows)

    block-takes : {S : Type 0} (p : BlockPlace) (b : InputBlockValue) (old new : StreamsValue S) (failed : Bool)
        (status : ℕ)
        → IsShownBlock b → ShowsBlock request table p b old new failed status → TakesShown old.output new.output
    block-takes {S} p b old new failed status label x =
        subst (λ (d : DrainState). TakesShown old.output d) (sym (ap (λ (s : StreamsValue S). s.output) x.same))
        (titled-takes p b old.output x.output x.report x.broken label x.octets x.shows)

    blocks-take : {S : Type 0} (p : BlocksPlace) (number : ℕ) (blocks : List InputBlockValue)
        (old new : StreamsValue S) (status : ℕ)
        → All IsShownBlock blocks → ShowsBlocks request table p number blocks old new status
        → TakesShown old.output new.output
    blocks-take p _ _ old _ _ labels ShowsBlocks.no_more = takes-nothing old.output
    blocks-take p _ _ old new _ labels
        (ShowsBlocks.goes_on {number} {status} {rest} {b} {bs} between x others) =
        takes-then old.output between.output new.output
        (block-takes (block_place p number) b old between false status (All-head IsShownBlock b bs labels) x)
        (blocks-take p (number + 1) bs between new rest (All-tail IsShownBlock b bs labels) others)
    blocks-take p _ _ old new _ labels (ShowsBlocks.stops {number} {status} {b} {bs} x) =
        block-takes (block_place p number) b old new true status (All-head IsShownBlock b bs labels) x

-- ---- what is asked for

module _ {S : Type 0} where
  -- nothing is written to standard output when something is said
  said-silent : (old new : StreamsValue S) → new ≡ record old { messages = new.messages }
      → TakesShown old.output new.output
  said-silent old new same = same-takes old.output new.output (ap (λ (s : StreamsValue S). s.output) same)

module _ {S : Type 0} (allows : Allows S) where
  empty-shown : HasShownNames finite.empty
  empty-shown dotted name has =
      let none : None ≡ Some name = sym (finite.get-empty (slice_cmp nat_cmp) dotted) ∙ has in absurd (cc none)

  -- the names that were obtained
  table-shown : (wanted : Wanted) (places : List (List ℕ)) (old new : S) (noted : Bool) (table : NamesValue)
      → GetsTable allows wanted places old new noted (Ok table) → HasShownNames table
  table-shown wanted places old new _ _ (GetsTable.not_asked is same) = empty-shown
  table-shown wanted places old new _ table (GetsTable.named name between before after _ is opens unread reads closes) =
      names-shown (octets_given reads.pieces) table reads.result_is.result_is
  table-shown wanted places old new _ table (GetsTable.found between before after _ is opens reads closes) =
      names-shown (octets_given reads.pieces) table reads.result_is.result_is
  table-shown wanted places old new _ _ (GetsTable.none_found is opens) = empty-shown

  files-take : (request : Request) (table : NamesValue) (files : List (Option (List ℕ))) (old new : StreamsValue S)
      (status : ℕ)
      → HasShownNames table → wants_lines request.wanted ≡ true
      → ShowsFiles allows request table files old new status
      → TakesShown old.output new.output
  files-take request table files old new _ names wants (ShowsFiles.had had blocks status gets shows) =
      let all : AreShownBlocks blocks = all-shown allows request.form run_limit files old had (Some blocks) gets in
      subst (λ (d : DrainState). TakesShown d new.output)
      (ap (λ w. w.0) (all-silent allows request.form run_limit files old had (Some blocks) gets))
      (blocks-take table names request wants (places_of files blocks) 1 blocks had new status all.labels shows)
  files-take request table files old new _ names wants (ShowsFiles.not_had had gets said) =
      subst (λ (d : DrainState). TakesShown d new.output)
      (ap (λ w. w.0) (all-silent allows request.form run_limit files old had None gets))
      (said-silent had new said.1)

  pub outputs-shown : OutputsAreShown allows
  outputs-shown places typed request old new _ wants (ShowsRequest.no_names fault between gets said) =
      said-silent (record old { system = between }) new said.1
  outputs-shown places typed request old new _ wants
      (ShowsRequest.shows table noted between warned ready status gets said typing files) =
      takes-then old.output warned.output new.output (said-silent (record old { system = between }) warned said.1)
      (takes-then warned.output ready.output new.output (said-silent warned ready typing.1)
      (files-take request table (files_of_words request.files) ready new status
      (table-shown request.wanted places old.system between noted table gets) wants files))
