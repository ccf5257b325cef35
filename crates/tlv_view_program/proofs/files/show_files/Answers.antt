use Rattle.std.proofs.Common.{◌≡◌, ℕ, Bool, List, [], ◌∷◌, ap, flat_map, length, refl, subst, sym, ◌∙◌}
use Rattle.std.specs.Prelude.{nat_lt}
use Rattle.std.proofs.lemmas.List.{length-map}
use Rattle.tlv_run.specs.Report.{ReportValue}
use Rattle.tlv_value.specs.Names.{NamesValue}
use Rattle.tlv_view_program.specs.declared.request.Request.{Request}
use Rattle.tlv_view_program.proofs.InputBlockLemmas.{refused-at-end}
use Rattle.tlv_view_program.specs.InputBlocks.{InputBlockValue}
use Rattle.tlv_view_program.specs.Private.BlockParts.{file_blocks}
use Rattle.tlv_view_program.specs.ShowsAll.{BlocksPlace, ShowsBlocks, file_of_word, files_of_words, had, not_had}
use Rattle.tlv_view_program.specs.ShowsAll.{places_of}
use Rattle.tlv_view_program.specs.Streams.{StreamsValue, streams_value}
use Rattle.tlv_view_program.specs.declared.input_blocks.FileBlocks.{FileBlocks}
use Rattle.tlv_view_program.proofs.files.show_files.Goals as goal

-- there are several files if there are several words
several-words : (words : List (List ℕ)) → nat_lt 1 (length words) ≡ nat_lt 1 (length (files_of_words words))
several-words [] = refl
several-words (x ∷ words) = ap (nat_lt 1) (sym (length-map (x ∷ words) file_of_word))

place-of-all : (words : List (List ℕ)) (blocks : List InputBlockValue) (count : ℕ) (several : Bool)
    → count ≡ length blocks → several ≡ nat_lt 1 (length words)
    → record { count = count; several_files = several } ≡ places_of (files_of_words words) blocks
place-of-all words blocks count several c s =
    let counted : ℕ → BlocksPlace = λ n. record { count = n; several_files = several } in
    let in_files : Bool → BlocksPlace = λ b. record { count = length blocks; several_files = b } in
    ap counted c ∙ ap in_files (s ∙ several-words words)

shown-in-place : {S : Type 0} (request : Request) (table : NamesValue) (words : List (List ℕ))
    (blocks : List InputBlockValue) (count : ℕ) (several : Bool) (old new : StreamsValue S) (status : ℕ)
    → count ≡ length blocks → several ≡ nat_lt 1 (length words)
    → ShowsBlocks request table (record { count = count; several_files = several }) 1 blocks old new status
    → ShowsBlocks request table (places_of (files_of_words words) blocks) 1 blocks old new status
shown-in-place request table words blocks count several old new status c s x =
    subst (λ (p : BlocksPlace). ShowsBlocks request table p 1 blocks old new status)
    (place-of-all words blocks count several c s) x

pub returns-in_default : goal.returns-in_default
returns-in_default g c =
    let said = ap (λ (r : ReportValue). r.message) c.input_report.ensures in
    let status = ap (λ (r : ReportValue). r.status) c.input_report.ensures in
    rw (c.write_message.ensures.status ∙ status)
    (not_had (streams_value g.I.Source.state g.O.Drain.state g.O.Output.reader_gone g.M.Drain.state c.blocks_of_files.new.streams)
    (rw c.in_default.is at c.blocks_of_files.ensures.gets) (rw said at c.write_message.ensures.writes, refl))

pub returns-in_default-block_count : goal.returns-in_default-block_count
returns-in_default-block_count g c =
    let said = ap (λ (r : ReportValue). r.message) c.input_report-in_default-block_count.ensures in
    let status = ap (λ (r : ReportValue). r.status) c.input_report-in_default-block_count.ensures in
    rw (c.write_message-in_default-block_count.ensures.status ∙ status)
    (not_had (streams_value g.I.Source.state g.O.Drain.state g.O.Output.reader_gone g.M.Drain.state c.blocks_of_files.new.streams)
    (refused-at-end g.S.System.allows c.args.request.now.form c.args.request.now.files c.in-Some.ensures.gets)
    (rw said at c.write_message-in_default-block_count.ensures.writes, refl))

pub returns : goal.returns
returns g c =
    had (streams_value g.I.Source.state g.O.Drain.state g.O.Output.reader_gone g.M.Drain.state c.blocks_of_files.new.streams)
    (flat_map file_blocks c.in-Some.files.items) c.show_blocks.result c.in-Some.ensures.gets
    (shown-in-place c.args.request.now c.args.names.now c.args.request.now.files
    (flat_map file_blocks c.in-Some.files.items) _ _ _ _ _ (c.in-Some-block_count.ensures.1
    ∙ ap (λ (l : List FileBlocks). length (flat_map file_blocks l)) c.as_slice.ensures.value)
    (ap (λ (l : List (List ℕ)). nat_lt 1 (length l)) c.as_slice-2.ensures)
    c.show_blocks.ensures)
