use Rattle.std.proofs.Common.{◌≡◌, ◌++◌, ℕ, List, Option, ap, arith, flat_map, get_or, refl, ◌∙◌}
use Rattle.tlv_program.specs.System.{Allows}
use Rattle.tlv_view_program.specs.declared.request.InputForm.{InputForm}
use Rattle.tlv_view_program.proofs.InputBlockLemmas.{no-words, refused-alone, rest-alone, rest-begins, rest-ends}
use Rattle.tlv_view_program.proofs.InputBlockLemmas.{rest-goes_on, rest-refused, some-words, without-error}
use Rattle.tlv_view_program.specs.InputBlocks.{GetsBlocks, InputBlockValue}
use Rattle.tlv_view_program.specs.Private.BlockParts.{file_blocks}
use Rattle.tlv_view_program.specs.ShowsAll.{file_of_word, files_of_words}
use Rattle.tlv_view_program.specs.Streams.{StreamsValue}
use Rattle.tlv_view_program.specs.declared.input_blocks.FileBlocks.{FileBlocks}
use Rattle.tlv_view_program.proofs.input_blocks.blocks_of_files.Goals as goal
use Rattle.tlv_view_program.proofs.input_blocks.blocks_of_files.Goals.{else-is_empty-via-then-is_empty+else-is_err}
use Rattle.tlv_view_program.proofs.input_blocks.blocks_of_files.Goals.{else-is_empty-via-else-is_empty}

-- the same file
at-file : {S : Type 0} (allows : Allows S) (form : InputForm) (file other : Option (List ℕ)) (room rest : ℕ)
    (old new : StreamsValue S) (added : List InputBlockValue) → file ≡ other
    → GetsBlocks allows form file room old new added rest → GetsBlocks allows form other room old new added rest
at-file allows form file other room rest old new added e x = rw (← e) x

pub returns-then-is_err-clause-gets : goal.returns-then-is_err-clause-gets
returns-then-is_err-clause-gets g c =
    refused-alone g.S.System.allows c.args.request.now.form c.args.request.now.files _ _ _ _ c.add_file.ensures.gets.0
    refl (no-words c.args.request.now.files c.is_empty.result (rw (← c.as_slice-files.ensures) c.is_empty.ensures)
    c.if-is_empty.true)
    c.add_file.ensures.gets.1

pub loop-word-init : goal.loop-word-init
loop-word-init g c = elim c.else-is_empty.branch [
  | else-is_empty-via-then-is_empty+else-is_err w ↦ rw (w.streams-is, w.given-is, w.room-is) record {
    gets =
        rest-alone g.S.System.allows c.args.request.now.form c.args.request.now.files _ _ _ _ _ w.add_file.ensures.gets.0
        refl (no-words c.args.request.now.files c.is_empty.result (rw (← c.as_slice-files.ensures) c.is_empty.ensures)
        w.if-is_empty.true)
        (without-error w.add_file.result _ _ w.is_err.ensures.value w.if-is_err.false w.add_file.ensures.gets.2
        ∙ ap (λ (l : List FileBlocks). flat_map file_blocks l ++ w.add_file.ensures.gets.0) c.new-given.ensures.items)
        w.add_file.ensures.gets.1;
    fit = without-error w.add_file.result _ _ w.is_err.ensures.value w.if-is_err.false w.add_file.ensures.within;
  }
  | else-is_empty-via-else-is_empty w ↦ rw (w.streams-is, w.given-is, w.room-is) record {
    gets =
        rest-begins g.S.System.allows c.args.request.now.form (files_of_words c.args.request.now.files)
        c.args.request.now.files _ _ _ refl
        (some-words c.args.request.now.files c.is_empty.result (rw (← c.as_slice-files.ensures) c.is_empty.ensures)
        w.if-is_empty.false)
        (ap (flat_map file_blocks) c.new-given.ensures.items);
    fit = rw c.new-given.ensures.items (λ k d none. absurd (omega arith));
  }
]

pub returns-then-is_err-2-clause-gets : goal.returns-then-is_err-2-clause-gets
returns-then-is_err-2-clause-gets g c =
    let files = c.as_slice-files.ensures in
    rest-refused g.S.System.allows c.args.request.now.form (files_of_words c.args.request.now.files)
    c.args.request.now.files _ c.loop-word.word-index c.word-item.result _ _ _ _ _
    c.add_file-in-loop-word.ensures.gets.0 (rw (← files) c.loop-word-test.true) c.loop-word.invariant.gets
    (at-file g.S.System.allows c.args.request.now.form _ _ _ _ _ _ _
    (c.file_of_word-file.ensures ∙ ap file_of_word (c.as_str.ensures ∙ c.word-item.is
    ∙ ap (λ (l : List (List ℕ)). get_or l c.loop-word.word-index c.word-item.result) files))
    c.add_file-in-loop-word.ensures.gets.1)

pub loop-word-preserved : goal.loop-word-preserved
loop-word-preserved g c =
    let files = c.as_slice-files.ensures in record {
      gets =
          rest-goes_on g.S.System.allows c.args.request.now.form (files_of_words c.args.request.now.files)
          c.args.request.now.files _ c.loop-word.word-index c.word-item.result _ _ _ _ _
          c.add_file-in-loop-word.ensures.gets.0 _ (rw (← files) c.loop-word-test.true) c.loop-word.invariant.gets
          (at-file g.S.System.allows c.args.request.now.form _ _ _ _ _ _ _
          (c.file_of_word-file.ensures ∙ ap file_of_word (c.as_str.ensures ∙ c.word-item.is
          ∙ ap (λ (l : List (List ℕ)). get_or l c.loop-word.word-index c.word-item.result) files))
          c.add_file-in-loop-word.ensures.gets.1)
          (without-error c.add_file-in-loop-word.result _ _ c.is_err-in-loop-word.ensures.value c.if-is_err-2.false
          c.add_file-in-loop-word.ensures.gets.2);
      fit =
          without-error c.add_file-in-loop-word.result _ _ c.is_err-in-loop-word.ensures.value c.if-is_err-2.false
          c.add_file-in-loop-word.ensures.within;
    }

pub returns-clause-gets : goal.returns-clause-gets
returns-clause-gets g c =
    rest-ends g.S.System.allows c.args.request.now.form (files_of_words c.args.request.now.files)
    c.args.request.now.files _ c.loop-word.word-index _ _ _
    (rw (← c.as_slice-files.ensures) (omega (arith, c.loop-word-test.false))) c.loop-word.invariant.gets
