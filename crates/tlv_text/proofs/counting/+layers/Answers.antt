use Rattle.std.proofs.Common.{◌≡◌, ◌+◌, ◌∷◌, ◌++◌, ◌∙◌, [], List, true, ap, append_assoc, arith, length, map, refl, rules}
use Rattle.std.proofs.Common.{subst, sym}
use Rattle.std.specs.List.{All}
use Rattle.std.specs.Vec.Iter.{into_iter_items}
use Rattle.std.proofs.lemmas.List.{length-map, nil_from_length}
use Rattle.std.proofs.lemmas.List.Elements.{All-append}
use Rattle.std.proofs.lemmas.Result.{IfErr-weaker, IfOk-from_err, IfOk-weaker}
use Rattle.tlv_text.specs.Private.Counting.{IsBounded}
use Rattle.tlv_text.specs.Taken.{RunsCount, TextBlocks, TextTooLong, in_layer, is_whole_block}
use Rattle.tlv_text.specs.Taken.{taken_value}
use Rattle.tlv_text.specs.declared.taken.Taken.{Taken}
use Rattle.tlv_text.proofs.CountLemmas.{each-fits, next-fit, one-fits}
use Rattle.tlv_text.proofs.CountingLemmas.{base64-broken, base64-counts, counts-encodings, counts-nothing}
use Rattle.tlv_text.proofs.CountingLemmas.{counts-other, counts-text, fault-weaker, next-run, octets-none, octets-some}
use Rattle.tlv_text.proofs.CountingLemmas.{only-base64, returned-fault, written-back}
use Rattle.tlv_text.proofs.FormLemmas.{dump-counted, first-here, first-later, first-none, inner-control, inner-long}
use Rattle.tlv_text.proofs.FormLemmas.{inner-text}
use Rattle.tlv_text.proofs.FormLemmas.{kept-count, long-here, long-inside, long-later, more-bounded}
use Rattle.tlv_text.proofs.RunCounts.{count-more, runs-all, runs-more, runs-too_many}
use Rattle.tlv_text.proofs.InputLemmas.{none-taken, text-is}
use Rattle.tlv_text.proofs.LoneForms.{base64-first, base64-hex_first, base64-hex_long, base64-long, base64-runs_first}
use Rattle.tlv_text.proofs.LoneForms.{base64-runs_long, hex-first}
use Rattle.tlv_text.specs.Blocks.{IsHexAlone, block_value}
use Rattle.tlv_text.specs.declared.block.Form.TheVariants.{Pem}
use Rattle.tlv_text.specs.declared.text_fault.TextFault.TheVariants.{Memory}
use Rattle.tlv_text.proofs.counting.+layers.Goals as goal

pub counted-returns-then-is_empty-clause-taken : goal.counted-returns-then-is_empty-clause-taken
counted-returns-then-is_empty-clause-taken t c =
    let b = c.args.block in
    counts-nothing _ _ _ (block_value b) c.new.result.items c.new.ensures.items
    (octets-none _ b.octets.items b.octets.ok.0 (sym c.is_empty.ensures ∙ c.if-is_empty.true))

pub counted-returns-in_err-one_taken-clause-fault :
    goal.counted-returns-in_err-one_taken-clause-fault
counted-returns-in_err-one_taken-clause-fault t c =
    returned-fault _ Memory _ c.from_residual-in_err-one_taken.ensures.1 tt

pub counted-returns-then-are_taken_as_encodings-clause-taken :
    goal.counted-returns-then-are_taken_as_encodings-clause-taken
counted-returns-then-are_taken_as_encodings-clause-taken t c =
    let b = c.args.block in
    let inner = c.in_ok-inner.inner in
    counts-encodings _ _ _ (block_value b)
    (octets-some _ b.octets.items b.octets.ok.0 (sym c.is_empty.ensures ∙ c.if-is_empty.false))
    inner.items c.in_ok-inner.ensures.taken _ c.taken_as.result _ _
    (none-taken _ inner.items inner.ok.0 (sym c.is_empty-2.ensures ∙ c.if-is_empty-2.true))
    c.in_ok-one_taken.ensures c.taken_as.ensures.value c.as_slice.ensures.value c.are_taken_as_encodings.ensures
    c.if-are_taken_as_encodings.true

pub counted-returns-clause-taken : goal.counted-returns-clause-taken
counted-returns-clause-taken t c =
    let b = c.args.block in
    let inner = c.in_ok-inner.inner in
    let some = octets-some _ b.octets.items b.octets.ok.0 (sym c.is_empty.ensures ∙ c.if-is_empty.false) in
    let written = written-back _ c.add_layer.new.taken inner.items inner.ok.0
    (c.add_layer.auto.taken ∙ ap length c.as_mut_slice.ensures.value) in
    let values = ap (map taken_value) written ∙ c.add_layer.ensures.values
    ∙ ap (λ (ts : List Taken). map (in_layer c.args.layer) (map taken_value ts)) c.as_mut_slice.ensures.value in
    elim c.else-is_empty-2.branch [
      | goal.counted-else-is_empty-2-via-then-is_empty-2+else-are_taken_as_encodings w ↦
          counts-other _ _ _ (block_value b) some inner.items c.in_ok-inner.ensures.taken _ _ _
          (none-taken _ inner.items inner.ok.0 (sym c.is_empty-2.ensures ∙ w.if-is_empty-2.true))
          w.as_slice.ensures.value w.are_taken_as_encodings.ensures w.if-are_taken_as_encodings.false values
      | goal.counted-else-is_empty-2-via-else-is_empty-2 w ↦
          counts-text _ _ _ (block_value b) _ inner.items _ some c.in_ok-inner.ensures.taken inner.ok.0
          (sym c.is_empty-2.ensures ∙ w.if-is_empty-2.false) values
    ]

pub counted-returns-clause-bounded : goal.counted-returns-clause-bounded
counted-returns-clause-bounded t c =
    let inner = c.in_ok-inner.inner in
    let written = written-back _ c.add_layer.new.taken inner.items inner.ok.0
    (c.add_layer.auto.taken ∙ ap length c.as_mut_slice.ensures.value) in
    subst (λ (ts : List Taken). All (IsBounded (c.args.layers + 1)) ts) (sym written)
    (c.add_layer.ensures.layers c.args.layers
    (subst (λ (ts : List Taken). All (IsBounded c.args.layers) ts) (sym c.as_mut_slice.ensures.value)
    c.in_ok-inner.ensures.bounded))

pub counted_base64-returns-in-Some-clause-taken : goal.counted_base64-returns-in-Some-clause-taken
counted_base64-returns-in-Some-clause-taken t c =
    IfOk-weaker c.counted.result _ _
    (λ ts.
    base64-counts (TextBlocks c.args.layers) c.args.blocks.items c.pop.new.self.items c.in-Some.block _
    c.in-Some.ensures.items c.requires.fitting (sym c.is_complete.ensures ∙ c.if-is_complete.true))
    c.counted.ensures.taken

pub counted_base64-returns-in-Some-clause-fault : goal.counted_base64-returns-in-Some-clause-fault
counted_base64-returns-in-Some-clause-fault t c =
    IfErr-weaker c.counted.result _ _
    (λ fault.
    fault-weaker fault
    (only-base64 (TextBlocks c.args.layers) (TextTooLong c.args.layers) c.args.blocks.items c.pop.new.self.items c.in-Some.block
    c.in-Some.ensures.items c.requires.fitting))
    c.counted.ensures.fault

pub counted_base64-returns-clause-taken : goal.counted_base64-returns-clause-taken
counted_base64-returns-clause-taken t c =
    elim c.in_default.branch [
      | goal.counted_base64-in_default-via-in-Some+else-is_complete w ↦
          base64-broken (TextBlocks c.args.layers) c.args.blocks.items c.pop.new.self.items w.in-Some.block _
          w.in-Some.ensures.items c.requires.fitting (sym w.is_complete.ensures ∙ w.if-is_complete.false)
          c.new.ensures.items
      | goal.counted_base64-in_default-via-in_default w ↦
          let none = rw w.in_default.is at c.pop.ensures.cases in
          let size = c.args.blocks.ok.0 in
          let one = c.requires.fitting in
          absurd (omega (arith, none.0, length-map c.args.blocks.items block_value))
    ]

pub counted_blocks-returns-in_err-counted_dump-in-Dump :
    goal.counted_blocks-returns-in_err-counted_dump-in-Dump
counted_blocks-returns-in_err-counted_dump-in-Dump t c = record {
  taken = IfOk-from_err _ _ c.from_residual.ensures.0;
  bounded = IfOk-from_err _ _ c.from_residual.ensures.0;
  fault = returned-fault _ Memory _ c.from_residual.ensures.1 tt;
}

pub counted_blocks-returns-in_ok-counted_dump-in-Dump :
    goal.counted_blocks-returns-in_ok-counted_dump-in-Dump
counted_blocks-returns-in_ok-counted_dump-in-Dump t c = record {
  taken = dump-counted (TextBlocks c.args.layers) c.args.form _ _ c.in-Dump.is
      c.in_ok-counted_dump-in-Dump.ensures.taken;
  bounded = more-bounded c.args.layers _ c.in_ok-counted_dump-in-Dump.ensures.bounded;
  fault = tt;
}

pub counted_blocks-returns-in_err-kept_blocks-in-Pem :
    goal.counted_blocks-returns-in_err-kept_blocks-in-Pem
counted_blocks-returns-in_err-kept_blocks-in-Pem t c = record {
  taken = IfOk-from_err _ _ c.from_residual-in_err-kept_blocks-in-Pem.ensures.0;
  bounded = IfOk-from_err _ _ c.from_residual-in_err-kept_blocks-in-Pem.ensures.0;
  fault = returned-fault _ Memory _ c.from_residual-in_err-kept_blocks-in-Pem.ensures.1 tt;
}

pub counted_blocks-returns-in-Runs-clause-taken : goal.counted_blocks-returns-in-Runs-clause-taken
counted_blocks-returns-in-Runs-clause-taken t c = rw c.in-Runs.is c.counted_runs.ensures.taken

pub counted_blocks-returns-in_ok-kept_blocks-in-Pem :
    goal.counted_blocks-returns-in_ok-kept_blocks-in-Pem
counted_blocks-returns-in_ok-kept_blocks-in-Pem t c = record {
  taken = kept-count (TextBlocks c.args.layers) c.args.form _ _ c.in-Pem.is c.requires.fitting
      c.in_ok-kept_blocks-in-Pem.ensures.taken;
  bounded = more-bounded c.args.layers _ c.in_ok-kept_blocks-in-Pem.ensures.bounded;
  fault = tt;
}

pub counted_runs-returns-in_err-more-clause-fault :
    goal.counted_runs-returns-in_err-more-clause-fault
counted_runs-returns-in_err-more-clause-fault t c =
    let at = c.loop-block in
    let steps : into_iter_items at.block-iterator ≡ c.in-Some.block ∷ into_iter_items c.next.new.self =
    c.in-Some.ensures.steps.0 in
    let passed : at.yielded ++ (c.in-Some.block ∷ into_iter_items c.next.new.self)
    ≡ into_iter_items c.into_iter-block-iterator.result = rw (← steps) at.invariant.passed in
    returned-fault _ c.in_err-more.field-0.0 _ c.from_residual.ensures.1
    (fault-weaker _
    (next-run (TextBlocks c.args.layers) (TextTooLong c.args.layers) at.yielded _ c.args.blocks.items c.in-Some.block
    (passed ∙ c.into_iter-block-iterator.ensures.into_iter_gives.0))
    c.in_err-more.ensures.fault)

pub counted_runs-returns-in_err-append-clause-fault :
    goal.counted_runs-returns-in_err-append-clause-fault
counted_runs-returns-in_err-append-clause-fault t c =
    returned-fault _ Memory _ c.from_residual-in_err-append.ensures.1 tt

pub counted_runs-returns-in_default-clause-fault : goal.counted_runs-returns-in_default-clause-fault
counted_runs-returns-in_default-clause-fault t c =
    let at = c.loop-block in
    let steps : into_iter_items at.block-iterator ≡ c.in-Some.block ∷ into_iter_items c.next.new.self =
    c.in-Some.ensures.steps.0 in
    let passed : at.yielded ++ (c.in-Some.block ∷ into_iter_items c.next.new.self)
    ≡ into_iter_items c.into_iter-block-iterator.result = rw (← steps) at.invariant.passed in
    runs-too_many (TextBlocks c.args.layers) (TextTooLong c.args.layers) at.yielded _ c.args.blocks.items
    c.in-Some.block at.taken.items c.in_ok-more.more.items at.left at.invariant.counts c.in_ok-more.ensures.taken
    (passed ∙ c.into_iter-block-iterator.ensures.into_iter_gives.0) at.invariant.room
    (rw c.as_slice.ensures.value at c.in_default.ensures)

pub counted_runs-loop-block-preserved : goal.counted_runs-loop-block-preserved
counted_runs-loop-block-preserved t c =
    let at = c.loop-block in
    let b = c.in-Some.block in
    let more = c.in_ok-more.more.items in
    let steps : into_iter_items at.block-iterator ≡ b ∷ into_iter_items c.next.new.self = c.in-Some.ensures.steps.0 in
    let append = c.in_ok-append.ensures.items in
    record {
      counts = runs-more (TextBlocks c.args.layers) at.yielded b at.taken.items more _ at.invariant.counts
          c.in_ok-more.ensures.taken append;
      bounded = subst (λ (ts : List Taken). All (IsBounded (c.args.layers + 1)) ts) (sym append)
          (All-append (IsBounded (c.args.layers + 1)) at.taken.items more at.invariant.bounded
          c.in_ok-more.ensures.bounded);
      fit = (next-fit _ _ _ steps at.invariant.fit).1;
      passed = append_assoc at.yielded (b ∷ []) _ ∙ rw (← steps) at.invariant.passed;
      left = let was = at.invariant.left in
          let gone = c.in-Some.ensures.steps.1 in
          let short = ap length steps in
          omega arith;
      room = let was = at.invariant.room in
          let fewer = rw c.as_slice.ensures.value at c.in-Some-room_after.ensures in
          omega (arith, was, fewer, count-more at.taken.items more _ append);
    }

pub counted_runs-returns-clause-taken : goal.counted_runs-returns-clause-taken
counted_runs-returns-clause-taken t c =
    let at = c.loop-block in
    let none = c.in-None.ensures.steps in
    let empty : into_iter_items at.block-iterator ≡ [] = nil_from_length _ (sym at.invariant.left ∙ none.0) in
    runs-all (TextBlocks c.args.layers) at.yielded _ c.args.blocks.items at.taken.items at.left at.invariant.counts
    (at.invariant.passed ∙ c.into_iter-block-iterator.ensures.into_iter_gives.0) empty at.invariant.room

pub first_blocks-returns-in_err-block-clause-fault :
    goal.first_blocks-returns-in_err-block-clause-fault
first_blocks-returns-in_err-block-clause-fault t c =
    returned-fault _ Memory _ c.from_residual.ensures.1 tt

pub first_blocks-returns-in_err-one_taken-clause-fault :
    goal.first_blocks-returns-in_err-one_taken-clause-fault
first_blocks-returns-in_err-one_taken-clause-fault t c =
    returned-fault _ Memory _ c.from_residual-in_err-one_taken.ensures.1 tt

pub first_blocks-returns-clause-taken : goal.first_blocks-returns-clause-taken
first_blocks-returns-clause-taken t c =
    let alone : IsHexAlone c.args.text.now (block_value c.in-Some.block) = search rules in
    hex-first (TextBlocks c.args.layers) c.args.text.now (block_value c.in-Some.block) _ c.taken_as.result alone
    (sym c.is_kept.ensures ∙ c.if-is_kept.true) c.in_ok-one_taken.ensures c.taken_as.ensures.value

pub first_blocks-returns-in_err-base64-clause-fault :
    goal.first_blocks-returns-in_err-base64-clause-fault
first_blocks-returns-in_err-base64-clause-fault t c =
    returned-fault _ Memory _ c.from_residual-in_err-base64.ensures.1 tt

pub lone_base64_blocks-returns-in_err-hexes-clause-fault :
    goal.lone_base64_blocks-returns-in_err-hexes-clause-fault
lone_base64_blocks-returns-in_err-hexes-clause-fault t c =
    returned-fault _ c.in_err-hexes.field-0.0 _ c.from_residual.ensures.1
    (fault-weaker _
    (base64-hex_long (TextBlocks c.args.layers) c.args.text.now (block_value c.args.block) c.requires.alone
    (TextTooLong c.args.layers))
    c.in_err-hexes.ensures.fault)

pub lone_base64_blocks-returns-then-not-is_empty-clause-taken :
    goal.lone_base64_blocks-returns-then-not-is_empty-clause-taken
lone_base64_blocks-returns-then-not-is_empty-clause-taken t c =
    let hexes = c.in_ok-hexes.hexes in
    base64-hex_first (TextBlocks c.args.layers) c.args.text.now (block_value c.args.block) c.requires.alone
    hexes.items _ c.in_ok-hexes.ensures.taken hexes.ok.0 (sym c.is_empty.ensures ∙ c.if-not-is_empty.true)

pub lone_base64_blocks-returns-in_err-taken-clause-fault :
    goal.lone_base64_blocks-returns-in_err-taken-clause-fault
lone_base64_blocks-returns-in_err-taken-clause-fault t c =
    let hexes = c.in_ok-hexes.hexes in
    returned-fault _ c.in_err-taken.field-0.0 _ c.from_residual-in_err-taken.ensures.1
    (fault-weaker _
    (base64-long (TextBlocks c.args.layers) c.args.text.now (block_value c.args.block) c.requires.alone
    c.requires.complete hexes.items _ c.in_ok-hexes.ensures.taken hexes.ok.0
    (sym c.is_empty.ensures ∙ c.if-not-is_empty.false) (TextTooLong c.args.layers))
    c.in_err-taken.ensures.fault)

pub lone_base64_blocks-returns-then-not-is_empty-2-clause-taken :
    goal.lone_base64_blocks-returns-then-not-is_empty-2-clause-taken
lone_base64_blocks-returns-then-not-is_empty-2-clause-taken t c =
    let hexes = c.in_ok-hexes.hexes in
    let taken = c.in_ok-taken.taken in
    base64-first (TextBlocks c.args.layers) c.args.text.now (block_value c.args.block) c.requires.alone
    c.requires.complete hexes.items _ c.in_ok-hexes.ensures.taken hexes.ok.0
    (sym c.is_empty.ensures ∙ c.if-not-is_empty.false) taken.items _ c.in_ok-taken.ensures.taken taken.ok.0
    (sym c.is_empty-2.ensures ∙ c.if-not-is_empty-2.true)

pub lone_base64_blocks-returns-clause-taken : goal.lone_base64_blocks-returns-clause-taken
lone_base64_blocks-returns-clause-taken t c =
    let hexes = c.in_ok-hexes.hexes in
    let taken = c.in_ok-taken.taken in
    IfOk-weaker c.blocks_in_first_of-2.result _ _
    (λ ts.
    base64-runs_first (TextBlocks c.args.layers) c.args.text.now (block_value c.args.block) c.requires.alone
    c.requires.complete hexes.items _ c.in_ok-hexes.ensures.taken hexes.ok.0
    (sym c.is_empty.ensures ∙ c.if-not-is_empty.false) taken.items _ c.in_ok-taken.ensures.taken taken.ok.0 _
    (sym c.is_empty-2.ensures ∙ c.if-not-is_empty-2.false))
    c.blocks_in_first_of-2.ensures.taken

pub lone_base64_blocks-returns-clause-fault : goal.lone_base64_blocks-returns-clause-fault
lone_base64_blocks-returns-clause-fault t c =
    let hexes = c.in_ok-hexes.hexes in
    let taken = c.in_ok-taken.taken in
    IfErr-weaker c.blocks_in_first_of-2.result _ _
    (λ fault.
    fault-weaker fault
    (base64-runs_long (TextBlocks c.args.layers) c.args.text.now (block_value c.args.block) c.requires.alone
    c.requires.complete hexes.items _ c.in_ok-hexes.ensures.taken hexes.ok.0
    (sym c.is_empty.ensures ∙ c.if-not-is_empty.false) taken.items _ c.in_ok-taken.ensures.taken taken.ok.0
    (TextTooLong c.args.layers) (sym c.is_empty-2.ensures ∙ c.if-not-is_empty-2.false)))
    c.blocks_in_first_of-2.ensures.fault

pub blocks_in_first_of-returns-in_err-blocks-clause-fault :
    goal.blocks_in_first_of-returns-in_err-blocks-clause-fault
blocks_in_first_of-returns-in_err-blocks-clause-fault t c =
    returned-fault _ c.in_err-blocks.field-0.0 _ c.from_residual.ensures.1
    (fault-weaker _ c.loop-form.invariant.long
    (long-here (TextBlocks c.args.layers) (TextTooLong c.args.layers) c.args.text.now c.args.forms.now
    c.loop-form.form-index Pem _ c.loop-form-test.true c.in_err-blocks.ensures.fault))

pub blocks_in_first_of-returns-in_err-taken-clause-fault :
    goal.blocks_in_first_of-returns-in_err-taken-clause-fault
blocks_in_first_of-returns-in_err-taken-clause-fault t c =
    returned-fault _ c.in_err-taken.field-0.0 _ c.from_residual-in_err-taken.ensures.1
    (fault-weaker _
    (λ long.
    c.loop-form.invariant.long
    (long-inside (TextBlocks c.args.layers) (TextTooLong c.args.layers) c.args.text.now c.args.forms.now
    c.loop-form.form-index Pem _ c.loop-form-test.true c.in_ok-blocks.ensures.blocks c.in_ok-blocks.ensures.fit
    long))
    c.in_err-taken.ensures.fault)

pub blocks_in_first_of-returns-then-not-is_empty-clause-taken :
    goal.blocks_in_first_of-returns-then-not-is_empty-clause-taken
blocks_in_first_of-returns-then-not-is_empty-clause-taken t c =
    let taken = c.in_ok-taken.taken in
    c.loop-form.invariant.first _
    (first-here (TextBlocks c.args.layers) c.args.text.now c.args.forms.now c.loop-form.form-index Pem
    _ taken.items _
    c.loop-form-test.true c.in_ok-blocks.ensures.blocks c.in_ok-blocks.ensures.fit c.in_ok-taken.ensures.taken
    taken.ok.0 (sym c.is_empty.ensures ∙ c.if-not-is_empty.true))

pub blocks_in_first_of-loop-form-preserved : goal.blocks_in_first_of-loop-form-preserved
blocks_in_first_of-loop-form-preserved t c =
    let taken = c.in_ok-taken.taken in
    let none = sym c.is_empty.ensures ∙ c.if-not-is_empty.false in
    record {
      first = λ others rests.
          c.loop-form.invariant.first others
          (first-later (TextBlocks c.args.layers) c.args.text.now c.args.forms.now c.loop-form.form-index Pem
          _ taken.items _ others
          c.loop-form-test.true c.in_ok-blocks.ensures.blocks c.in_ok-blocks.ensures.fit
          c.in_ok-taken.ensures.taken taken.ok.0 none rests);
      long = λ more.
          c.loop-form.invariant.long
          (long-later (TextBlocks c.args.layers) (TextTooLong c.args.layers) c.args.text.now c.args.forms.now
          c.loop-form.form-index Pem _ taken.items _
          c.loop-form-test.true c.in_ok-blocks.ensures.blocks c.in_ok-blocks.ensures.fit
          c.in_ok-taken.ensures.taken taken.ok.0 none more);
    }

pub blocks_in_first_of-returns-clause-taken : goal.blocks_in_first_of-returns-clause-taken
blocks_in_first_of-returns-clause-taken t c =
    c.loop-form.invariant.first _
    (first-none (TextBlocks c.args.layers) c.args.text.now c.args.forms.now c.loop-form.form-index
    c.new.result.items
    c.loop-form-test.false c.new.ensures.items)

pub text_blocks-returns-in_err-ascii-clause-fault :
    goal.text_blocks-returns-in_err-ascii-clause-fault
text_blocks-returns-in_err-ascii-clause-fault t c =
    returned-fault _ Memory _ c.from_residual.ensures.1 tt

pub text_blocks-returns-then-has_controls-clause-taken : goal.text_blocks-returns-then-has_controls-clause-taken
text_blocks-returns-then-has_controls-clause-taken t c =
    inner-control c.args.layers c.args.octets.now c.text_in-text.result.now _ c.if-layers-eq0.false
    (text-is c.args.octets.now _ _ c.text_in-text.ensures c.in_ok-ascii.ensures)
    (sym c.has_controls.ensures ∙ c.if-has_controls.true) c.new-then-has_controls.ensures.items

pub text_blocks-returns-clause-taken : goal.text_blocks-returns-clause-taken
text_blocks-returns-clause-taken t c =
    IfOk-weaker c.first_blocks.result _ _
    (λ ts.
    inner-text c.args.layers c.args.octets.now c.text_in-text.result.now _ c.if-layers-eq0.false
    (text-is c.args.octets.now _ _ c.text_in-text.ensures c.in_ok-ascii.ensures)
    (sym c.has_controls.ensures ∙ c.if-has_controls.false))
    c.first_blocks.ensures.taken

pub text_blocks-returns-clause-fault : goal.text_blocks-returns-clause-fault
text_blocks-returns-clause-fault t c =
    IfErr-weaker c.first_blocks.result _ _
    (λ fault.
    fault-weaker fault
    (inner-long c.args.layers c.args.octets.now c.text_in-text.result.now c.if-layers-eq0.false
    (text-is c.args.octets.now _ _ c.text_in-text.ensures c.in_ok-ascii.ensures)
    (sym c.has_controls.ensures ∙ c.if-has_controls.false)))
    c.first_blocks.ensures.fault

pub counted-returns-in_err-inner-clause-fault : goal.counted-returns-in_err-inner-clause-fault
counted-returns-in_err-inner-clause-fault t c =
    let b = c.args.block in
    returned-fault _ c.in_err-inner.field-0.0 _ c.from_residual.ensures.1
    (fault-weaker _
    (λ (long : (is_whole_block b.state ≡ true) × TextTooLong c.args.layers b.octets.items). record {
      some = octets-some _ b.octets.items b.octets.ok.0 (sym c.is_empty.ensures ∙ c.if-is_empty.false);
      whole = long.0;
      text = long.1;
    })
    c.in_err-inner.ensures.fault)

pub blocks_in_first_of-counted_blocks-requires : goal.blocks_in_first_of-counted_blocks-requires
blocks_in_first_of-counted_blocks-requires t c =
    let fit = each-fits c.args.text.now _ c.in_ok-blocks.ensures.fit in
    search (rules, arith)

pub lone_base64_blocks-counted-requires : goal.lone_base64_blocks-counted-requires
lone_base64_blocks-counted-requires t c =
    let fit = one-fits c.args.text.now (block_value c.args.block) c.requires.alone.fits in
    search (rules, arith)

pub counted_runs-loop-block-init : goal.counted_runs-loop-block-init
counted_runs-loop-block-init t c =
    let none = c.new-taken.ensures.items in
    record {
      counts = rw none RunsCount.no_more;
      bounded = rw none (λ k d less. absurd (omega (arith, less)));
      fit = search rules;
      passed = refl;
      left = search rules;
      room = rw none (omega arith);
    }
