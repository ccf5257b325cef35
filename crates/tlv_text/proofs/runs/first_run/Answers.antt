use Rattle.std.proofs.Common.{arith}
use Rattle.tlv_text.proofs.RunLemmas.{no-run-inside, run-found, size-within}
use Rattle.tlv_text.proofs.runs.first_run.Goals as goal

pub returns-then-symbols-ge-FEWEST : goal.returns-then-symbols-ge-FEWEST
returns-then-symbols-ge-FEWEST c =
    let s = c.stretch_size-size.ensures in
    run-found c.args.text.now _ _ c.loop-start.start c.stretch_size-size.result
    c.padding_size-padding.result
    c.loop-start.invariant.before s.size s.within
    (omega (arith, c.leading_symbols-symbols.ensures.count, c.if-symbols-ge-FEWEST.true))
    c.padding_size-padding.ensures.size c.padding_size-padding.ensures.within c.split_at.ensures.front
    c.split_at.ensures.back

pub loop-start-preserved : goal.loop-start-preserved
loop-start-preserved c =
    let s = c.leading_symbols-symbols.ensures in
    record {
      within = size-within c.args.text.now c.loop-start.start _ _ c.loop-start-test.true s.within c.max-start.ensures;
      before = no-run-inside c.args.text.now c.loop-start.start c.leading_symbols-symbols.result _ s.count
          c.if-symbols-ge-FEWEST.false c.max-start.ensures c.loop-start.invariant.before;
    }
