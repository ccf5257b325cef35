use Rattle.std.proofs.Common.{arith, length}
use Rattle.tlv_text.proofs.BlockLemmas.{refused-within, run-fits, run-last, run-next, run-some, run-value, within-more}
use Rattle.tlv_text.proofs.blocks.runs.run_blocks.Goals as goal

pub state_at_place-state-requires-clause-within : goal.state_at_place-state-requires-clause-within
state_at_place-state-requires-clause-within c =
    let fits = run-fits c.loop-run.rest.now _ _ _ c.in-Some.ensures in
    within-more (length c.in-Some.run'.text.now) _ c.in_ok-decoded.decoded.refused
    (omega (arith, fits, c.line_from-here.ensures.place, c.loop-run.invariant.order))
    (refused-within _ _ _ _ c.in_ok-decoded.ensures)

pub loop-run-smaller : goal.loop-run-smaller
loop-run-smaller c =
    omega (
      arith,
      run-fits c.loop-run.rest.now _ _ _ c.in-Some.ensures,
      run-some c.loop-run.rest.now _ _ _ c.in-Some.ensures,
    )

pub loop-run-preserved : goal.loop-run-preserved
loop-run-preserved c =
    let fits = run-fits c.loop-run.rest.now _ _ _ c.in-Some.ensures in
    let is =
    run-value c.args.text.now c.line_from-here.result.place c.line_from-here.result.line c.new.result.items
    c.in_ok-decoded.decoded.octets.items c.in_ok-decoded.decoded.refused c.state_at_place-state.result
    c.line_from-here.ensures.line.line c.new.ensures c.state_at_place-state.ensures in
    record {
      before = run-next c.args.text.now c.loop-run.rest.now _ _ _ _ _ c.in_ok-decoded.decoded.refused _ _ _
          c.in-Some.ensures c.line_from-here.ensures.place c.in_ok-decoded.ensures is c.in_ok-push.ensures.items
          c.loop-run.invariant.before;
      line = c.line_from-here.ensures.line;
      order = omega (arith, fits, c.line_from-here.ensures.place, c.loop-run.invariant.order);
    }

pub returns : goal.returns
returns c = run-last c.args.text.now c.loop-run.rest.now _ c.in_default.ensures c.loop-run.invariant.before
