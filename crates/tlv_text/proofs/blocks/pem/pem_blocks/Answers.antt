use Rattle.std.proofs.Common.{arith}
use Rattle.tlv_text.proofs.BlockLemmas.{block-fits, pem-last, pem-next}
use Rattle.tlv_text.proofs.blocks.pem.pem_blocks.Goals as goal

pub pem_block-requires-clause-within : goal.pem_block-requires-clause-within
pem_block-requires-clause-within c =
    let fits = block-fits c.loop-found.rest.now _ _ _ _ c.in-Some.ensures in
    omega (arith, fits.within, c.line_from-here.ensures.place, c.loop-found.invariant.order)

pub loop-found-smaller : goal.loop-found-smaller
loop-found-smaller c =
    let fits = block-fits c.loop-found.rest.now _ _ _ _ c.in-Some.ensures in
    omega (arith, fits.within)

pub loop-found-preserved : goal.loop-found-preserved
loop-found-preserved c =
    let fits = block-fits c.loop-found.rest.now _ _ _ _ c.in-Some.ensures in
    record {
      before = pem-next c.args.text.now c.loop-found.rest.now _ _ _ _ _ _ _ c.in_ok-block.block
          c.in-Some.ensures c.line_from-here.ensures.place c.in_ok-block.ensures c.in_ok-push.ensures.items
          c.loop-found.invariant.before;
      line = c.line_from-here.ensures.line;
      order = omega (arith, fits.within, c.line_from-here.ensures.place, c.loop-found.invariant.order);
    }

pub returns : goal.returns
returns c = pem-last c.args.text.now c.loop-found.rest.now _ c.in_default.ensures c.loop-found.invariant.before
