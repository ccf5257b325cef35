use Rattle.tlv_reasons.proofs.ChainLemmas.{moved-back, moved-end, moved-none, moved-on}
use Rattle.tlv_reasons.proofs.chains.move_lengths.Goals as goal

pub returns-then-not-move_length-clause-unmoved : goal.returns-then-not-move_length-clause-unmoved
returns-then-not-move_length-clause-unmoved c = λ _ changed all.
    moved-none c.args.difference c.args.headers.now c.loop-header.header-index c.loop-header.octets changed
    c.loop-header-test.true (c.move_length.ensures.unmoved c.if-not-move_length.true)
    (c.loop-header.invariant.unmoved changed all)

pub loop-header-preserved : goal.loop-header-preserved
loop-header-preserved c = record {
  moved = λ changed all. c.loop-header.invariant.moved changed
      (moved-on c.args.difference c.args.headers.now c.loop-header.header-index c.loop-header.octets
      c.move_length.new.octets changed c.loop-header-test.true
      (c.move_length.ensures.moved c.if-not-move_length.false) all);
  unmoved = λ changed all.
      moved-back c.args.difference c.args.headers.now c.loop-header.header-index c.loop-header.octets
      c.move_length.new.octets changed c.loop-header-test.true
      (c.move_length.ensures.moved c.if-not-move_length.false) (c.loop-header.invariant.unmoved changed all);
}

pub returns-clause-moved : goal.returns-clause-moved
returns-clause-moved c = λ _.
    c.loop-header.invariant.moved c.loop-header.octets
    (moved-end c.args.difference c.args.headers.now c.loop-header.header-index c.loop-header.octets
    c.loop-header-test.false)
