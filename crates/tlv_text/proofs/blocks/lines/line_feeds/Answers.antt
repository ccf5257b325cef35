use Rattle.std.proofs.Common.{ap, arith}
use Rattle.tlv_text.proofs.LineLemmas.{line_feeds-le, line_feeds-parts}
use Rattle.tlv_text.specs.Blocks.{line_feeds}
use Rattle.tlv_text.proofs.blocks.lines.line_feeds.Goals as goal

pub overflow_add-count : goal.overflow_add-count
overflow_add-count c =
    let front = ap line_feeds c.split_at.ensures.front in
    let parts = line_feeds-parts 224 c.loop-rest.rest.now in
    let counted = c.few_line_feeds.ensures in
    omega (
      arith,
      c.loop-rest.invariant,
      line_feeds-le c.args.text.now,
      parts,
      front,
      counted,
      c.from-count.ensures,
    )

pub loop-rest-preserved : goal.loop-rest-preserved
loop-rest-preserved c =
    let front = ap line_feeds c.split_at.ensures.front in
    let back = ap line_feeds c.split_at.ensures.back in
    let parts = line_feeds-parts 224 c.loop-rest.rest.now in
    let counted = c.few_line_feeds.ensures in
    omega (arith, c.loop-rest.invariant, parts, front, back, counted, c.from-count.ensures)

pub overflow_add-result : goal.overflow_add-result
overflow_add-result c =
    omega (arith, c.loop-rest.invariant, line_feeds-le c.args.text.now, c.few_line_feeds-2.ensures, c.from.ensures)

pub returns-clause-within : goal.returns-clause-within
returns-clause-within c =
    omega (arith, c.loop-rest.invariant, line_feeds-le c.args.text.now, c.few_line_feeds-2.ensures, c.from.ensures)
