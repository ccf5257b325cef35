use Rattle.std.proofs.Common.{arith}
use Rattle.tlv_text.proofs.LineLemmas.{line_feeds-le}
use Rattle.tlv_text.proofs.blocks.lines.few_line_feeds.Goals as goal

pub overflow_add-count : goal.overflow_add-count
overflow_add-count c = omega (arith, c.loop-character.invariant, line_feeds-le c.args.text.now, c.requires)
