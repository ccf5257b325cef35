use Rattle.std.proofs.Common.{rules}
use Rattle.tlv_open.specs.BrokenLine.{broken_line}
use Rattle.tlv_view_program.proofs.Items.{fails_item, puts_item}
use Rattle.tlv_view_program.specs.Lines.{placed_line}
use Rattle.tlv_view_program.specs.Private.BlockParts.{name_value}
use Rattle.tlv_view_program.proofs.lines.put_broken_lines.Goals as goal

pub returns-in_err-put_placed_line : goal.returns-in_err-put_placed_line
returns-in_err-put_placed_line g c =
    fails_item (λ b. placed_line (name_value c.args.name) (broken_line b)) g.D.Drain.state _ _ _ c.args.broken.now
    c.loop-string.string-index _ _ _ c.loop-string-test.true c.loop-string.invariant
    (rw (c.as_slice.ensures.value, c.broken_line.ensures) at c.in_err-put_placed_line.ensures) (search rules)

pub loop-string-preserved : goal.loop-string-preserved
loop-string-preserved g c =
    puts_item (λ b. placed_line (name_value c.args.name) (broken_line b)) g.D.Drain.state _ _ _ c.args.broken.now
    c.loop-string.string-index _ c.loop-string-test.true c.loop-string.invariant
    (rw (c.as_slice.ensures.value, c.broken_line.ensures) at c.in_ok-put_placed_line.ensures)
