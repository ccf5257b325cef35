use Rattle.std.proofs.Common.{rules}
use Rattle.tlv_view_program.proofs.Items.{all_three, first_fails, second_fails}
use Rattle.tlv_view_program.proofs.lines.put_block_line.Goals as goal

pub returns-in_err-put : goal.returns-in_err-put
returns-in_err-put g c =
    first_fails g.D.Drain.state _ _ _ _ _ _ _
    (rw (c.as_slice.ensures.value, c.block_start.ensures) at c.in_err-put.ensures) (search rules)

pub returns-in_err-put_title : goal.returns-in_err-put_title
returns-in_err-put_title g c =
    second_fails g.D.Drain.state _ _ _ _ _ _ _ _
    (rw (c.as_slice.ensures.value, c.block_start.ensures) at c.in_ok-put.ensures)
    c.in_err-put_title.ensures (search rules)

pub returns : goal.returns
returns g c =
    all_three g.D.Drain.state _ _ _ _ _ _ _ _
    (rw (c.as_slice.ensures.value, c.block_start.ensures) at c.in_ok-put.ensures)
    c.in_ok-put_title.ensures c.put-2.ensures
