use Rattle.std.proofs.Common.{rules}
use Rattle.tlv_io.proofs.Puts.{puts_failed, puts_then}
use Rattle.tlv_view_program.proofs.notes.put_other_text.Goals as goal

pub returns-in_err-put : goal.returns-in_err-put
returns-in_err-put g c = puts_failed g.D.Drain.state _ _ _ _ _ _ c.in_err-put.ensures (search rules)

pub returns-in_err-put-2 : goal.returns-in_err-put-2
returns-in_err-put-2 g c =
    puts_then g.D.Drain.state _ _ _ _ _ tt _ c.in_ok-put.ensures
    (puts_failed g.D.Drain.state _ _ _ _ _ _ c.in_err-put-2.ensures (search rules))

pub returns : goal.returns
returns g c =
    puts_then g.D.Drain.state _ _ _ _ _ tt _ c.in_ok-put.ensures
    (puts_then g.D.Drain.state _ _ _ _ _ tt _ c.in_ok-put-2.ensures c.put-3.ensures)
