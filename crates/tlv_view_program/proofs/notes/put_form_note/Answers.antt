use Rattle.std.proofs.Common.{rules}
use Rattle.tlv_io.proofs.Puts.{puts_failed, puts_then}
use Rattle.tlv_view_program.proofs.notes.put_form_note.Goals as goal

pub returns-in_err-put : goal.returns-in_err-put
returns-in_err-put g c = puts_failed g.D.Drain.state _ _ _ _ _ _ c.in_err-put.ensures (search rules)

pub returns-in_err-put-2 : goal.returns-in_err-put-2
returns-in_err-put-2 g c =
    let form = rw (c.as_slice.ensures.value, c.form_words.ensures) at c.in_err-put-2.ensures in
    puts_then g.D.Drain.state _ _ _ _ _ tt _ c.in_ok-put.ensures
    (puts_failed g.D.Drain.state _ _ _ _ _ _ form (search rules))

pub returns-in_err-put_label : goal.returns-in_err-put_label
returns-in_err-put_label g c =
    let form = rw (c.as_slice.ensures.value, c.form_words.ensures) at c.in_ok-put-2.ensures in
    let label = rw c.as_slice-2.ensures.value at c.in_err-put_label.ensures in
    puts_then g.D.Drain.state _ _ _ _ _ tt _ c.in_ok-put.ensures
    (puts_then g.D.Drain.state _ _ _ _ _ tt _ form (puts_failed g.D.Drain.state _ _ _ _ _ _ label (search rules)))

pub returns-in_err-put_layers : goal.returns-in_err-put_layers
returns-in_err-put_layers g c =
    let form = rw (c.as_slice.ensures.value, c.form_words.ensures) at c.in_ok-put-2.ensures in
    let label = rw c.as_slice-2.ensures.value at c.in_ok-put_label.ensures in
    puts_then g.D.Drain.state _ _ _ _ _ tt _ c.in_ok-put.ensures
    (puts_then g.D.Drain.state _ _ _ _ _ tt _ form
    (puts_then g.D.Drain.state _ _ _ _ _ tt _ label
    (puts_failed g.D.Drain.state _ _ _ _ _ _ c.in_err-put_layers.ensures (search rules))))

pub returns : goal.returns
returns g c =
    let form = rw (c.as_slice.ensures.value, c.form_words.ensures) at c.in_ok-put-2.ensures in
    let label = rw c.as_slice-2.ensures.value at c.in_ok-put_label.ensures in
    let state = rw (c.as_slice-3.ensures.value, c.state_words.ensures) at c.put-3.ensures in
    puts_then g.D.Drain.state _ _ _ _ _ tt _ c.in_ok-put.ensures
    (puts_then g.D.Drain.state _ _ _ _ _ tt _ form
    (puts_then g.D.Drain.state _ _ _ _ _ tt _ label
    (puts_then g.D.Drain.state _ _ _ _ _ tt _ c.in_ok-put_layers.ensures state)))
