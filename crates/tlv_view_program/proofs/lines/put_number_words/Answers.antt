use Rattle.std.proofs.Common.{decimal, rules}
use Rattle.std.specs.Prelude.{codes}
use Rattle.tlv_view_program.proofs.Items.{all_three, first_fails, second_fails}
use Rattle.tlv_view_program.proofs.lines.put_number_words.Goals as goal

pub returns-in_err-put-in-Some : goal.returns-in_err-put-in-Some
returns-in_err-put-in-Some g c =
    rw c.in-Some.is
    (first_fails g.D.Drain.state _ _ _ (decimal c.in-Some.number) (codes ": ") _ _ c.in_err-put-in-Some.ensures
    (search rules))

pub returns-in_err-put-in-Some-2 : goal.returns-in_err-put-in-Some-2
returns-in_err-put-in-Some-2 g c =
    rw c.in-Some.is
    (second_fails g.D.Drain.state _ _ _ _ _ _ _ _ c.in_ok-put-in-Some.ensures
    (rw (c.as_bytes.ensures.value, c.format.ensures.text) at c.in_err-put-in-Some-2.ensures) (search rules))

pub returns-in_ok-put-in-Some-2 : goal.returns-in_ok-put-in-Some-2
returns-in_ok-put-in-Some-2 g c =
    rw c.in-Some.is
    (all_three g.D.Drain.state _ _ _ _ _ _ _ _ c.in_ok-put-in-Some.ensures
    (rw (c.as_bytes.ensures.value, c.format.ensures.text) at c.in_ok-put-in-Some-2.ensures)
    c.put-in-Some-2.ensures)
