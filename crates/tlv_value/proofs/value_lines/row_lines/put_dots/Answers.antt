use Rattle.std.proofs.Common.{rules, refl}
use Rattle.tlv_io.proofs.Puts.{puts_line, puts_no_room, puts_nothing}
use Rattle.tlv_value.proofs.value_lines.row_lines.put_dots.Goals as goal

pub returns-then-not-is_first : goal.returns-then-not-is_first
returns-then-not-is_first g c = rw c.if-not-is_first.true (puts_nothing g.D.Drain.state _ _)

pub returns-in_err-make_room : goal.returns-in_err-make_room
returns-in_err-make_room g c = puts_no_room g.D.Drain.state _ _ _ _ _ c.in_err-make_room.ensures.puts (search rules)

pub returns : goal.returns
returns g c =
    rw c.if-not-is_first.false
    (puts_line g.D.Drain.state _ _ _ _ _ _ c.in_ok-make_room.ensures.puts refl c.write_dots.ensures)
