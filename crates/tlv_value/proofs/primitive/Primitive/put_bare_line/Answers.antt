use Rattle.std.proofs.Common.{rules, refl}
use Rattle.tlv_io.proofs.Puts.{puts_line, puts_no_room}
use Rattle.tlv_value.proofs.primitive.Primitive.put_bare_line.Goals as goal

pub returns-in_err-make_room : goal.returns-in_err-make_room
returns-in_err-make_room g c = puts_no_room g.D.Drain.state _ _ _ _ _ c.in_err-make_room.ensures.puts (search rules)

pub returns : goal.returns
returns g c = puts_line g.D.Drain.state _ _ _ _ _ _ c.in_ok-make_room.ensures.puts refl c.write_bare_line.ensures
