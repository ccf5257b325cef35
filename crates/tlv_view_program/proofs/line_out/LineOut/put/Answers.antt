use Rattle.std.proofs.Common.{◌≡◌, refl, rules}
use Rattle.tlv_io.proofs.Puts.{puts_no_room, puts_sent, puts_then_as}
use Rattle.tlv_view_program.proofs.line_out.LineOut.put.Goals as goal

pub returns-in_err-flush : goal.returns-in_err-flush
returns-in_err-flush g c =
    let same : c.try_extend_from_slice.new.self ≡ c.args.self.now.held = search rules in
    puts_no_room g.D.Drain.state _ _ _ _ _ (rw same at c.in_err-flush.ensures.puts) (search rules)

pub returns : goal.returns
returns g c =
    let same : c.try_extend_from_slice.new.self ≡ c.args.self.now.held = search rules in
    puts_then_as g.D.Drain.state _ _ _ _ _ _ _ _ (rw same at c.in_ok-flush.ensures.puts)
    (puts_sent g.D.Drain.state _ _ _ _ c.in_ok-flush.ensures.empty c.in_ok-flush.ensures.empty refl c.send.ensures)
    refl
