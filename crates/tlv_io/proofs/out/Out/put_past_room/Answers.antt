use Rattle.std.proofs.Common.{◌≡◌, [], arith, refl}
use Rattle.std.proofs.lemmas.List.{nil_from_length}
use Rattle.tlv_io.proofs.Puts.{prefix_none, puts_failed_in, puts_sent, puts_then_as}
use Rattle.tlv_io.proofs.out.Out.put_past_room.Goals.{then-octets-room+in_ok-flush, else-octets-room}
use Rattle.tlv_io.proofs.out.Out.put_past_room.Goals as goal

pub returns-in_err-flush-clause-puts : goal.returns-in_err-flush-clause-puts
returns-in_err-flush-clause-puts g c = grind (arith, puts_failed_in, prefix_none)

pub returns-then-octets-ge-CAPACITY-clause-puts : goal.returns-then-octets-ge-CAPACITY-clause-puts
returns-then-octets-ge-CAPACITY-clause-puts g c = elim c.if-octets-room.branch [
  | then-octets-room+in_ok-flush w ↦
      rw w.self-is
      (puts_then_as g.D.Drain.state _ _ _ [] _ _ _ _ w.in_ok-flush.ensures.puts
      (puts_sent g.D.Drain.state _ _ _ _ w.in_ok-flush.ensures.empty w.in_ok-flush.ensures.empty refl
      (rw w.self-is at c.send.ensures))
      refl)
  | else-octets-room w ↦
      let empty : c.args.self.now.held ≡ [] =
      nil_from_length _ (omega (arith, w.if-octets-room.false, c.if-octets-ge-CAPACITY.true, c.room.ensures)) in
      rw w.self-is (puts_sent g.D.Drain.state _ _ _ _ empty empty refl (rw w.self-is at c.send.ensures))
]
