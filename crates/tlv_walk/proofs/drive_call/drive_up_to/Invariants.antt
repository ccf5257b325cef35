use Rattle.std.proofs.Common.{◌≡◌, ◌-◌, ◌≤◌, [], length}
use Rattle.tlv_walk.specs.Walker.{IsReady}
use Rattle.tlv_io.specs.Out.{held_octets, drain_of}
use Rattle.tlv_walk.specs.OneTurn.{turn_states}
use Rattle.tlv_walk.proofs.FollowerLemmas.WalkSoFar.{Walking}
use Rattle.tlv_walk.proofs.drive_call.drive_up_to.Given as goal

abbrev pub invariant-turns : goal.invariant-turns
invariant-turns g l = record {
  taken : l.walker.offset ≤ l.limit;
  walking :
      Walking g.F.Follow.next l.framing l.initial.follower (g.S.Source.state l.initial.source)
      (g.D.Drain.state (drain_of l.initial.out).now)
      (turn_states l.walker l.follower (g.S.Source.state l.source) (g.D.Drain.state (drain_of l.out).now));
  ready : IsReady l.walker;
  room : length l.room ≡ 4096;
  empty : held_octets l.out ≡ [];
  same_reference : (drain_of l.out).ghost_name ≡ (drain_of l.initial.out).ghost_name;
}

abbrev pub decreases-turns : goal.decreases-turns
decreases-turns g l = l.limit - l.walker.offset
