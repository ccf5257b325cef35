use Rattle.std.proofs.Common.{◌≡◌, ◌+◌, ◌-◌, length}
use Rattle.tlv_walk.specs.declared.follow.Go.TheVariants.{On}
use Rattle.tlv_walk.specs.Private.FollowsPiece.{follow_states}
use Rattle.tlv_walk.proofs.FollowerLemmas.FollowSteps.{HasFollowed}
use Rattle.tlv_walk.proofs.one_piece.follow.Given as goal

abbrev pub invariant-events : goal.invariant-events
invariant-events g l = record {
  follows : HasFollowed g.F.Follow.next g.D.Drain.state
      (follow_states l.initial.walker l.initial.follower l.initial.out) (follow_states l.walker l.follower l.out)
      l.piece l.rest On;
  walked : l.walker.offset + length l.rest ≡ l.initial.walker.offset + length l.piece;
}

-- each event counts, and no more events are yielded than octets are taken
abbrev pub decreases-events : goal.decreases-events
decreases-events g l = l.walker.offset + length l.rest - l.walker.events
