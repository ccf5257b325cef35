use Rattle.std.proofs.Common.{rules, refl, arith}
use Rattle.std.proofs.lemmas.Grind.{elements}
use Rattle.tlv_io.specs.Out.{drain_of}
use Rattle.tlv_walk.specs.OneTurn.{read_failed, turn_states}
use Rattle.tlv_walk.specs.Private.FollowsPiece.{follow_states}
use Rattle.tlv_walk.proofs.FollowerLemmas.Calls.{calls_answered, calls_given, can_go_on_answered, used_up_ready}
use Rattle.tlv_walk.proofs.FollowerLemmas.Turns.{turns_answered, turns_failed}
use Rattle.tlv_walk.proofs.one_turn.turn_with.Goals as goal

pub returns-in_default-clause-read : goal.returns-in_default-clause-read
returns-in_default-clause-read g c = record {
  calls = search rules;
  are_octets = grind (arith, elements);
  turned = λ b yielded st. read_failed (record { walker = refl; follower = refl }) (search rules);
  goes_on = search rules;
}

pub returns-in_default-follow_piece-clause-read : goal.returns-in_default-follow_piece-clause-read
returns-in_default-follow_piece-clause-read g c = record {
  calls =
      calls_given g.F.Follow.next _ _ _ c.in-Ok.count _ (rw c.in-Ok.is at c.read.ensures) (search rules)
      (search rules) refl (search rules);
  are_octets = grind (arith, elements);
  turned = λ b yielded st.
      turns_failed g.F.Follow.next _ _ c.args.out.now c.follow_piece.new.out b yielded c.read.new.to
      _ _ c.in-Ok.count c.min-walked.result c.args.limit st
      (search rules) c.requires.can.within (search rules) refl (search rules)
      c.in_default-follow_piece.ensures.are_octets
      g.D.Drain.state refl refl _ c.in_default-follow_piece.ensures;
  goes_on = tt;
}

pub result_of_pause-requires : goal.result_of_pause-requires
result_of_pause-requires g c used =
    used_up_ready g.F.Follow.next
    (follow_states c.args.walker.now c.args.follower.now c.args.out.now)
    (follow_states c.follow_piece.new.walker c.follow_piece.new.follower c.follow_piece.new.out)
    _ _ _ c.in-Ok-follow_piece.ensures.pauses used

pub returns-clause-read : goal.returns-clause-read
returns-clause-read g c =
    let old =
    turn_states c.args.walker.now c.args.follower.now (g.S.Source.state c.args.source.now)
    (g.D.Drain.state (drain_of c.args.out.now).now) in
    let new =
    turn_states c.follow_piece.new.walker c.follow_piece.new.follower (g.S.Source.state c.read.new.self)
    (g.D.Drain.state (drain_of c.follow_piece.new.out).now) in
    record {
      calls =
          calls_answered g.F.Follow.next old new c.read.new.to c.in-Ok.count _ new.walker
          _ _ (rw c.in-Ok.is at c.read.ensures)
          (search rules) (search rules) (search rules) c.result_of_pause.ensures;
      are_octets = grind (arith, elements);
      turned = λ b yielded st.
          turns_answered g.F.Follow.next old new c.args.out.now c.follow_piece.new.out b yielded c.read.new.to
          _ _ c.in-Ok.count c.min-walked.result c.args.limit st
          (search rules) c.requires.can.within (search rules) refl (search rules)
          c.in-Ok-follow_piece.ensures.are_octets
          g.D.Drain.state refl refl _ _ c.in-Ok-follow_piece.ensures c.result_of_pause.ensures;
      goes_on =
          can_go_on_answered g.F.Follow.next old new c.read.new.to c.args.out.now c.follow_piece.new.out
          c.in-Ok.count c.min-walked.result c.args.limit _ _ _ _ c.result_of_pause.ensures
          c.in-Ok-follow_piece.ensures.pauses
          (search rules) (search rules) c.requires.can.within;
    }
