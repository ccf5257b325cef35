use Rattle.std.proofs.Common.{rules, ◌≡◌, ℕ, ◌+◌, List, [], ◌∷◌, length, refl, sym, ap₂, ◌∙◌, subst}
use Rattle.std.proofs.lemmas.Result.{err_from_is_err_and}
use Rattle.tlv_walk.specs.declared.follow.Go.{Go}
use Rattle.tlv_walk.specs.declared.follow.Go.TheVariants as go
use Rattle.tlv_walk.specs.declared.walker.short_way.HolderEnd.{HolderEnd}
use Rattle.tlv_walk.specs.declared.walker.short_way.HolderEnd.TheVariants as end
use Rattle.tlv_walk.specs.Events.{EventValue, event_value_of}
use Rattle.tlv_walk.specs.WalkerState.{WalkerState}
use Rattle.tlv_walk.specs.Private.FollowsPiece.{WalksOver}
use Rattle.tlv_walk.specs.Private.WalkerCalls.{end_event}
use Rattle.tlv_walk.proofs.FollowerLemmas.FollowSteps.{fails_event, follows_event, follows_none, pauses_enough}
use Rattle.tlv_walk.proofs.FollowerLemmas.FollowSteps.{pauses_fault, pauses_used_up}
use Rattle.tlv_walk.proofs.FollowerLemmas.OneEvent.{fails_one, follows_no_more, follows_one, follows_same}
use Rattle.tlv_walk.proofs.FollowerLemmas.OneEvent.{no_more_walked, one_counts}
use Rattle.tlv_walk.proofs.FollowerLemmas.Prefixes.{fails_prefix, follows_left, follows_prefix, left_walked}
use Rattle.tlv_walk.proofs.FollowerLemmas.Prefixes.{prefix_passes}
use Rattle.tlv_walk.proofs.WalkerLemmas.StepStands.{event_offset, stands_all, walked_event}
use Rattle.tlv_walk.proofs.one_piece.follow.Goals.{in-Some+in-Close+in_ok-go-in-Close}
use Rattle.tlv_walk.proofs.one_piece.follow.Goals.{in-Some+in-Leave+in_ok-go-in-Leave}
use Rattle.tlv_walk.proofs.one_piece.follow.Goals.{in_default+in-Some-constructed+in_ok-go}
use Rattle.tlv_walk.proofs.one_piece.follow.Goals.{
  in_default+in_default-constructed+in-Some-contents_event+in_ok-go-2,
}
use Rattle.tlv_walk.proofs.one_piece.follow.Goals.{
  in_default+in_default-constructed+in_default-contents_event+in_ok-go-3+in-Some-2,
}
use Rattle.tlv_walk.proofs.one_piece.follow.Goals.{
  in_default+in_default-constructed+in_default-contents_event+in_ok-go-3+in-None+in-Event+in_ok-go-in-Event,
}
use Rattle.tlv_walk.proofs.one_piece.follow.Goals as goal

-- nothing was taken
counts-of_none : (v w : WalkerState) (xs ys : List ℕ) → v ≡ w → xs ≡ ys → v.offset + length xs ≡ w.offset + length ys
counts-of_none v w xs ys e f = ap₂ (λ (m : WalkerState) (o : List ℕ). m.offset + length o) e f

-- so the next step is the first
unmoved_event : (v w u : WalkerState) (xs ys rest : List ℕ) (e : EventValue) → v ≡ w → xs ≡ ys
    → WalksOver v u xs rest (e ∷ []) → WalksOver w u ys rest (e ∷ [])
unmoved_event v w u xs ys rest e p q t =
    subst (λ (o : List ℕ). WalksOver w u o rest (e ∷ [])) q
    (subst (λ (m : WalkerState). WalksOver m u xs rest (e ∷ [])) p t)

-- the end that was found is this one
ended : (v u : WalkerState) (xs rest : List ℕ) (k m : HolderEnd) → k ≡ m
    → WalksOver v u xs rest (event_value_of (end_event k) ∷ [])
    → WalksOver v u xs rest (event_value_of (end_event m) ∷ [])
ended v u xs rest k m is t =
    subst (λ (e : HolderEnd). WalksOver v u xs rest (event_value_of (end_event e) ∷ [])) is t

not_enough : (g : Go) → (g ≡ go.Enough → ⊥) → g ≡ go.On
not_enough go.On n = refl
not_enough go.Enough n = absurd (n refl)

not_on : (g : Go) → (g ≡ go.On → ⊥) → g ≡ go.Enough
not_on go.On n = absurd (n refl)
not_on go.Enough n = refl

pub events-init : goal.events-init
events-init g c = record { follows = follows_none g.F.Follow.next g.D.Drain.state _ _; walked = refl }

pub events-preserved-then-branch : goal.events-preserved-then-branch
events-preserved-then-branch g c = record {
  follows =
      follows_prefix g.F.Follow.next g.D.Drain.state _ _ _ _ _ _ _ c.events.invariant.follows c.if-branch.true
      c.in_ok-follow_primitive.ensures;
  walked =
      (prefix_passes g.F.Follow.next g.D.Drain.state _ _ _ _ _ c.if-branch.true c.in_ok-follow_primitive.ensures).counts
      ∙ c.events.invariant.walked;
}

pub events-preserved : goal.events-preserved
events-preserved g c =
    let on : c.match-close.go ≡ go.On = not_enough _ (search rules) in
    let left =
    follows_left g.F.Follow.next g.D.Drain.state _ _ _ _ _ _ _ c.events.invariant.follows c.if-branch.false
    c.in_ok-follow_primitive.ensures in
    elim c.match-close.branch [
      | in-Some+in-Close+in_ok-go-in-Close w ↦ record {
        follows =
            rw (w.out-is, w.follower-is, w.walker-is, w.rest-is, ← on, w.go-is)
            (follows_event g.F.Follow.next g.D.Drain.state _ _ _ _ _ _ _ _ left
            (ended _ _ _ _ _ (end.Close w.in-Close.offset) w.in-Close.is
            (stands_all _ _ _ _ _ w.in-Some.ensures.yields)) w.in_ok-go-in-Close.ensures);
        walked =
            rw (w.walker-is, w.rest-is)
            (w.in-Some.ensures.counts.0.counts
            ∙ left_walked g.F.Follow.next g.D.Drain.state _ _ _ _ _ c.if-branch.false
            c.in_ok-follow_primitive.ensures
            ∙ c.events.invariant.walked);
      }
      | in-Some+in-Leave+in_ok-go-in-Leave w ↦ record {
        follows =
            rw (w.out-is, w.follower-is, w.walker-is, w.rest-is, ← on, w.go-is)
            (follows_event g.F.Follow.next g.D.Drain.state _ _ _ _ _ _ _ _ left
            (ended _ _ _ _ _ end.Leave w.in-Leave.is
            (stands_all _ _ _ _ _ w.in-Some.ensures.yields)) w.in_ok-go-in-Leave.ensures);
        walked =
            rw (w.walker-is, w.rest-is)
            (w.in-Some.ensures.counts.0.counts
            ∙ left_walked g.F.Follow.next g.D.Drain.state _ _ _ _ _ c.if-branch.false
            c.in_ok-follow_primitive.ensures
            ∙ c.events.invariant.walked);
      }
      | in_default+in-Some-constructed+in_ok-go w ↦ record {
        follows =
            rw (w.out-is, w.follower-is, w.walker-is, w.rest-is, ← on, w.go-is)
            (follows_event g.F.Follow.next g.D.Drain.state _ _ _ _ _ _ _ _ left
            (unmoved_event _ _ _ _ _ _ _ (w.in_default.ensures.counts.0) (w.in_default.ensures.counts.1)
            (stands_all _ _ _ _ _ w.in-Some-constructed.ensures.steps.yields)) w.in_ok-go.ensures);
        walked =
            rw (w.walker-is, w.rest-is)
            (w.in-Some-constructed.ensures.steps.counts.0.counts
            ∙ counts-of_none _ _ _ _ (w.in_default.ensures.counts.0) (w.in_default.ensures.counts.1)
            ∙ left_walked g.F.Follow.next g.D.Drain.state _ _ _ _ _ c.if-branch.false
            c.in_ok-follow_primitive.ensures
            ∙ c.events.invariant.walked);
      }
      | in_default+in_default-constructed+in-Some-contents_event+in_ok-go-2 w ↦ record {
        follows =
            rw (w.out-is, w.follower-is, w.walker-is, w.rest-is, ← on, w.go-is)
            (follows_event g.F.Follow.next g.D.Drain.state _ _ _ _ _ _ _ _ left
            (unmoved_event _ _ _ _ _ _ _
            (w.in_default-constructed.ensures.steps.counts.0 ∙ w.in_default.ensures.counts.0)
            (w.in_default-constructed.ensures.steps.counts.1 ∙ w.in_default.ensures.counts.1)
            (stands_all _ _ _ _ _ w.in-Some-contents_event.ensures.steps.yields))
            w.in_ok-go-2.ensures);
        walked =
            rw (w.walker-is, w.rest-is)
            (w.in-Some-contents_event.ensures.steps.counts.0.counts
            ∙ counts-of_none _ _ _ _ (w.in_default-constructed.ensures.steps.counts.0 ∙ w.in_default.ensures.counts.0)
            (w.in_default-constructed.ensures.steps.counts.1 ∙ w.in_default.ensures.counts.1)
            ∙ left_walked g.F.Follow.next g.D.Drain.state _ _ _ _ _ c.if-branch.false
            c.in_ok-follow_primitive.ensures
            ∙ c.events.invariant.walked);
      }
      | in_default+in_default-constructed+in_default-contents_event+in_ok-go-3+in-Some-2 w ↦ record {
        follows =
            rw (w.out-is, w.follower-is, w.walker-is, w.rest-is, ← on, w.go-is)
            (follows_one g.F.Follow.next g.D.Drain.state _ _ _ _ _ _ _ _ w.in-Some-2.is
            (follows_same g.F.Follow.next g.D.Drain.state _ _ _ _ _ _ left
            (w.in_default-contents_event.ensures.steps.counts.0 ∙ w.in_default-constructed.ensures.steps.counts.0
            ∙ w.in_default.ensures.counts.0) refl refl (w.in_default-contents_event.ensures.steps.counts.1
            ∙ w.in_default-constructed.ensures.steps.counts.1
            ∙ w.in_default.ensures.counts.1)) w.in_ok-go-3.ensures);
        walked =
            rw (w.walker-is, w.rest-is)
            ((one_counts g.F.Follow.next g.D.Drain.state _ _ _ _ _ _ w.in-Some-2.is
            w.in_ok-go-3.ensures).counts
            ∙ counts-of_none _ _ _ _ (w.in_default-contents_event.ensures.steps.counts.0
            ∙ w.in_default-constructed.ensures.steps.counts.0 ∙ w.in_default.ensures.counts.0)
            (w.in_default-contents_event.ensures.steps.counts.1 ∙ w.in_default-constructed.ensures.steps.counts.1
            ∙ w.in_default.ensures.counts.1)
            ∙ left_walked g.F.Follow.next g.D.Drain.state _ _ _ _ _ c.if-branch.false
            c.in_ok-follow_primitive.ensures
            ∙ c.events.invariant.walked);
      }
      | in_default+in_default-constructed+in_default-contents_event+in_ok-go-3+in-None+in-Event+in_ok-go-in-Event w ↦ record {
        follows =
            rw (w.out-is, w.follower-is, w.walker-is, w.rest-is, ← on, w.go-is)
            (follows_event g.F.Follow.next g.D.Drain.state _ _ _ _ _ _ _ _
            (follows_no_more g.F.Follow.next g.D.Drain.state _ _ _ _ _ _ _ w.in-None.is
            (follows_same g.F.Follow.next g.D.Drain.state _ _ _ _ _ _ left
            (w.in_default-contents_event.ensures.steps.counts.0 ∙ w.in_default-constructed.ensures.steps.counts.0
            ∙ w.in_default.ensures.counts.0) refl refl (w.in_default-contents_event.ensures.steps.counts.1
            ∙ w.in_default-constructed.ensures.steps.counts.1
            ∙ w.in_default.ensures.counts.1)) w.in_ok-go-3.ensures)
            (walked_event _ _ _ _ _ w.in-Event.ensures)
            w.in_ok-go-in-Event.ensures);
        walked =
            rw (w.walker-is, w.rest-is)
            (event_offset _ _ _ _ _ w.in-Event.ensures
            ∙ no_more_walked g.F.Follow.next g.D.Drain.state _ _ _ _ _ w.in-None.is
            w.in_ok-go-3.ensures
            ∙ counts-of_none _ _ _ _ (w.in_default-contents_event.ensures.steps.counts.0
            ∙ w.in_default-constructed.ensures.steps.counts.0 ∙ w.in_default.ensures.counts.0)
            (w.in_default-contents_event.ensures.steps.counts.1 ∙ w.in_default-constructed.ensures.steps.counts.1
            ∙ w.in_default.ensures.counts.1)
            ∙ left_walked g.F.Follow.next g.D.Drain.state _ _ _ _ _ c.if-branch.false
            c.in_ok-follow_primitive.ensures
            ∙ c.events.invariant.walked);
      }
    ]

pub returns-in_err-follow_primitive : goal.returns-in_err-follow_primitive
returns-in_err-follow_primitive g c =
    let p = err_from_is_err_and c.from_residual.result c.from_residual.ensures.1 in rw p.1
    (fails_prefix g.F.Follow.next g.D.Drain.state _ _ _ _ _ _ _ _ c.events.invariant.follows
    c.in_err-follow_primitive.ensures)

pub returns-in_err-go-in-Close : goal.returns-in_err-go-in-Close
returns-in_err-go-in-Close g c =
    let p = err_from_is_err_and c.from_residual-in_err-go-in-Close.result
    c.from_residual-in_err-go-in-Close.ensures.1 in
    let left =
    follows_left g.F.Follow.next g.D.Drain.state _ _ _ _ _ _ _ c.events.invariant.follows c.if-branch.false
    c.in_ok-follow_primitive.ensures in
    rw p.1
    (fails_event g.F.Follow.next g.D.Drain.state _ _ _ _ _ _ _ _ left
    (ended _ _ _ _ _ (end.Close c.in-Close.offset) c.in-Close.is
    (stands_all _ _ _ _ _ c.in-Some.ensures.yields))
    _ _ c.in_err-go-in-Close.ensures)

pub returns-in_err-go-in-Leave : goal.returns-in_err-go-in-Leave
returns-in_err-go-in-Leave g c =
    let p = err_from_is_err_and c.from_residual-in_err-go-in-Leave.result
    c.from_residual-in_err-go-in-Leave.ensures.1 in
    let left =
    follows_left g.F.Follow.next g.D.Drain.state _ _ _ _ _ _ _ c.events.invariant.follows c.if-branch.false
    c.in_ok-follow_primitive.ensures in
    rw p.1
    (fails_event g.F.Follow.next g.D.Drain.state _ _ _ _ _ _ _ _ left
    (ended _ _ _ _ _ end.Leave c.in-Leave.is (stands_all _ _ _ _ _ c.in-Some.ensures.yields))
    _ _ c.in_err-go-in-Leave.ensures)

pub returns-in_err-go : goal.returns-in_err-go
returns-in_err-go g c =
    let p = err_from_is_err_and c.from_residual-in_err-go.result c.from_residual-in_err-go.ensures.1 in
    let left =
    follows_left g.F.Follow.next g.D.Drain.state _ _ _ _ _ _ _ c.events.invariant.follows c.if-branch.false
    c.in_ok-follow_primitive.ensures in
    rw p.1
    (fails_event g.F.Follow.next g.D.Drain.state _ _ _ _ _ _ _ _ left
    (unmoved_event _ _ _ _ _ _ _ (c.in_default.ensures.counts.0) (c.in_default.ensures.counts.1)
    (stands_all _ _ _ _ _ c.in-Some-constructed.ensures.steps.yields))
    _ _ c.in_err-go.ensures)

pub returns-in_err-go-2 : goal.returns-in_err-go-2
returns-in_err-go-2 g c =
    let p = err_from_is_err_and c.from_residual-in_err-go-2.result
    c.from_residual-in_err-go-2.ensures.1 in
    let left =
    follows_left g.F.Follow.next g.D.Drain.state _ _ _ _ _ _ _ c.events.invariant.follows c.if-branch.false
    c.in_ok-follow_primitive.ensures in
    rw p.1
    (fails_event g.F.Follow.next g.D.Drain.state _ _ _ _ _ _ _ _ left
    (unmoved_event _ _ _ _ _ _ _ (c.in_default-constructed.ensures.steps.counts.0 ∙ c.in_default.ensures.counts.0)
    (c.in_default-constructed.ensures.steps.counts.1 ∙ c.in_default.ensures.counts.1)
    (stands_all _ _ _ _ _ c.in-Some-contents_event.ensures.steps.yields))
    _ _ c.in_err-go-2.ensures)

pub returns-in_err-go-3 : goal.returns-in_err-go-3
returns-in_err-go-3 g c =
    let p = err_from_is_err_and c.from_residual-in_err-go-3.result
    c.from_residual-in_err-go-3.ensures.1 in
    let left =
    follows_left g.F.Follow.next g.D.Drain.state _ _ _ _ _ _ _ c.events.invariant.follows c.if-branch.false
    c.in_ok-follow_primitive.ensures in
    rw p.1
    (fails_one g.F.Follow.next g.D.Drain.state _ _ _ _ _ _ _ _
    (follows_same g.F.Follow.next g.D.Drain.state _ _ _ _ _ _ left (c.in_default-contents_event.ensures.steps.counts.0
    ∙ c.in_default-constructed.ensures.steps.counts.0 ∙ c.in_default.ensures.counts.0) refl refl
    (c.in_default-contents_event.ensures.steps.counts.1 ∙ c.in_default-constructed.ensures.steps.counts.1
    ∙ c.in_default.ensures.counts.1)) c.in_err-go-3.ensures)

pub returns-in_err-go-in-Event : goal.returns-in_err-go-in-Event
returns-in_err-go-in-Event g c =
    let p = err_from_is_err_and c.from_residual-in_err-go-in-Event.result c.from_residual-in_err-go-in-Event.ensures.1
    in
    let left =
    follows_left g.F.Follow.next g.D.Drain.state _ _ _ _ _ _ _ c.events.invariant.follows c.if-branch.false
    c.in_ok-follow_primitive.ensures in
    rw p.1
    (fails_event g.F.Follow.next g.D.Drain.state _ _ _ _ _ _ _ _
    (follows_no_more g.F.Follow.next g.D.Drain.state _ _ _ _ _ _ _ c.in-None.is
    (follows_same g.F.Follow.next g.D.Drain.state _ _ _ _ _ _ left (c.in_default-contents_event.ensures.steps.counts.0
    ∙ c.in_default-constructed.ensures.steps.counts.0 ∙ c.in_default.ensures.counts.0) refl refl
    (c.in_default-contents_event.ensures.steps.counts.1 ∙ c.in_default-constructed.ensures.steps.counts.1
    ∙ c.in_default.ensures.counts.1)) c.in_ok-go-3.ensures)
    (walked_event _ _ _ _ _ c.in-Event.ensures)
    _ _ c.in_err-go-in-Event.ensures)

pub returns-in-NeedMore : goal.returns-in-NeedMore
returns-in-NeedMore g c =
    let left =
    follows_left g.F.Follow.next g.D.Drain.state _ _ _ _ _ _ _ c.events.invariant.follows c.if-branch.false
    c.in_ok-follow_primitive.ensures in
    pauses_used_up g.F.Follow.next g.D.Drain.state _ _ _ _ _ _
    (follows_no_more g.F.Follow.next g.D.Drain.state _ _ _ _ _ _ _ c.in-None.is
    (follows_same g.F.Follow.next g.D.Drain.state _ _ _ _ _ _ left (c.in_default-contents_event.ensures.steps.counts.0
    ∙ c.in_default-constructed.ensures.steps.counts.0 ∙ c.in_default.ensures.counts.0) refl refl
    (c.in_default-contents_event.ensures.steps.counts.1 ∙ c.in_default-constructed.ensures.steps.counts.1
    ∙ c.in_default.ensures.counts.1)) c.in_ok-go-3.ensures)
    c.in-NeedMore.ensures
    (no_more_walked g.F.Follow.next g.D.Drain.state _ _ _ _ _ c.in-None.is c.in_ok-go-3.ensures
    ∙ counts-of_none _ _ _ _ (c.in_default-contents_event.ensures.steps.counts.0
    ∙ c.in_default-constructed.ensures.steps.counts.0 ∙ c.in_default.ensures.counts.0)
    (c.in_default-contents_event.ensures.steps.counts.1 ∙ c.in_default-constructed.ensures.steps.counts.1
    ∙ c.in_default.ensures.counts.1)
    ∙ left_walked g.F.Follow.next g.D.Drain.state _ _ _ _ _ c.if-branch.false
    c.in_ok-follow_primitive.ensures
    ∙ c.events.invariant.walked)

pub returns-in-Fault : goal.returns-in-Fault
returns-in-Fault g c =
    let left =
    follows_left g.F.Follow.next g.D.Drain.state _ _ _ _ _ _ _ c.events.invariant.follows c.if-branch.false
    c.in_ok-follow_primitive.ensures in
    pauses_fault g.F.Follow.next g.D.Drain.state _ _ _ _ _ _ _
    (follows_no_more g.F.Follow.next g.D.Drain.state _ _ _ _ _ _ _ c.in-None.is
    (follows_same g.F.Follow.next g.D.Drain.state _ _ _ _ _ _ left (c.in_default-contents_event.ensures.steps.counts.0
    ∙ c.in_default-constructed.ensures.steps.counts.0 ∙ c.in_default.ensures.counts.0) refl refl
    (c.in_default-contents_event.ensures.steps.counts.1 ∙ c.in_default-constructed.ensures.steps.counts.1
    ∙ c.in_default.ensures.counts.1)) c.in_ok-go-3.ensures)
    c.in-Fault.ensures

pub returns-then-eq : goal.returns-then-eq
returns-then-eq g c =
    let enough : c.match-close.go ≡ go.Enough = not_on _ (search rules) in
    let left =
    follows_left g.F.Follow.next g.D.Drain.state _ _ _ _ _ _ _ c.events.invariant.follows c.if-branch.false
    c.in_ok-follow_primitive.ensures in
    elim c.match-close.branch [
      | in-Some+in-Close+in_ok-go-in-Close w ↦
          rw (w.out-is, w.follower-is, w.walker-is)
          (pauses_enough g.F.Follow.next g.D.Drain.state _ _ _ _ _
          (follows_event g.F.Follow.next g.D.Drain.state _ _ _ _ _ _ _ _ left
          (ended _ _ _ _ _ (end.Close w.in-Close.offset) w.in-Close.is
          (stands_all _ _ _ _ _ w.in-Some.ensures.yields)) w.in_ok-go-in-Close.ensures)
          (sym w.go-is ∙ enough) w.in-Some.ensures.counts.0.has_yielded.after_event)
      | in-Some+in-Leave+in_ok-go-in-Leave w ↦
          rw (w.out-is, w.follower-is, w.walker-is)
          (pauses_enough g.F.Follow.next g.D.Drain.state _ _ _ _ _
          (follows_event g.F.Follow.next g.D.Drain.state _ _ _ _ _ _ _ _ left
          (ended _ _ _ _ _ end.Leave w.in-Leave.is
          (stands_all _ _ _ _ _ w.in-Some.ensures.yields)) w.in_ok-go-in-Leave.ensures)
          (sym w.go-is ∙ enough) w.in-Some.ensures.counts.0.has_yielded.after_event)
      | in_default+in-Some-constructed+in_ok-go w ↦
          rw (w.out-is, w.follower-is, w.walker-is)
          (pauses_enough g.F.Follow.next g.D.Drain.state _ _ _ _ _
          (follows_event g.F.Follow.next g.D.Drain.state _ _ _ _ _ _ _ _ left
          (unmoved_event _ _ _ _ _ _ _ (w.in_default.ensures.counts.0) (w.in_default.ensures.counts.1)
          (stands_all _ _ _ _ _ w.in-Some-constructed.ensures.steps.yields)) w.in_ok-go.ensures)
          (sym w.go-is ∙ enough) w.in-Some-constructed.ensures.steps.counts.0.has_yielded.after_event)
      | in_default+in_default-constructed+in-Some-contents_event+in_ok-go-2 w ↦
          rw (w.out-is, w.follower-is, w.walker-is)
          (pauses_enough g.F.Follow.next g.D.Drain.state _ _ _ _ _
          (follows_event g.F.Follow.next g.D.Drain.state _ _ _ _ _ _ _ _ left
          (unmoved_event _ _ _ _ _ _ _ (w.in_default-constructed.ensures.steps.counts.0 ∙ w.in_default.ensures.counts.0)
          (w.in_default-constructed.ensures.steps.counts.1 ∙ w.in_default.ensures.counts.1)
          (stands_all _ _ _ _ _ w.in-Some-contents_event.ensures.steps.yields))
          w.in_ok-go-2.ensures)
          (sym w.go-is ∙ enough) w.in-Some-contents_event.ensures.steps.counts.0.has_yielded.after_event)
      | in_default+in_default-constructed+in_default-contents_event+in_ok-go-3+in-Some-2 w ↦
          rw (w.out-is, w.follower-is, w.walker-is)
          (pauses_enough g.F.Follow.next g.D.Drain.state _ _ _ _ _
          (follows_one g.F.Follow.next g.D.Drain.state _ _ _ _ _ _ _ _ w.in-Some-2.is
          (follows_same g.F.Follow.next g.D.Drain.state _ _ _ _ _ _ left
          (w.in_default-contents_event.ensures.steps.counts.0
          ∙ w.in_default-constructed.ensures.steps.counts.0 ∙ w.in_default.ensures.counts.0) refl refl
          (w.in_default-contents_event.ensures.steps.counts.1 ∙ w.in_default-constructed.ensures.steps.counts.1
          ∙ w.in_default.ensures.counts.1)) w.in_ok-go-3.ensures)
          (sym w.go-is ∙ enough)
          (one_counts g.F.Follow.next g.D.Drain.state _ _ _ _ _ _ w.in-Some-2.is
          w.in_ok-go-3.ensures).has_yielded.after_event)
      | in_default+in_default-constructed+in_default-contents_event+in_ok-go-3+in-None+in-Event+in_ok-go-in-Event w ↦
          rw (w.out-is, w.follower-is, w.walker-is)
          (pauses_enough g.F.Follow.next g.D.Drain.state _ _ _ _ _
          (follows_event g.F.Follow.next g.D.Drain.state _ _ _ _ _ _ _ _
          (follows_no_more g.F.Follow.next g.D.Drain.state _ _ _ _ _ _ _ w.in-None.is
          (follows_same g.F.Follow.next g.D.Drain.state _ _ _ _ _ _ left
          (w.in_default-contents_event.ensures.steps.counts.0
          ∙ w.in_default-constructed.ensures.steps.counts.0 ∙ w.in_default.ensures.counts.0) refl refl
          (w.in_default-contents_event.ensures.steps.counts.1 ∙ w.in_default-constructed.ensures.steps.counts.1
          ∙ w.in_default.ensures.counts.1)) w.in_ok-go-3.ensures)
          (walked_event _ _ _ _ _ w.in-Event.ensures)
          w.in_ok-go-in-Event.ensures)
          (sym w.go-is ∙ enough) w.in-Event.ensures.has_yielded.after_event)
    ]
