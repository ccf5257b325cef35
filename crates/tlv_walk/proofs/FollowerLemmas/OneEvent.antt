-- One event of a piece, followed after others, or nothing of it.
use Rattle.std.proofs.Common.{◌≡◌, ℕ, ◌+◌, List, length, Option, Some, None, refl, sym, ap, ap₂, subst, arith}
use Rattle.std.specs.Prelude.{Ok, Err}
use Rattle.tlv_io.specs.declared.drain.WriteFault.{WriteFault}
use Rattle.tlv_io.specs.Device.{DrainState}
use Rattle.tlv_walk.specs.declared.event.Event.{Event}
use Rattle.tlv_walk.specs.declared.follow.Go.{Go}
use Rattle.tlv_walk.specs.declared.follow.Go.TheVariants as go
use Rattle.tlv_walk.specs.declared.one_piece.Pause.{Pause}
use Rattle.tlv_walk.specs.declared.one_piece.Pause.TheVariants as pause
use Rattle.tlv_walk.specs.Events.{EventValue, event_value_of}
use Rattle.tlv_walk.specs.Follow.{Effect, ReturnsEffect}
use Rattle.tlv_walk.specs.WalkerState.{WalkerState}
use Rattle.tlv_walk.specs.Private.FollowsPiece.{Follows, FollowsIfTaken, FollowsOneOrNone, FollowsPiece, FollowStates}
use Rattle.tlv_walk.specs.Private.WalkerCalls.{CountsOne, UsesUp}
use Rattle.tlv_walk.specs.Private.Yields.{StepsAtOnce}
use Rattle.tlv_walk.proofs.FollowerLemmas.FollowSteps.{HasFollowed, fails_event, follows_event, pauses_enough, same_put}
use Rattle.tlv_walk.proofs.WalkerLemmas.StepStands.{stands_all}

module _ {S D : Type 0} (next : S → EventValue → Effect S) (state_of : D → DrainState) where
  -- nothing has changed
  pub follows_same : (x y z : FollowStates S D) (piece rest left : List ℕ)
      → HasFollowed next state_of x y piece rest go.On
      → z.walker ≡ y.walker → z.follower ≡ y.follower → z.out ≡ y.out → left ≡ rest
      → HasFollowed next state_of x z piece left go.On
  follows_same x y z piece rest left h w f o l =
      let same : y ≡ z = λ i. record { walker = sym w i; follower = sym f i; out = sym o i } in
      subst (λ (s : FollowStates S D). HasFollowed next state_of x s piece left go.On) same
      (subst (λ (p : List ℕ). HasFollowed next state_of x y piece p go.On) (sym l) h)

  -- an event was taken and followed
  record TakesOne (y z : FollowStates S D) (rest left : List ℕ) (goes : Go) : Type 0 where
    event : Event
    steps : StepsAtOnce y.walker z.walker rest left (Some event)
    effect : ReturnsEffect state_of (next y.follower (event_value_of event)) y.out z.out z.follower (Ok goes)

  one_taken : (y z : FollowStates S D) (rest left : List ℕ) (e : Option Event) (goes : Go)
      → StepsAtOnce y.walker z.walker rest left e → FollowsIfTaken next state_of y z e (Ok (Some goes))
      → TakesOne y z rest left goes
  one_taken y z rest left (Some e) goes s f = record { event = e; steps = s; effect = f }
  one_taken y z rest left None goes s f = absurd f

  takes_one : (y z : FollowStates S D) (rest left : List ℕ) (r : Option Go) (goes : Go) → r ≡ Some goes
      → FollowsOneOrNone next state_of y z rest left (Ok r) → TakesOne y z rest left goes
  takes_one y z rest left r goes is p =
      one_taken y z rest left p.event goes p.steps
      (subst (λ (o : Option Go). FollowsIfTaken next state_of y z p.event (Ok o)) is p.follows)

  pub follows_one : (x y z : FollowStates S D) (piece rest left : List ℕ) (r : Option Go) (goes : Go) → r ≡ Some goes
      → HasFollowed next state_of x y piece rest go.On
      → FollowsOneOrNone next state_of y z rest left (Ok r) → HasFollowed next state_of x z piece left goes
  follows_one x y z piece rest left r goes is h p =
      let t : TakesOne y z rest left goes = takes_one y z rest left r goes is p in
      follows_event next state_of x y z piece rest left (event_value_of t.event) goes h
      (stands_all y.walker z.walker rest left _ t.steps.yields) t.effect

  pub one_counts : (y z : FollowStates S D) (rest left : List ℕ) (r : Option Go) (goes : Go) → r ≡ Some goes
      → FollowsOneOrNone next state_of y z rest left (Ok r) → CountsOne y.walker z.walker rest left
  one_counts y z rest left r goes is p = (takes_one y z rest left r goes is p).steps.counts.0

  -- the drain failed at it
  failed_there : (x y z : FollowStates S D) (piece rest left : List ℕ) (e : Option Event) (i j : WriteFault)
      → HasFollowed next state_of x y piece rest go.On
      → StepsAtOnce y.walker z.walker rest left e → FollowsIfTaken next state_of y z e (Err i)
      → FollowsPiece next state_of x z piece (Err j)
  failed_there x y z piece rest left (Some e) i j h s f =
      fails_event next state_of x y z z.walker piece rest left (event_value_of e) h
      (stands_all y.walker z.walker rest left _ s.yields) i j f
  failed_there x y z piece rest left None i j h s f = absurd f

  pub fails_one : (x y z : FollowStates S D) (piece rest left : List ℕ) (i j : WriteFault)
      → HasFollowed next state_of x y piece rest go.On
      → FollowsOneOrNone next state_of y z rest left (Err i) → FollowsPiece next state_of x z piece (Err j)
  fails_one x y z piece rest left i j h p = failed_there x y z piece rest left p.event i j h p.steps p.follows

  -- nothing was taken
  record LeavesAll (y z : FollowStates S D) (rest left : List ℕ) : Type 0 where
    walker : z.walker ≡ y.walker
    follower : z.follower ≡ y.follower
    out : z.out ≡ y.out
    all_left : left ≡ rest

  none_taken : (y z : FollowStates S D) (rest left : List ℕ) (e : Option Event)
      → StepsAtOnce y.walker z.walker rest left e → FollowsIfTaken next state_of y z e (Ok None)
      → LeavesAll y z rest left
  none_taken y z rest left None s f = record {
    walker = s.counts.0;
    follower = f.0;
    out = f.1;
    all_left = s.counts.1;
  }
  none_taken y z rest left (Some e) s f = absurd f

  leaves_all : (y z : FollowStates S D) (rest left : List ℕ) (r : Option Go) → r ≡ None
      → FollowsOneOrNone next state_of y z rest left (Ok r) → LeavesAll y z rest left
  leaves_all y z rest left r is p =
      none_taken y z rest left p.event p.steps
      (subst (λ (o : Option Go). FollowsIfTaken next state_of y z p.event (Ok o)) is p.follows)

  pub follows_no_more : (x y z : FollowStates S D) (piece rest left : List ℕ) (r : Option Go) → r ≡ None
      → HasFollowed next state_of x y piece rest go.On
      → FollowsOneOrNone next state_of y z rest left (Ok r) → HasFollowed next state_of x z piece left go.On
  follows_no_more x y z piece rest left r is h p =
      let n : LeavesAll y z rest left = leaves_all y z rest left r is p in
      follows_same x y z piece rest left h n.walker n.follower n.out n.all_left

  pub no_more_walked : (y z : FollowStates S D) (rest left : List ℕ) (r : Option Go) → r ≡ None
      → FollowsOneOrNone next state_of y z rest left (Ok r)
      → z.walker.offset + length left ≡ y.walker.offset + length rest
  no_more_walked y z rest left r is p =
      let n : LeavesAll y z rest left = leaves_all y z rest left r is p in
      ap₂ (λ (m : WalkerState) (o : List ℕ). m.offset + length o) n.walker n.all_left

  -- why a piece is followed no further that its first event uses up
  abbrev pub pause_after : Go → Pause
  pause_after go.On = pause.UsedUp
  pause_after go.Enough = pause.Enough

  pub pauses_used_up_at_once : (x y : FollowStates S D) (piece rest : List ℕ) (goes : Go)
      → HasFollowed next state_of x y piece rest goes
      → CountsOne x.walker y.walker piece rest → UsesUp y.walker rest
      → FollowsPiece next state_of x y piece (Ok (pause_after goes))
  pauses_used_up_at_once x y piece rest go.On h counts used = record {
    more = h.more;
    pauses = record {
      follows = subst (λ (left : List ℕ). Follows next x y piece left h.more go.On) used.none_left h.follows;
      offset = omega (arith, counts.counts, ap length used.none_left);
      ready = used.ready;
    };
    puts = same_put next state_of x y h.more pause.UsedUp h.puts;
  }
  pauses_used_up_at_once x y piece rest go.Enough h counts used =
      pauses_enough next state_of x y piece rest go.Enough h refl counts.has_yielded.after_event
