-- What a follower comes to, event by event.
use Rattle.std.proofs.Common.{◌≡◌, inl, inr, ℕ, ◌+◌, List, [], ◌∷◌, ◌++◌, length, refl, sym, ap, ◌∙◌, subst, arith}
use Rattle.std.proofs.Common.{append_assoc, append-nil, length-append}
use Rattle.std.specs.Prelude.{Ok, Err}
use Rattle.tlv_head.specs.declared.fault.Fault.{Fault}
use Rattle.tlv_io.specs.declared.drain.WriteFault.{WriteFault}
use Rattle.tlv_walk.specs.declared.event.Step.TheVariants as step
use Rattle.tlv_walk.specs.declared.follow.Go.{Go}
use Rattle.tlv_walk.specs.declared.follow.Go.TheVariants as go
use Rattle.tlv_walk.specs.declared.framing.Framing.{Framing}
use Rattle.tlv_walk.specs.declared.one_piece.Pause.{Pause}
use Rattle.tlv_walk.specs.declared.one_piece.Pause.TheVariants as pause
use Rattle.tlv_io.specs.Device.{DrainState}
use Rattle.tlv_walk.specs.Events.{AreEqualJoined, EventValue, events, single_octets}
use Rattle.tlv_walk.specs.Follow.{Effect, and_then, effect_of, followed_events, FollowsEvents, ReturnsEffect}
use Rattle.tlv_walk.specs.Private.FollowsPiece.{Follows, FollowsPiece, BeginEventsOf, FollowStates, WalksOver}
use Rattle.tlv_walk.specs.Private.FollowsPiece.{WalksToFault}
use Rattle.tlv_walk.specs.Private.FollowsPiece.{follow_states}
use Rattle.tlv_walk.specs.Forest.{Forest}
use Rattle.tlv_walk.specs.WalkerState.{WalkerState}
use Rattle.tlv_walk.specs.Walker.{IsAfterEvent, Stands, waiting_events, StepsTo, StandsRefused}
use Rattle.tlv_io.specs.Out.{Puts}
use Rattle.tlv_walk.specs.Reading.{IsReading}
use Rattle.tlv_walk.proofs.FollowerLemmas.FollowedEvents.{events_more, events_one, followed-more, followed-one}
use Rattle.tlv_walk.proofs.EventLemmas.JoinedEvents.{apart-before, apart-from_joined, joined-from_apart}
use Rattle.tlv_walk.proofs.EventLemmas.LongerInputs.{events-prefix}
use Rattle.tlv_io.proofs.Puts.{HasPut, puts_as, puts_failed_last, puts_nothing, puts_then_as}
use Rattle.tlv_walk.proofs.WalkerLemmas.HasRead.{never_refused}

-- nothing was walked over
pub walked_none : (w : WalkerState) (piece : List ℕ) → WalksOver w w piece piece []
walked_none w piece = record {
  taken = [];
  piece_is = refl;
  framing = refl;
  stands =
      λ b yielded s. subst (λ (o : List ℕ). Stands w o (yielded ++ [])) (sym (append-nil b))
      (subst (λ (es : List EventValue). Stands w b es) (sym (append-nil yielded)) s);
}

-- one part after another
pub walked_both : (w u v : WalkerState) (piece rest left : List ℕ) (es fs : List EventValue)
    → WalksOver w u piece rest es → WalksOver u v rest left fs → WalksOver w v piece left (es ++ fs)
walked_both w u v piece rest left es fs x y = record {
  taken = x.taken ++ y.taken;
  piece_is = x.piece_is ∙ ap (λ (o : List ℕ). x.taken ++ o) y.piece_is ∙ sym (append_assoc x.taken y.taken left);
  framing = y.framing ∙ x.framing;
  stands = λ b yielded s.
      subst (λ (o : List ℕ). Stands v o (yielded ++ (es ++ fs))) (append_assoc b x.taken y.taken)
      (subst (λ (all : List EventValue). Stands v ((b ++ x.taken) ++ y.taken) all) (append_assoc yielded es fs)
      (y.stands (b ++ x.taken) (yielded ++ es) (x.stands b yielded s)));
}

-- an octet is refused after what was walked over
refused_there : (w u v : WalkerState) (piece rest left : List ℕ) (f : Fault) (more : List EventValue)
    (x : WalksOver w u piece rest more) (o : List ℕ) (yielded : List EventValue)
    → Stands u (o ++ x.taken) (yielded ++ more) → StepsTo u v rest left (step.Fault f)
    → WalksToFault w v piece more f o yielded
refused_there w u v piece rest left f more x o yielded st (inl r) =
    let all : (o ++ x.taken) ++ r.takes.taken ≡ o ++ (x.taken ++ r.takes.taken) =
    append_assoc o x.taken r.takes.taken in
    let there : StandsRefused v (o ++ (x.taken ++ r.takes.taken)) r.octet (yielded ++ more) f =
    subst (λ (l : List ℕ). StandsRefused v l r.octet (yielded ++ more) f) all
    (r.stands (o ++ x.taken) (yielded ++ more) st) in
    record {
      taken = x.taken ++ r.takes.taken;
      octet = r.octet;
      others = r.others;
      piece_is =
          x.piece_is
          ∙ ap (λ (l : List ℕ). x.taken ++ l) (r.takes.piece_is ∙ ap (λ (l : List ℕ). r.takes.taken ++ l) r.rest_is)
          ∙ sym (append_assoc x.taken r.takes.taken (r.octet ∷ r.others));
      framing = r.takes.framing ∙ x.framing;
      stands = there;
    }
refused_there w u v piece rest left f more x o yielded st (inr r) =
    absurd (never_refused u (o ++ x.taken) (yielded ++ more) f st r.refused)

-- after what a walker yielded of a prefix of octets, others follow
yielded_prefix : (w v : WalkerState) (b piece rest : List ℕ) (yielded more : List EventValue) (f : Forest)
    → WalksOver w v piece rest more → Stands w b yielded → IsReading w.framing (b ++ piece) f
    → (others : List EventValue) × AreEqualJoined (yielded ++ (more ++ others)) (events f)
yielded_prefix w v b piece rest yielded more f walked st r =
    let there : Stands v (b ++ walked.taken) (yielded ++ more) = walked.stands b yielded st in
    let all : b ++ piece ≡ (b ++ walked.taken) ++ rest =
    ap (λ (o : List ℕ). b ++ o) walked.piece_is ∙ sym (append_assoc b walked.taken rest) in
    let r' : IsReading v.framing ((b ++ walked.taken) ++ rest) f =
    subst (λ (g : Framing). IsReading g ((b ++ walked.taken) ++ rest) f) (sym walked.framing)
    (subst (λ (o : List ℕ). IsReading w.framing o f) all r) in
    let goes : (es : List EventValue) × AreEqualJoined (events f) (events there.has_events.reading ++ es) =
    events-prefix v.framing (b ++ walked.taken) rest there.has_events.reading f there.has_events.is_reading r' in (
      waiting_events v ++ goes.0,
      joined-from_apart (yielded ++ (more ++ (waiting_events v ++ goes.0))) (events f)
          (ap single_octets
          (sym (append_assoc yielded more (waiting_events v ++ goes.0))
          ∙ sym (append_assoc (yielded ++ more) (waiting_events v) goes.0))
          ∙ apart-before ((yielded ++ more) ++ waiting_events v) (events there.has_events.reading) goes.0
          (apart-from_joined ((yielded ++ more) ++ waiting_events v) (events there.has_events.reading)
          there.has_events.all_events)
          ∙ sym (apart-from_joined (events f) (events there.has_events.reading ++ goes.0) goes.1)),
    )

pub walked_goes_on : (w v : WalkerState) (piece rest : List ℕ) (more : List EventValue)
    → WalksOver w v piece rest more → (b : List ℕ) (yielded : List EventValue) → Stands w b yielded
    → BeginEventsOf w.framing (b ++ piece) (yielded ++ more)
walked_goes_on w v piece rest more walked b yielded st f r =
    let o = yielded_prefix w v b piece rest yielded more f walked st r in
    (o.0, subst (λ (es : List EventValue). AreEqualJoined es (events f)) (sym (append_assoc yielded more o.0)) o.1)

module _ {S : Type 0} (next : S → EventValue → Effect S) where
  -- of no event
  pub made_none : (s : S) → FollowsEvents next s s [] go.On
  made_none s = record { state = refl; wants = refl; all = refl }

  -- of some events, and then of others
  both_made : (s t : S) (es fs : List EventValue) → FollowsEvents next s t es go.On
      → effect_of next s (es ++ fs) ≡ and_then (effect_of next s es) (λ u. effect_of next u fs)
  both_made s t es fs m = followed-more next s es fs m.wants

  pub made_put : (s t : S) (es fs : List EventValue) → FollowsEvents next s t es go.On
      → (effect_of next s es).put ++ (effect_of next t fs).put ≡ (effect_of next s (es ++ fs)).put
  made_put s t es fs m =
      sym (ap (λ (f : Effect S). f.put) (both_made s t es fs m)
      ∙ ap (λ (u : S). (effect_of next s es).put ++ (effect_of next u fs).put) (sym m.state))

  pub made_both : (s t u : S) (es fs : List EventValue) (goes : Go) → FollowsEvents next s t es go.On
      → FollowsEvents next t u fs goes → FollowsEvents next s u (es ++ fs) goes
  made_both s t u es fs goes m k = record {
    state =
        k.state ∙ ap (λ (x : S). (effect_of next x fs).state) m.state
        ∙ sym (ap (λ (f : Effect S). f.state) (both_made s t es fs m));
    wants =
        ap (λ (f : Effect S). f.goes) (both_made s t es fs m)
        ∙ ap (λ (x : S). (effect_of next x fs).goes) (sym m.state) ∙ k.wants;
    all =
        events_more next s es fs m.wants ∙ ap (λ (x : S). es ++ followed_events next x fs) (sym m.state)
        ∙ ap (λ (l : List EventValue). es ++ l) k.all;
  }

  -- of one event
  pub made_event : (t u : S) (e : EventValue) (goes : Go) → u ≡ (next t e).state → goes ≡ (next t e).goes
      → FollowsEvents next t u (e ∷ []) goes
  made_event t u e goes is go = record {
    state = is ∙ sym (ap (λ (f : Effect S). f.state) (followed-one next t e));
    wants = ap (λ (f : Effect S). f.goes) (followed-one next t e) ∙ sym go;
    all = events_one next t e;
  }

  one_put : (s t : S) (es : List EventValue) (e : EventValue) → FollowsEvents next s t es go.On
      → (effect_of next s es).put ++ (next t e).put ≡ (effect_of next s (es ++ e ∷ [])).put
  one_put s t es e m =
      ap (λ (f : Effect S). (effect_of next s es).put ++ f.put) (sym (followed-one next t e))
      ∙ made_put s t es (e ∷ []) m

  module _ {D : Type 0} (state_of : D → DrainState) where
    -- a prefix of a piece was followed, and what was made of it was put
    pub record HasFollowed (old new : FollowStates S D) (piece rest : List ℕ) (goes : Go) : Type 0 where
      pub more : List EventValue
      pub follows : Follows next old new piece rest more goes
      pub puts : HasPut state_of old.out new.out (effect_of next old.follower more).put

    -- a follower that has followed nothing
    pub follows_none : (x : FollowStates S D) (piece : List ℕ) → HasFollowed x x piece piece go.On
    follows_none x piece = record {
      more = [];
      follows = record { made = made_none x.follower; walked = walked_none x.walker piece };
      puts = puts_nothing state_of x.out tt;
    }

    -- it followed one event more
    pub follows_event : (x y z : FollowStates S D) (piece rest left : List ℕ) (e : EventValue) (goes : Go)
        → HasFollowed x y piece rest go.On → WalksOver y.walker z.walker rest left (e ∷ [])
        → ReturnsEffect state_of (next y.follower e) y.out z.out z.follower (Ok goes)
        → HasFollowed x z piece left goes
    follows_event x y z piece rest left e goes h walks effect = record {
      more = h.more ++ e ∷ [];
      follows = record {
        made =
            made_both x.follower y.follower z.follower h.more (e ∷ []) goes h.follows.made
            (made_event y.follower z.follower e goes effect.has.state effect.goes);
        walked = walked_both x.walker y.walker z.walker piece rest left h.more (e ∷ []) h.follows.walked walks;
      };
      puts =
          puts_then_as state_of x.out y.out z.out (effect_of next x.follower h.more).put (next y.follower e).put
          (effect_of next x.follower (h.more ++ e ∷ [])).put tt (Ok tt) h.puts
          (puts_as state_of y.out z.out (next y.follower e).put (next y.follower e).put goes tt effect.has.puts refl)
          (one_put x.follower y.follower h.more e h.follows.made);
    }

    -- the same was put, and another result is returned
    pub same_put : (x y : FollowStates S D) (more : List EventValue) (why : Pause)
        → HasPut state_of x.out y.out (effect_of next x.follower more).put
        → Puts {T = Pause} {E = WriteFault} state_of x.out y.out (effect_of next x.follower more).put (Ok why)
    same_put x y more why p =
        puts_as state_of x.out y.out (effect_of next x.follower more).put (effect_of next x.follower more).put tt why
        p refl

    -- the follower had enough
    pub pauses_enough : (x y : FollowStates S D) (piece rest : List ℕ) (goes : Go) → HasFollowed x y piece rest goes
        → goes ≡ go.Enough → IsAfterEvent y.walker.phase
        → FollowsPiece next state_of x y piece (Ok pause.Enough)
    pauses_enough x y piece rest goes h enough after_event = record {
      more = h.more;
      pauses = record {
        rest = rest;
        follows = subst (λ (k : Go). Follows next x y piece rest h.more k) enough h.follows;
        after_event = after_event;
      };
      puts = same_put x y h.more pause.Enough h.puts;
    }

    -- the drain failed at an event
    pub fails_event : (x y z : FollowStates S D) (v : WalkerState) (piece rest left : List ℕ) (e : EventValue)
        → HasFollowed x y piece rest go.On
        → WalksOver y.walker v rest left (e ∷ []) → (i j : WriteFault)
        → ReturnsEffect state_of (next y.follower e) y.out z.out z.follower (Err i)
        → FollowsPiece next state_of x z piece (Err j)
    fails_event x y z v piece rest left e h walks i j effect = record {
      more = h.more ++ e ∷ [];
      pauses = record {
        yields =
            walked_goes_on x.walker v piece left (h.more ++ e ∷ [])
            (walked_both x.walker y.walker v piece rest left h.more (e ∷ []) h.follows.walked walks);
      };
      puts = puts_failed_last state_of x.out z.out _ i (Err j)
          (puts_then_as state_of x.out y.out z.out (effect_of next x.follower h.more).put (next y.follower e).put
          (effect_of next x.follower (h.more ++ e ∷ [])).put tt (Err i) h.puts effect.has.puts
          (one_put x.follower y.follower h.more e h.follows.made))
          refl;
    }

    -- the piece is used up
    pub pauses_used_up : (x y : FollowStates S D) (v : WalkerState) (piece rest left : List ℕ)
        → HasFollowed x y piece rest go.On
        → StepsTo y.walker v rest left step.NeedMore → y.walker.offset + length rest ≡ x.walker.offset + length piece
        → FollowsPiece next state_of x (follow_states v y.follower y.out) piece (Ok pause.UsedUp)
    pauses_used_up x y v piece rest left h steps walked = record {
      more = h.more;
      pauses = record {
        follows = record {
          made = h.follows.made;
          walked = record {
            taken = h.follows.walked.taken ++ rest;
            piece_is = h.follows.walked.piece_is ∙ sym (append-nil (h.follows.walked.taken ++ rest));
            framing = steps.takes.framing ∙ h.follows.walked.framing;
            stands = λ o es st.
                subst (λ (all : List ℕ). Stands v all (es ++ h.more)) (append_assoc o h.follows.walked.taken rest)
                (steps.stands (o ++ h.follows.walked.taken) (es ++ h.more) (h.follows.walked.stands o es st));
          };
        };
        offset =
            omega (
              arith,
              steps.takes.offset,
              ap length steps.takes.piece_is,
              ap length steps.none_left,
              length-append steps.takes.taken left,
              walked,
            );
        ready = steps.ready;
      };
      puts = same_put x (follow_states v y.follower y.out) h.more pause.UsedUp h.puts;
    }

    -- an octet is refused
    pub pauses_fault : (x y : FollowStates S D) (v : WalkerState) (piece rest left : List ℕ) (f : Fault)
        → HasFollowed x y piece rest go.On
        → StepsTo y.walker v rest left (step.Fault f)
        → FollowsPiece next state_of x (follow_states v y.follower y.out) piece (Ok (pause.Fault f))
    pauses_fault x y v piece rest left f h steps = record {
      more = h.more;
      pauses = record {
        made = h.follows.made;
        walked =
            λ o es st. refused_there x.walker y.walker v piece rest left f h.more h.follows.walked o es
            (h.follows.walked.stands o es st) steps;
      };
      puts = same_put x (follow_states v y.follower y.out) h.more (pause.Fault f) h.puts;
    }
