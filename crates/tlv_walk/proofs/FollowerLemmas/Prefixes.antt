-- Prefixes of a piece, followed one after another.
use Rattle.std.proofs.Common.{◌≡◌, ℕ, ◌+◌, Bool, true, false, List, [], ◌∷◌, ◌++◌, length, take, drop, refl, sym, ap}
use Rattle.std.proofs.Common.{ap₂, ◌∙◌, subst, append_assoc, append-nil}
use Rattle.std.proofs.lemmas.Bool.{true≢false}
use Rattle.std.proofs.lemmas.List.{take-append-drop}
use Rattle.std.specs.Prelude.{Ok, Err}
use Rattle.tlv_head.specs.Header.{HeaderValue}
use Rattle.tlv_io.specs.declared.drain.WriteFault.{WriteFault}
use Rattle.tlv_walk.specs.declared.follow.Go.{Go}
use Rattle.tlv_walk.specs.declared.follow.Go.TheVariants as go
use Rattle.tlv_walk.specs.declared.framing.Framing.{Framing}
use Rattle.tlv_walk.specs.declared.walker.short_way.WholePrimitive.{WholePrimitive}
use Rattle.tlv_io.specs.Device.{DrainState}
use Rattle.tlv_walk.specs.Events.{EventValue}
use Rattle.tlv_walk.specs.Follow.{Effect, effect_of, followed_events, events_if_more, effect_if_more, whole_effect}
use Rattle.tlv_walk.specs.Follow.{whole_events, FollowsEvents, FollowsWhole, HasEffect}
use Rattle.tlv_walk.specs.WalkerState.{WalkerState}
use Rattle.tlv_walk.specs.Private.FollowsPiece.{FollowsPrefix, FollowsPiece, BeginEventsOf, TakesNone, TakesPrefix}
use Rattle.tlv_walk.specs.Private.FollowsPiece.{TakesPrefixOrNone, FollowStates, WalksOver}
use Rattle.tlv_walk.specs.Private.WalkerCalls.{CanPass, Passes, header_at}
use Rattle.tlv_walk.specs.Private.Yields.{YieldsEvents}
use Rattle.tlv_walk.proofs.FollowerLemmas.FollowSteps.{HasFollowed, made_both, made_put, walked_both, walked_goes_on}
use Rattle.tlv_walk.proofs.WalkerLemmas.Passing.{walker_after_primitive, yields_primitive}
use Rattle.tlv_io.proofs.Puts.{puts_as, puts_failed_last, puts_then_as}
use Rattle.tlv_walk.proofs.WalkerLemmas.StepStands.{stands_all}

-- a primitive, all of it, with which a piece begins
pub walked_primitive : (w : WalkerState) (piece : List ℕ) (p : WholePrimitive) → CanPass w piece p
    → WalksOver w (walker_after_primitive w p 0) piece (drop p.octet_count piece)
    (whole_events (header_at p piece) (take p.octet_count piece))
walked_primitive w piece p can = stands_all w _ piece (drop p.octet_count piece) _ (record {
  taken = take p.octet_count piece;
  piece_is = sym (take-append-drop p.octet_count piece);
  continues = yields_primitive w piece p 0 can;
})

module _ {S : Type 0} (next : S → EventValue → Effect S) where
  -- if more is wanted at the end, more was wanted after each event
  all_rest : (x : Go) (t : Effect S) (es : List EventValue)
      → ((s : S) → (effect_of next s es).goes ≡ go.On → followed_events next s es ≡ es)
      → (effect_if_more x t (λ u. effect_of next u es)).goes ≡ go.On → t.goes ≡ x
      → events_if_more x (followed_events next t.state es) ≡ es
  all_rest go.On t es rest g k = rest t.state g
  all_rest go.Enough t es rest g k = absurd (cc (sym k ∙ g))

  all_followed : (s : S) (es : List EventValue) → (effect_of next s es).goes ≡ go.On → followed_events next s es ≡ es
  all_followed s [] g = refl
  all_followed s (e ∷ es) g =
      ap (λ (l : List EventValue). e ∷ l) (all_rest (next s e).goes (next s e) es (λ u. all_followed u es) g refl)

  pub follows_all_events : (s t : S) (es : List EventValue) → t ≡ (effect_of next s es).state
      → (effect_of next s es).goes ≡ go.On → FollowsEvents next s t es go.On
  follows_all_events s t es e g = record { state = e; wants = g; all = all_followed s es g }

  module _ {D : Type 0} (state_of : D → DrainState) where
    -- the drain failed after what was followed
    pub fails_prefix : (x y z : FollowStates S D) (piece rest left : List ℕ) (e f : WriteFault)
        → HasFollowed next state_of x y piece rest go.On
        → FollowsPrefix next state_of y z rest left (Err e) → FollowsPiece next state_of x z piece (Err f)
    fails_prefix x y z piece rest left e f h p = record {
      more = h.more ++ p.more;
      pauses = record {
        yields = λ o es st.
            let walked : WalksOver x.walker y.walker piece rest h.more = h.follows.walked in
            subst (λ (g : Framing). BeginEventsOf g (o ++ piece) (es ++ (h.more ++ p.more))) walked.framing
            (subst (λ (l : List ℕ). BeginEventsOf y.walker.framing l (es ++ (h.more ++ p.more)))
            (append_assoc o walked.taken rest ∙ ap (λ (l : List ℕ). o ++ l) (sym walked.piece_is))
            (subst (λ (l : List EventValue). BeginEventsOf y.walker.framing ((o ++ walked.taken) ++ rest) l)
            (append_assoc es h.more p.more)
            (p.takes.yields (o ++ walked.taken) (es ++ h.more) (walked.stands o es st))));
      };
      puts = puts_failed_last state_of x.out z.out _ e (Err f)
          (puts_then_as state_of x.out y.out z.out (effect_of next x.follower h.more).put
          (effect_of next y.follower p.more).put (effect_of next x.follower (h.more ++ p.more)).put tt (Err e)
          h.puts p.puts (made_put next x.follower y.follower h.more p.more h.follows.made))
          refl;
    }

    -- a primitive, all of it, with which a piece begins was followed
    pub prefix_whole : (x y : FollowStates S D) (piece rest : List ℕ) (p : WholePrimitive) (h : HeaderValue)
        → h ≡ header_at p piece
        → FollowsWhole state_of (whole_effect next x.follower h (take p.octet_count piece)) x.out y.out y.follower
        → YieldsEvents x.walker y.walker piece rest (whole_events (header_at p piece) (take p.octet_count piece))
        → Passes x.walker y.walker piece rest
        → FollowsPrefix next state_of x y piece rest (Ok true)
    prefix_whole x y piece rest p h same followed yields passes =
        let all : List EventValue = whole_events h (take p.octet_count piece) in
        record {
          more = all;
          takes = record {
            follows = record {
              made = follows_all_events x.follower y.follower all followed.has.state followed.goes_on;
              walked =
                  stands_all x.walker y.walker piece rest all
                  (subst
                  (λ (g : HeaderValue). YieldsEvents x.walker y.walker piece rest
                  (whole_events g (take p.octet_count piece)))
                  (sym same) yields);
            };
            passes = passes;
          };
          puts = followed.has.puts;
        }

    -- the drain failed at it
    pub prefix_fails : (x y : FollowStates S D) (piece rest : List ℕ) (p : WholePrimitive)
        (h : HeaderValue) (e f : WriteFault)
        → CanPass x.walker piece p → h ≡ header_at p piece
        → HasEffect state_of (whole_effect next x.follower h (take p.octet_count piece)) x.out y.out {T = Bool}
        y.follower (Err e)
        → FollowsPrefix next state_of x y piece rest (Err f)
    prefix_fails x y piece rest p h e f can same effect = record {
      more = whole_events h (take p.octet_count piece);
      takes = record {
        yields =
            walked_goes_on x.walker (walker_after_primitive x.walker p 0) piece (drop p.octet_count piece)
            (whole_events h (take p.octet_count piece))
            (subst
            (λ (g : HeaderValue). WalksOver x.walker (walker_after_primitive x.walker p 0) piece
            (drop p.octet_count piece)
            (whole_events g (take p.octet_count piece)))
            (sym same) (walked_primitive x.walker piece p can));
      };
      puts = puts_failed_last state_of x.out y.out _ e (Err f) effect.puts refl;
    }

    -- ---- a prefix after what was followed

    prefix_some : (y z : FollowStates S D) (rest left : List ℕ) (more : List EventValue) (k : Bool) → k ≡ true
        → TakesPrefixOrNone next y z rest left more (Ok k) → TakesPrefix next y z rest left more
    prefix_some y z rest left more true e p = p
    prefix_some y z rest left more false e p = absurd (true≢false (sym e))

    prefix_none : (y z : FollowStates S D) (rest left : List ℕ) (more : List EventValue) (k : Bool) → k ≡ false
        → TakesPrefixOrNone next y z rest left more (Ok k) → TakesNone next y z rest left more
    prefix_none y z rest left more false e p = p
    prefix_none y z rest left more true e p = absurd (true≢false e)

    -- it was followed
    pub follows_prefix : (x y z : FollowStates S D) (piece rest left : List ℕ) (k : Bool)
        → HasFollowed next state_of x y piece rest go.On → k ≡ true
        → FollowsPrefix next state_of y z rest left (Ok k) → HasFollowed next state_of x z piece left go.On
    follows_prefix x y z piece rest left k h e p =
        let t : TakesPrefix next y z rest left p.more = prefix_some y z rest left p.more k e p.takes in record {
          more = h.more ++ p.more;
          follows = record {
            made = made_both next x.follower y.follower z.follower h.more p.more go.On h.follows.made t.follows.made;
            walked =
                walked_both x.walker y.walker z.walker piece rest left h.more p.more h.follows.walked t.follows.walked;
          };
          puts =
              puts_then_as state_of x.out y.out z.out (effect_of next x.follower h.more).put
              (effect_of next y.follower p.more).put (effect_of next x.follower (h.more ++ p.more)).put tt (Ok tt)
              h.puts
              (puts_as state_of y.out z.out (effect_of next y.follower p.more).put
              (effect_of next y.follower p.more).put k tt p.puts refl)
              (made_put next x.follower y.follower h.more p.more h.follows.made);
        }

    pub prefix_passes : (y z : FollowStates S D) (rest left : List ℕ) (k : Bool) → k ≡ true
        → FollowsPrefix next state_of y z rest left (Ok k) → Passes y.walker z.walker rest left
    prefix_passes y z rest left k e p = (prefix_some y z rest left p.more k e p.takes).passes

    -- nothing of it was taken
    pub follows_left : (x y z : FollowStates S D) (piece rest left : List ℕ) (k : Bool)
        → HasFollowed next state_of x y piece rest go.On → k ≡ false
        → FollowsPrefix next state_of y z rest left (Ok k) → HasFollowed next state_of x z piece left go.On
    follows_left x y z piece rest left k h e p =
        let n : TakesNone next y z rest left p.more = prefix_none y z rest left p.more k e p.takes in record {
          more = h.more;
          follows = record {
            made = subst (λ (q : S). FollowsEvents next x.follower q h.more go.On) (sym n.follower) h.follows.made;
            walked =
                subst (λ (m : WalkerState). WalksOver x.walker m piece left h.more) (sym n.walker)
                (subst (λ (l : List ℕ). WalksOver x.walker y.walker piece l h.more) (sym n.all_left) h.follows.walked);
          };
          puts =
              puts_then_as state_of x.out y.out z.out (effect_of next x.follower h.more).put []
              (effect_of next x.follower h.more).put tt (Ok tt) h.puts
              (puts_as state_of y.out z.out (effect_of next y.follower p.more).put [] k tt p.puts
              (ap (λ (es : List EventValue). (effect_of next y.follower es).put) n.no_event))
              (append-nil (effect_of next x.follower h.more).put);
        }

    pub left_walked : (y z : FollowStates S D) (rest left : List ℕ) (k : Bool) → k ≡ false
        → FollowsPrefix next state_of y z rest left (Ok k)
        → z.walker.offset + length left ≡ y.walker.offset + length rest
    left_walked y z rest left k e p =
        let n : TakesNone next y z rest left p.more =
        prefix_none y z rest left p.more k e p.takes in ap₂ (λ (m : WalkerState) (o : List ℕ). m.offset + length o)
        n.walker n.all_left
