-- What a walker stands for once all events were followed, and how what was put of a piece is flushed.
use Rattle.std.proofs.Common.{◌≡◌, ℕ, List, [], ◌∷◌, ◌++◌, refl, sym, ap, ◌∙◌, subst, append_assoc, append-nil}
use Rattle.std.specs.Prelude.{Ok, Err, ⊤}
use Rattle.tlv_head.specs.declared.fault.Fault.{Fault}
use Rattle.tlv_io.specs.declared.drain.WriteFault.{WriteFault}
use Rattle.tlv_io.specs.declared.out.Out.{Out}
use Rattle.tlv_walk.specs.declared.one_piece.Pause.{Pause}
use Rattle.tlv_walk.specs.declared.one_piece.Pause.TheVariants as pause
use Rattle.tlv_io.specs.Device.{DrainState}
use Rattle.tlv_walk.specs.Events.{AreEqualJoined, EventValue, events}
use Rattle.tlv_walk.specs.Follow.{Effect, effect_of}
use Rattle.tlv_walk.specs.Private.FollowsPiece.{WriteFailsAt, FollowsAndFlushes, FollowsPiece, FollowsToFault}
use Rattle.tlv_walk.specs.Private.FollowsPiece.{BeginEventsOf}
use Rattle.tlv_walk.specs.Private.FollowsPiece.{Pauses, FollowStates, WalksToFault, follow_states}
use Rattle.tlv_walk.specs.Forest.{Forest, spelling}
use Rattle.tlv_walk.specs.declared.framing.Framing.{Framing}
use Rattle.tlv_walk.specs.WalkerState.{WalkerState}
use Rattle.tlv_walk.specs.Walker.{IsRefusedAfter, Stands, waiting_events, unused_offset}
use Rattle.tlv_walk.specs.Wrappers.{first_without_wrapper}
use Rattle.tlv_io.specs.Out.{Puts, held_octets, drain_of}
use Rattle.tlv_walk.specs.Place.{top_place}
use Rattle.tlv_walk.specs.Reading.{AreOctets, IsReading}
use Rattle.tlv_walk.proofs.FollowerLemmas.FollowSteps.{walked_goes_on}
use Rattle.tlv_io.proofs.Puts.{puts_failed_last, puts_then_as}
use Rattle.tlv_io.proofs.Sends.{sends_flushed, sends_puts}
use Rattle.tlv_walk.proofs.GrammarLemmas.PushSteps.{Spells}
use Rattle.tlv_walk.proofs.GrammarLemmas.Readings.{reading-unique}
use Rattle.tlv_walk.proofs.WalkerLemmas.ZipperReading.{state-reading, state-spells}
use Rattle.tlv_walk.proofs.WalkerLemmas.Zipper.{reading_of}

-- ---- what a walker stands for

-- a walker that stands for octets has read them all
pub stands_spelled : (v : WalkerState) (b : List ℕ) (yielded : List EventValue) (f : Forest) → Stands v b yielded
    → IsReading v.framing b f → spelling f ≡ b
stands_spelled v b yielded f st r =
    let spells : Spells (top_place v.framing) b (reading_of st.private_state.zipper) =
    state-spells v b yielded st.private_state.zipper st.private_state.has_zipper in
    ap spelling
    (reading-unique v.framing b f (reading_of st.private_state.zipper) r
    (state-reading v b yielded st.private_state.zipper st.private_state.has_zipper))
    ∙ spells.spelled

-- if nothing waits, all events of the reading were yielded
pub stands_yielded : (v : WalkerState) (b : List ℕ) (yielded : List EventValue) (f : Forest) → Stands v b yielded
    → waiting_events v ≡ [] → IsReading v.framing b f → AreEqualJoined yielded (events f)
stands_yielded v b yielded f st idle r =
    let all : AreEqualJoined (yielded ++ waiting_events v) (events st.has_events.reading) = st.has_events.all_events in
    subst (λ (es : List EventValue). AreEqualJoined es (events f))
    (ap (λ (es : List EventValue). yielded ++ es) idle ∙ append-nil yielded)
    (subst (λ (g : Forest). AreEqualJoined (yielded ++ waiting_events v) (events g))
    (reading-unique v.framing b st.has_events.reading f st.has_events.is_reading r) all)

-- ---- an octet that is refused

pub fault_octets : (w v : WalkerState) (b piece : List ℕ) (yielded more : List EventValue) (e : Fault)
    → (k : WalksToFault w v piece more e b yielded) → (b ++ k.taken) ++ k.octet ∷ k.others ≡ b ++ piece
fault_octets w v b piece yielded more e k =
    append_assoc b k.taken (k.octet ∷ k.others) ∙ ap (λ (o : List ℕ). b ++ o) (sym k.piece_is)

-- the octet is refused by the framing that the walker had before
pub walked_refused : (w v : WalkerState) (b piece : List ℕ) (yielded more : List EventValue) (e : Fault)
    → (k : WalksToFault w v piece more e b yielded)
    → (r : IsRefusedAfter w.framing (b ++ k.taken) k.octet (yielded ++ more) e)
    × (unused_offset v ≡ first_without_wrapper w.framing.inside r.reading)
walked_refused w v b piece yielded more e k =
    subst
    (λ (g : Framing). (r : IsRefusedAfter g (b ++ k.taken) k.octet (yielded ++ more) e)
    × (unused_offset v ≡ first_without_wrapper g.inside r.reading))
    k.framing (k.stands.refused, k.stands.unused)

pub fault_is_reading : (w v : WalkerState) (b piece : List ℕ) (yielded more : List EventValue) (e : Fault)
    → (k : WalksToFault w v piece more e b yielded)
    → IsReading w.framing (b ++ piece) (walked_refused w v b piece yielded more e k).0.reading
fault_is_reading w v b piece yielded more e k =
    let r : IsRefusedAfter w.framing (b ++ k.taken) k.octet (yielded ++ more) e =
    (walked_refused w v b piece yielded more e k).0 in
    subst (λ (o : List ℕ). IsReading w.framing o r.reading) (fault_octets w v b piece yielded more e k)
    (r.stays k.others)

fault_reading : (w v : WalkerState) (b piece : List ℕ) (yielded more : List EventValue) (e : Fault) (f : Forest)
    → (k : WalksToFault w v piece more e b yielded) → IsReading w.framing (b ++ piece) f
    → (walked_refused w v b piece yielded more e k).0.reading ≡ f
fault_reading w v b piece yielded more e f k r =
    reading-unique w.framing (b ++ piece) (walked_refused w v b piece yielded more e k).0.reading f
    (fault_is_reading w v b piece yielded more e k) r

module _ {S : Type 0} (next : S → EventValue → Effect S) where
  -- ---- what was put is flushed, or cannot be

  module _ {D : Type 0} where
    fault_goes_on : (x y : FollowStates S D) (piece : List ℕ) (more : List EventValue) (e : Fault)
        → FollowsToFault next x y piece more e → (b : List ℕ) (yielded : List EventValue) → Stands x.walker b yielded
        → BeginEventsOf x.walker.framing (b ++ piece) (yielded ++ more)
    fault_goes_on x y piece more e to b yielded st f r =
        let k : WalksToFault x.walker y.walker piece more e b yielded = to.walked b yielded st in (
          [],
          subst (λ (es : List EventValue). AreEqualJoined es (events f)) (sym (append-nil (yielded ++ more)))
              (subst (λ (g : Forest). AreEqualJoined (yielded ++ more) (events g))
              (fault_reading x.walker y.walker b piece yielded more e f k r)
              (walked_refused x.walker y.walker b piece yielded more e k).0.all_events),
        )

    pauses_failing : (x y : FollowStates S D) (piece : List ℕ) (more : List EventValue) (why : Pause)
        → Pauses next x y piece more (Ok why) → WriteFailsAt next x y piece more
    pauses_failing x y piece more pause.UsedUp k = record {
      yields = walked_goes_on x.walker y.walker piece [] more k.follows.walked;
    }
    pauses_failing x y piece more (pause.Fault f) k = record { yields = fault_goes_on x y piece more f k }
    pauses_failing x y piece more pause.Enough k = record {
      yields = walked_goes_on x.walker y.walker piece k.rest more k.follows.walked;
    }

    -- the walker and the follower are the same, and so is where the piece is followed no further
    pauses_same : (x y : FollowStates S D) (c : Out D) (piece : List ℕ) (more : List EventValue) (why : Pause)
        → Pauses next x y piece more (Ok why)
        → Pauses next x (follow_states y.walker y.follower c) piece more (Ok why)
    pauses_same x y c piece more pause.UsedUp k = record {
      follows = record { made = k.follows.made; walked = k.follows.walked };
      offset = k.offset;
      ready = k.ready;
    }
    pauses_same x y c piece more (pause.Fault f) k = record { made = k.made; walked = k.walked }
    pauses_same x y c piece more pause.Enough k = record {
      rest = k.rest;
      follows = record { made = k.follows.made; walked = k.follows.walked };
      after_event = k.after_event;
    }

    module _ (state_of : D → DrainState) (x y : FollowStates S D) (c : Out D) (piece : List ℕ)
        (octets : AreOctets piece) (none : held_octets x.out ≡ []) where
      -- the piece was followed, and what was put was flushed
      pub pauses_flushed : (why : Pause) → FollowsPiece next state_of x y piece (Ok why)
          → Puts {T = ⊤} {E = WriteFault} state_of y.out c [] (Ok tt) → held_octets c ≡ []
          → FollowsAndFlushes next state_of x (follow_states y.walker y.follower c) piece (Ok why)
      pauses_flushed why k flushed empty = record {
        are_octets = octets;
        more = k.more;
        pauses = pauses_same x y c piece k.more why k.pauses;
        sends =
            sends_flushed state_of x.out y.out c (drain_of x.out).now (drain_of c).now
            (effect_of next x.follower k.more).put why tt refl none refl k.puts flushed empty;
        same_reference = flushed.same_reference ∙ k.puts.same_reference;
        empty = empty;
      }

      -- or could not be flushed
      pub pauses_unflushed : (why : Pause) (e f : WriteFault) → FollowsPiece next state_of x y piece (Ok why)
          → Puts {T = ⊤} {E = WriteFault} state_of y.out c [] (Err e)
          → FollowsAndFlushes next state_of x (follow_states y.walker y.follower c) piece (Err f)
      pauses_unflushed why e f k unflushed =
          let text : List ℕ = (effect_of next x.follower k.more).put in record {
            are_octets = octets;
            more = k.more;
            pauses = record { yields = (pauses_failing x y piece k.more why k.pauses).yields };
            sends = sends_puts state_of x.out c (drain_of x.out).now (drain_of c).now text (Err f) refl none refl
                (puts_failed_last state_of x.out c text e (Err f)
                (puts_then_as state_of x.out y.out c text [] text why (Err e) k.puts unflushed (append-nil text))
                refl)
                tt;
            same_reference = unflushed.same_reference ∙ k.puts.same_reference;
            empty = tt;
          }

    -- the drain failed before
    pub fails_sent : (state_of : D → DrainState) (x y : FollowStates S D) (piece : List ℕ) → AreOctets piece
        → held_octets x.out ≡ [] → (e f : WriteFault) → FollowsPiece next state_of x y piece (Err e)
        → FollowsAndFlushes next state_of x y piece (Err f)
    fails_sent state_of x y piece octets none e f k =
        let text : List ℕ = (effect_of next x.follower k.more).put in record {
          are_octets = octets;
          more = k.more;
          pauses = k.pauses;
          sends =
              sends_puts state_of x.out y.out (drain_of x.out).now (drain_of y.out).now text (Err f) refl none refl
              (puts_failed_last state_of x.out y.out text e (Err f) k.puts refl) tt;
          same_reference = k.puts.same_reference;
          empty = tt;
        }
