-- What was made of a piece, by why it is not followed any further.
use Rattle.std.proofs.Common.{◌≡◌, ℕ, Bool, true, false, List, ◌++◌, length, flat_map, refl, sym, ap, ap₂, ◌∙◌, subst}
use Rattle.std.proofs.Common.{append_assoc, append-nil}
use Rattle.std.specs.Prelude.{Option, Ok, ⊤}
use Rattle.tlv_head.specs.declared.fault.Fault.{Fault}
use Rattle.tlv_walk.specs.declared.ending.Ending.{Ending}
use Rattle.tlv_walk.specs.declared.ending.Ending.TheVariants as ending
use Rattle.tlv_walk.specs.declared.framing.Framing.{Framing}
use Rattle.tlv_io.specs.declared.out.Out.{Out}
use Rattle.tlv_walk.specs.declared.run.DeviceFault.{DeviceFault}
use Rattle.tlv_walk.specs.declared.run.Run.{Run}
use Rattle.tlv_walk.specs.DriveJob.{enough_run}
use Rattle.tlv_walk.specs.Ending.{IsEnding}
use Rattle.tlv_walk.specs.Events.{EventValue, event_octets}
use Rattle.tlv_walk.specs.Follow.{Effect, effect_of}
use Rattle.tlv_walk.specs.Private.ResultOfPause.{run_of}
use Rattle.tlv_walk.specs.Private.FollowsPiece.{FollowsToFault, FollowsToEnough, FollowsAll, FollowStates, WalksOver}
use Rattle.tlv_walk.specs.Private.FollowsPiece.{WalksToFault, follow_states}
use Rattle.tlv_walk.specs.Forest.{Forest, spelling}
use Rattle.tlv_walk.specs.WalkerState.{WalkerState}
use Rattle.tlv_walk.specs.Walker.{unused_offset, Stands, refused_one, took_all}
use Rattle.tlv_io.specs.Out.{Sends}
use Rattle.tlv_walk.specs.Reading.{IsReading}
use Rattle.tlv_walk.specs.OneTurn.{EndsIn, HasEnoughIn, HasWalked, TurnStates}
use Rattle.tlv_walk.specs.DriveJob.{first_not_among}
use Rattle.tlv_walk.specs.Wrappers.{first_without_wrapper, entered_offsets}
use Rattle.tlv_walk.proofs.FollowerLemmas.FollowSteps.{walked_goes_on}
use Rattle.tlv_walk.proofs.WalkerLemmas.EventOctets.{stands-yielded_octets}
use Rattle.tlv_walk.proofs.EventLemmas.UnusedOffset.{stands-entered, stands_unused}
use Rattle.tlv_walk.proofs.FollowerLemmas.Pauses.{fault_octets, fault_is_reading, stands_spelled, stands_yielded}
use Rattle.tlv_walk.proofs.FollowerLemmas.Pauses.{walked_refused}

-- the run of a walker with these counts
run_with : (run : Run) (v : WalkerState) (e : Ending) (k : Bool) (n : ℕ) (u : Option ℕ) → run ≡ run_of v e k
    → v.offset ≡ n → unused_offset v ≡ u
    → run ≡ record { ending = run.ending; octets = n; enough = k; unused = u }
run_with run v e k n u is p q =
    is ∙ ap₂ (λ (x : ℕ) (y : Option ℕ). record { ending = e; octets = x; enough = k; unused = y }) p q
    ∙ ap (λ (x : Run). record { ending = x.ending; octets = n; enough = k; unused = u }) (sym is)

module _ {S D : Type 0} (next : S → EventValue → Effect S) (old new : TurnStates S) (from to : Out D)
    (b piece : List ℕ) (yielded more : List EventValue)
    (put : Sends {T = ⊤} {E = DeviceFault} old.devices.drain new.devices.drain (effect_of next old.follower more).put
    (Ok tt))
    (st : Stands old.walker b yielded) where
  abbrev w : WalkerState
  w = old.walker

  abbrev v : WalkerState
  v = new.walker

  -- the walker and the follower, before and after
  abbrev x : FollowStates S D
  x = follow_states old.walker old.follower from

  abbrev y : FollowStates S D
  y = follow_states new.walker new.follower to

  -- the piece is used up
  pub used_up_on : FollowsAll next x y piece more → HasWalked next old new (b ++ piece) yielded
  used_up_on k = record {
    all = yielded ++ more;
    follows = record {
      more = more;
      all_is = refl;
      made = k.follows.made;
      put = put;
      framing = k.follows.walked.framing;
    };
    stands =
        subst (λ (o : List ℕ). Stands v (b ++ o) (yielded ++ more))
        (sym (append-nil k.follows.walked.taken) ∙ sym k.follows.walked.piece_is)
        (k.follows.walked.stands b yielded st);
    idle = k.ready.0;
  }

  -- the follower had enough
  pub enough_ends : FollowsToEnough next x y piece more → (f : Forest) → IsReading w.framing (b ++ piece) f
      → (run : Run) → run ≡ run_of v ending.Done true
      → HasEnoughIn next old new (b ++ piece) yielded run
  enough_ends k f read run is =
      let walked : WalksOver w v piece k.rest more = k.follows.walked in
      let further = walked_goes_on w v piece k.rest more walked b yielded st f read in
      let there : Stands v (b ++ walked.taken) (yielded ++ more) = walked.stands b yielded st in
      let front : flat_map event_octets (yielded ++ more) ≡ b ++ walked.taken =
      stands-yielded_octets v (b ++ walked.taken) (yielded ++ more) there k.after_event in record {
        all = yielded ++ more;
        follows = record { more = more; all_is = refl; made = k.follows.made; put = put; framing = walked.framing };
        others = further.0;
        has_events = record { reading = f; is_reading = read; all_events = further.1 };
        is_prefix = (
          k.rest,
          ap (λ (o : List ℕ). o ++ k.rest) front ∙ append_assoc b walked.taken k.rest
              ∙ ap (λ (o : List ℕ). b ++ o) (sym walked.piece_is),
        );
        stands = subst (λ (o : List ℕ). Stands v o (yielded ++ more)) (sym front) there;
        run_is =
            run_with run v ending.Done true (length (flat_map event_octets (yielded ++ more)))
            (first_not_among w.framing.inside (entered_offsets (yielded ++ more))) is
            (there.private_state.has_zipper.offset ∙ ap length (sym front))
            (stands-entered v (b ++ walked.taken) (yielded ++ more) there
            ∙ ap (λ (g : Framing). first_not_among g.inside (entered_offsets (yielded ++ more))) walked.framing)
            ∙ ap (λ (x : Run). record (enough_run w.framing (yielded ++ more)) { ending = x.ending }) is;
      }

  -- an octet is refused
  pub fault_ends : (e : Fault) → FollowsToFault next x y piece more e → (run : Run)
      → run ≡ run_of v (ending.Fault e) false → EndsIn next old new (b ++ piece) yielded run
  fault_ends e to_fault run is =
      let k : WalksToFault w v piece more e b yielded = to_fault.walked b yielded st in
      let r = walked_refused w v b piece yielded more e k in record {
        all = yielded ++ more;
        follows = record { more = more; all_is = refl; made = to_fault.made; put = put; framing = k.framing };
        has_events = record {
          reading = r.0.reading;
          is_reading = fault_is_reading w v b piece yielded more e k;
          all_events = r.0.all_events;
        };
        is_ending =
            subst (λ (g : Ending). IsEnding w.framing (b ++ piece) g) (sym (ap (λ (x : Run). x.ending) is))
            (subst (λ (o : List ℕ). IsEnding w.framing o (ending.Fault e))
            (fault_octets w v b piece yielded more e k) (r.0.ends k.others));
        run_is =
            run_with run v (ending.Fault e) false (length (spelling r.0.reading))
            (first_without_wrapper w.framing.inside r.0.reading) is
            (k.stands.offset ∙ ap length (sym r.0.spelled)) r.1;
        stands = refused_one e (record {
          taken = b ++ k.taken;
          octet = k.octet;
          others = k.others;
          octets_are = fault_octets w v b piece yielded more e k;
          stands = k.stands;
        });
      }

-- the input has ended
pub used_up_ends : {S : Type 0} (next : S → EventValue → Effect S) (old new : TurnStates S) (o : List ℕ)
    (yielded : List EventValue) (run : Run) (e : Ending)
    → HasWalked next old new o yielded → run ≡ run_of new.walker e false → IsEnding new.walker.framing o e
    → EndsIn next old new o yielded run
used_up_ends next old new o yielded run e x is ends =
    let w : WalkerState = old.walker in
    let v : WalkerState = new.walker in
    let all : List EventValue = x.all in
    let same : v.framing ≡ w.framing = x.follows.framing in
    let f : Forest = x.stands.has_events.reading in
    let r : IsReading v.framing o f = x.stands.has_events.is_reading in record {
      all = x.all;
      follows = x.follows;
      has_events = record {
        reading = f;
        is_reading = subst (λ (g : Framing). IsReading g o f) same r;
        all_events = stands_yielded v o all f x.stands x.idle r;
      };
      is_ending =
          subst (λ (k : Ending). IsEnding w.framing o k) (sym (ap (λ (x : Run). x.ending) is))
          (subst (λ (g : Framing). IsEnding g o e) same ends);
      run_is =
          run_with run v e false (length (spelling f)) (first_without_wrapper w.framing.inside f) is
          (x.stands.private_state.has_zipper.offset ∙ ap length (sym (stands_spelled v o all f x.stands r)))
          (stands_unused v o all x.stands ∙ ap (λ (g : Framing). first_without_wrapper g.inside f) same);
      stands = took_all x.stands x.idle;
    }
