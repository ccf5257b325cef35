-- What a turn returns, by why its piece is not followed any further.
use Rattle.std.proofs.Common.{◌≡◌, inl, inr, ℕ, ◌-◌, ◌≤◌, ◌<◌, min, true, false, List, [], ◌++◌, length, take, refl}
use Rattle.std.proofs.Common.{sym, ap, ◌∙◌, subst, arith, append_assoc, length-append}
use Rattle.std.proofs.lemmas.Bool.{cases_lt}
use Rattle.std.proofs.lemmas.List.{length-take, take_all}
use Rattle.std.proofs.Math.Seq.{take-take}
use Rattle.std.specs.Prelude.{Result, Ok, Err, ⊤}
use Rattle.tlv_head.specs.declared.fault.Fault.{Fault}
use Rattle.tlv_io.specs.declared.drain.WriteFault.{WriteFault}
use Rattle.tlv_walk.specs.declared.ending.Ending.{Ending}
use Rattle.tlv_walk.specs.declared.ending.Ending.TheVariants as ending
use Rattle.tlv_io.specs.declared.out.Out.{Out}
use Rattle.tlv_walk.specs.declared.run.DeviceFault.{DeviceFault}
use Rattle.tlv_walk.specs.declared.run.DeviceFault.TheVariants.{ReadFailed, WriteFailed, InputTooLong}
use Rattle.tlv_walk.specs.declared.run.Run.{Run}
use Rattle.tlv_walk.specs.declared.run.Turn.{Turn}
use Rattle.tlv_walk.specs.declared.run.Turn.TheVariants.{Again, Ended}
use Rattle.tlv_walk.specs.declared.one_piece.Pause.{Pause}
use Rattle.tlv_walk.specs.declared.one_piece.Pause.TheVariants as pause
use Rattle.tlv_io.specs.Device.{DrainState}
use Rattle.tlv_walk.specs.Ending.{IsEnding, IsFinalEnding}
use Rattle.tlv_walk.specs.Events.{AreEqualJoined, EventValue, events}
use Rattle.tlv_walk.specs.Follow.{Effect, effect_of}
use Rattle.tlv_walk.specs.Private.ResultOfPause.{IsResultOfPause, run_of}
use Rattle.tlv_walk.specs.Private.FollowsPiece.{FollowsAndFlushes, Pauses, WalksToFault, follow_states}
use Rattle.tlv_walk.specs.Forest.{Forest}
use Rattle.tlv_io.specs.Out.{Sends, drain_of}
use Rattle.tlv_walk.specs.Reading.{AreOctets, IsReading}
use Rattle.tlv_walk.specs.Walker.{Stands, IfStands}
use Rattle.tlv_walk.specs.OneTurn.{EndsIn, HasEnoughIn, HasWalked, TurnStates, TurnsTo, again, at_enough, at_fault}
use Rattle.tlv_walk.specs.OneTurn.{at_input_end, too_long, write_failed}
use Rattle.tlv_walk.proofs.GrammarLemmas.FinalFaults.{refused-final}
use Rattle.tlv_walk.proofs.FollowerLemmas.FollowedEvents.{followed-prefix}
use Rattle.tlv_io.proofs.Sends.{sends_err, sends_ok}
use Rattle.tlv_walk.proofs.GrammarLemmas.Readings.{reading-longer}
use Rattle.tlv_walk.proofs.FollowerLemmas.WalkSoFar.{limit_after}
use Rattle.tlv_walk.proofs.FollowerLemmas.Pauses.{stands_spelled, walked_refused}
use Rattle.tlv_walk.proofs.FollowerLemmas.TurnEnds.{enough_ends, fault_ends, used_up_ends, used_up_on}

-- of n octets with which a piece begins, as many as the limit leaves
taken_within : (limit offset n : ℕ) (p : List ℕ) → take (min (limit - offset) n) p ≡ take (limit - offset) (take n p)
taken_within limit offset n p = elim (cases_lt (limit - offset) n) [
  | inl less ↦ ap (λ (k : ℕ). take k p) (omega (arith, less))
      ∙ sym (take-take (limit - offset) n p (omega (arith, less)))
  | inr more ↦ ap (λ (k : ℕ). take k p) (omega (arith, more))
      ∙ sym (take_all (limit - offset) (take n p) (omega (arith, more, length-take n p)))
]

module _ {S D : Type 0} (next : S → EventValue → Effect S) (old new : TurnStates S) (from to : Out D) (b : List ℕ)
    (yielded : List EventValue) (p piece r : List ℕ) (n m limit : ℕ)
    (st : Stands old.walker b yielded) (some : n ≤ length p) (below : old.walker.offset ≤ limit)
    (is_m : m ≡ min (limit - old.walker.offset) n)
    (is_piece : piece ≡ take m p) (is_r : r ≡ take n p) (octets : AreOctets piece) where
  abbrev offset : ℕ
  offset = old.walker.offset

  -- what is made of these events was handed to the drain
  abbrev Sent : Result Pause WriteFault → List EventValue → Type 0
  Sent result more = Sends old.devices.drain new.devices.drain (effect_of next old.follower more).put result

  -- the same of a turn
  sent-of_turn : (why : Pause) (more : List EventValue) → Sent (Ok why) more
      → Sends {T = ⊤} {E = DeviceFault} old.devices.drain new.devices.drain (effect_of next old.follower more).put
      (Ok tt)
  sent-of_turn why more q =
      sends_ok old.devices.drain new.devices.drain (effect_of next old.follower more).put
      (effect_of next old.follower more).put why tt q refl

  given-length : length r ≡ n
  given-length = ap length is_r ∙ length-take n p ∙ omega (arith, some)

  -- the octets that are followed are those up to the limit
  reached : b ++ piece ≡ take limit (b ++ r)
  reached =
      ap (λ (o : List ℕ). b ++ o) (
      is_piece ∙ ap (λ (k : ℕ). take k p) is_m ∙ taken_within limit offset n p
      ∙ ap (λ (k : ℕ). take (limit - k) (take n p)) st.private_state.has_zipper.offset
      ∙ ap (λ (o : List ℕ). take (limit - length b) o) (sym is_r)
      ) ∙ limit_after limit b r (omega (arith, st.private_state.has_zipper.offset, below))

  -- the reading of these
  read : (f : Forest) × IsReading old.walker.framing (b ++ piece) f
  read =
      reading-longer old.walker.framing st.has_events.reading b piece octets st.has_events.is_reading
      (stands_spelled old.walker b yielded st.has_events.reading st st.has_events.is_reading)

  -- all octets are within the limit
  all_within : (m < n → ⊥) → piece ≡ r
  all_within e = is_piece ∙ ap (λ (k : ℕ). take k p) (omega (arith, e, is_m)) ∙ sym is_r

  -- they were followed so far, and what is made of them handed to the drain
  record Followed (why paused : Pause) : Type 0 where
    more : List EventValue
    pauses : Pauses next (follow_states old.walker old.follower from) (follow_states new.walker new.follower to) piece
        more (Ok paused)
    put : Sent (Ok why) more

  used_up-stands : (why : Pause) → Followed why pause.UsedUp → HasWalked next old new (b ++ piece) yielded
  used_up-stands why x =
      used_up_on next old new from to b piece yielded x.more (sent-of_turn why x.more x.put) st x.pauses

  turns_again : (why : Pause) → Followed why pause.UsedUp → (m < n → ⊥) → (n ≡ 0 → ⊥)
      → TurnsTo next old new limit b yielded r (Ok Again)
  turns_again why x fits some' =
      again (λ e. some' (sym given-length ∙ ap length e))
      (omega (arith, length-append b r, given-length, st.private_state.has_zipper.offset, fits, below, is_m))
      (subst (λ (o : List ℕ). HasWalked next old new (b ++ o) yielded) (all_within fits) (used_up-stands why x))

  turns_long : (why : Pause) → Followed why pause.UsedUp → m < n
      → TurnsTo next old new limit b yielded r (Err InputTooLong)
  turns_long why x more =
      too_long
      (omega (arith, length-append b r, given-length, st.private_state.has_zipper.offset, more, below, is_m))
      (subst (λ (o : List ℕ). HasWalked next old new o yielded) reached (used_up-stands why x))

  ends_in : (run : Run) → EndsIn next old new (b ++ piece) yielded run
      → EndsIn next old new (take limit (b ++ r)) yielded run
  ends_in run x = subst (λ (o : List ℕ). EndsIn next old new o yielded run) reached x

  turns_end : (run : Run) (e : Ending) (why : Pause) → Followed why pause.UsedUp → (n ≡ 0)
      → run ≡ run_of new.walker e false
      → IfStands new.walker (λ octets yielded. IsEnding new.walker.framing octets e)
      → TurnsTo next old new limit b yielded r (Ok (Ended run))
  turns_end run e why x none is ends =
      let on = used_up-stands why x in
      at_input_end run
      (ends_in run
      (used_up_ends next old new (b ++ piece) yielded run e on is (ends (b ++ piece) on.all on.stands)))
      (is_r ∙ ap (λ (k : ℕ). take k p) none)

  turns_fault : (run : Run) (e : Fault) (why : Pause) → Followed why (pause.Fault e)
      → run ≡ run_of new.walker (ending.Fault e) false
      → TurnsTo next old new limit b yielded r (Ok (Ended run))
  turns_fault run e why x is =
      let k : WalksToFault old.walker new.walker piece x.more e b yielded = x.pauses.walked b yielded st in
      let r = (walked_refused old.walker new.walker b piece yielded x.more e k).0 in
      at_fault run
      (ends_in run
      (fault_ends next old new from to b piece yielded x.more (sent-of_turn why x.more x.put) st e x.pauses run is))
      (subst IsFinalEnding (sym (ap (λ (x : Run). x.ending) is))
      (refused-final old.walker.framing (b ++ k.taken) k.octet [] e r.offset (r.ends [])))

  turns_enough : (run : Run) (why : Pause) → Followed why pause.Enough → run ≡ run_of new.walker ending.Done true
      → TurnsTo next old new limit b yielded r (Ok (Ended run))
  turns_enough run why x is =
      at_enough run
      (subst (λ (o : List ℕ). HasEnoughIn next old new o yielded run) reached
      (enough_ends next old new from to b piece yielded x.more (sent-of_turn why x.more x.put) st x.pauses read.0 read.1
      run is))

  -- by why the piece is not followed any further
  answered : (why : Pause) (result : Result Turn DeviceFault) → Followed why why
      → IsResultOfPause n m new.walker why result → TurnsTo next old new limit b yielded r result
  answered pause.Enough (Ok (Ended run)) x is = turns_enough run pause.Enough x is
  answered (pause.Fault f) (Ok (Ended run)) x is = turns_fault run f (pause.Fault f) x is
  answered pause.UsedUp (Err InputTooLong) x is = turns_long pause.UsedUp x is
  answered pause.UsedUp (Ok (Ended run)) x is = turns_end run is.2.0 pause.UsedUp x is.1 is.2.1 is.2.2
  answered pause.UsedUp (Ok Again) x is = turns_again pause.UsedUp x is.0 is.1
  answered pause.Enough (Ok Again) x is = absurd is
  answered pause.Enough (Err e) x is = absurd is
  answered (pause.Fault f) (Ok Again) x is = absurd is
  answered (pause.Fault f) (Err e) x is = absurd is
  answered pause.UsedUp (Err ReadFailed) x is = absurd is
  answered pause.UsedUp (Err WriteFailed) x is = absurd is

  module _ (state_of : D → DrainState) (drain_was : old.devices.drain ≡ state_of (drain_of from).now)
      (drain_is : new.devices.drain ≡ state_of (drain_of to).now) where
    abbrev FollowsIn : Result Pause WriteFault → Type 0
    FollowsIn result =
        FollowsAndFlushes next state_of (follow_states old.walker old.follower from)
        (follow_states new.walker new.follower to) piece result

    handed : (result : Result Pause WriteFault) → (x : FollowsIn result) → Sent result x.more
    handed result x =
        subst (λ (d : DrainState). Sends d new.devices.drain (effect_of next old.follower x.more).put result)
        (sym drain_was)
        (subst
        (λ (d : DrainState). Sends (state_of (drain_of from).now) d (effect_of next old.follower x.more).put result)
        (sym drain_is) x.sends)

    pub turns_answered : (why : Pause) (result : Result Turn DeviceFault) → FollowsIn (Ok why)
        → IsResultOfPause n m new.walker why result → TurnsTo next old new limit b yielded r result
    turns_answered why result x is =
        answered why result (record { more = x.more; pauses = x.pauses; put = handed (Ok why) x }) is

    pub turns_failed : (e : WriteFault) → FollowsIn (Err e) → TurnsTo next old new limit b yielded r (Err WriteFailed)
    turns_failed e x =
        let o = x.pauses.yields b yielded st read.0 read.1 in
        let front = followed-prefix next old.follower x.more o.0 in write_failed (record {
          more = x.more ++ o.0;
          put =
              sends_err old.devices.drain new.devices.drain (effect_of next old.follower x.more).put
              (effect_of next old.follower (x.more ++ o.0)).put e WriteFailed (handed (Err e) x)
              (record { rest = front.0; is = sym front.1 });
          has_events = record {
            reading = read.0;
            is_reading = subst (λ (o : List ℕ). IsReading old.walker.framing o read.0) reached read.1;
            all_events =
                subst (λ (es : List EventValue). AreEqualJoined es (events read.0)) (append_assoc yielded x.more o.0)
                o.1;
          };
        })
