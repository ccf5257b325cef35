-- One read of a source that gave octets, and the writes after it.
use Rattle.std.proofs.Common.{◌≡◌, ◌<◌, ◌≤◌, ◌-◌, min, ℕ, List, length, refl, sym, ap, ◌∙◌, subst, arith}
use Rattle.std.specs.Prelude.{Result, Ok, Err, ⊤}
use Rattle.std.specs.Io.KnownBytes.{Consumes}
use Rattle.tlv_walk.specs.declared.run.DeviceFault.{DeviceFault}
use Rattle.tlv_walk.specs.declared.run.DeviceFault.TheVariants.{ReadFailed, WriteFailed, InputTooLong}
use Rattle.tlv_walk.specs.declared.run.Turn.{Turn}
use Rattle.tlv_walk.specs.declared.run.Turn.TheVariants.{Again, Ended}
use Rattle.tlv_io.specs.declared.source.ReadFault.{ReadFault}
use Rattle.tlv_walk.specs.declared.one_piece.Pause.{Pause}
use Rattle.tlv_walk.specs.declared.one_piece.Pause.TheVariants as pause
use Rattle.tlv_io.specs.declared.out.Out.{Out}
use Rattle.tlv_io.specs.Device.{LastReadValue, never, gave, failed, failures_after, ReadsOnce}
use Rattle.tlv_walk.specs.Events.{EventValue}
use Rattle.tlv_walk.specs.Follow.{Effect}
use Rattle.tlv_walk.specs.Job.{drain_result, source_result}
use Rattle.tlv_walk.specs.WalkerState.{WalkerState}
use Rattle.tlv_walk.specs.Walker.{IsReady}
use Rattle.tlv_walk.specs.Private.FollowsPiece.{Pauses, FollowStates, follow_states}
use Rattle.tlv_walk.specs.Private.ResultOfPause.{IsResultOfPause}
use Rattle.tlv_walk.specs.OneTurn.{CallsDevices, CanGoOn, LastReadWas, TurnStates, last_octets}

gave-same : (m n : ℕ) → gave m ≡ gave n → m ≡ n
gave-same m n e = ap (λ (l : LastReadValue). elim l [ never ↦ 0 | gave k ↦ k | failed ↦ 0 ]) e

module _ {S : Type 0} (next : S → EventValue → Effect S) (old new : TurnStates S) (piece : List ℕ) where
  -- a read that gave octets, and a result that blames no source for it
  pub calls_given : (n : ℕ) (result : Result Turn DeviceFault)
      → ReadsOnce {E = ReadFault} old.devices.source new.devices.source (Ok n) piece
      → 0 < length piece → LastReadWas (length piece) result (gave n) → source_result result ≡ Ok tt
      → new.devices.drain.failures ≡ failures_after (drain_result result) old.devices.drain.failures
      → CallsDevices next old new piece result
  calls_given n result r some g s d = record {
    octets =
        subst (λ (l : LastReadValue). Consumes old.devices.source.left new.devices.source.left (last_octets l piece))
        (sym r.last) r.octets.0;
    reads = r.reads;
    last = subst (λ (l : LastReadValue). LastReadWas (length piece) result l) (sym r.last) g;
    at_end = λ e. r.octets.1 (gave-same n 0 (sym r.last ∙ e)) some;
    failed_reads = r.failures ∙ ap (λ (x : Result ⊤ DeviceFault). failures_after x old.devices.source.failures) (sym s);
    failed_writes = d;
  }

  -- the same, if all that was made of the octets was written, and a turn returns what comes of it
  pub calls_answered : (n m : ℕ) (v : WalkerState) (why : Pause) (result : Result Turn DeviceFault)
      → ReadsOnce {E = ReadFault} old.devices.source new.devices.source (Ok n) piece → 0 < length piece
      → n ≤ length piece
      → new.devices.drain.failures ≡ old.devices.drain.failures → IsResultOfPause n m v why result
      → CallsDevices next old new piece result
  calls_answered n m v pause.Enough (Ok turn) r some fits d is = calls_given n (Ok turn) r some fits refl d
  calls_answered n m v (pause.Fault f) (Ok turn) r some fits d is = calls_given n (Ok turn) r some fits refl d
  calls_answered n m v pause.UsedUp (Ok turn) r some fits d is = calls_given n (Ok turn) r some fits refl d
  calls_answered n m v pause.UsedUp (Err InputTooLong) r some fits d is =
      calls_given n (Err InputTooLong) r some fits refl d
  calls_answered n m v pause.Enough (Err e) r some fits d is = absurd is
  calls_answered n m v (pause.Fault f) (Err e) r some fits d is = absurd is
  calls_answered n m v pause.UsedUp (Err ReadFailed) r some fits d is = absurd is
  calls_answered n m v pause.UsedUp (Err WriteFailed) r some fits d is = absurd is

  -- how a walk can go on whose turn returns this, after octets within the limit
  pub can_go_on_answered : {D : Type 0} (from to : Out D) (n m limit : ℕ) (walked : List ℕ) (more : List EventValue)
      (why : Pause) (result : Result Turn DeviceFault)
      → IsResultOfPause n m new.walker why result
      → Pauses next (follow_states old.walker old.follower from) (follow_states new.walker new.follower to) walked
      more (Ok why)
      → length walked ≡ m → m ≡ min (limit - old.walker.offset) n → old.walker.offset ≤ limit
      → CanGoOn next old new limit result
  can_go_on_answered from to n m limit walked more pause.UsedUp (Ok Again) is used l fits below =
      record {
        moved = omega (arith, is.0, is.1, used.offset, l, fits, below);
        within = omega (arith, is.0, is.1, used.offset, l, fits, below);
        ready = used.ready;
      }
  can_go_on_answered from to n m limit walked more why (Ok (Ended run)) is used l fits below = tt
  can_go_on_answered from to n m limit walked more pause.UsedUp (Err InputTooLong) is used l fits below =
      record { at_limit = omega (arith, is, used.offset, l, fits, below); ready = used.ready }
  can_go_on_answered from to n m limit walked more why (Err WriteFailed) is used l fits below = tt
  can_go_on_answered from to n m limit walked more pause.UsedUp (Err ReadFailed) is used l fits below = absurd is
  can_go_on_answered from to n m limit walked more pause.Enough (Ok Again) is used l fits below = absurd is
  can_go_on_answered from to n m limit walked more pause.Enough (Err ReadFailed) is used l fits below = absurd is
  can_go_on_answered from to n m limit walked more pause.Enough (Err InputTooLong) is used l fits below = absurd is
  can_go_on_answered from to n m limit walked more (pause.Fault f) (Ok Again) is used l fits below = absurd is
  can_go_on_answered from to n m limit walked more (pause.Fault f) (Err ReadFailed) is used l fits below = absurd is
  can_go_on_answered from to n m limit walked more (pause.Fault f) (Err InputTooLong) is used l fits below = absurd is

-- a walker that used a piece up can take more
pub used_up_ready : {S D : Type 0} (next : S → EventValue → Effect S) (x y : FollowStates S D) (piece : List ℕ)
    (more : List EventValue) (why : Pause)
    → Pauses next x y piece more (Ok why)
    → why ≡ pause.UsedUp → IsReady y.walker
used_up_ready next x y piece more pause.UsedUp k e = k.ready
used_up_ready next x y piece more (pause.Fault f) k e = absurd (cc (e))
used_up_ready next x y piece more pause.Enough k e = absurd (cc (e))
