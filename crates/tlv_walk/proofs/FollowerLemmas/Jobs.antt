-- A job that is a walk with some follower.
use Rattle.std.proofs.Common.{◌≡◌, ◌⊎◌, ℕ, ◌≤◌, Bool, true, false, List, ◌++◌, length, take, refl, sym, ap, ◌∙◌, subst}
use Rattle.std.proofs.Common.{arith}
use Rattle.std.proofs.lemmas.List.{length-take}
use Rattle.std.specs.Prelude.{if◌then◌else◌, Result, Ok, Err, ⊤}
use Rattle.tlv_head.specs.Limits.{input_limit}
use Rattle.tlv_walk.specs.declared.ending.Ending.{Ending}
use Rattle.tlv_walk.specs.declared.ending.Ending.TheVariants.{Done}
use Rattle.tlv_walk.specs.declared.framing.Framing.{Framing}
use Rattle.tlv_walk.specs.declared.run.DeviceFault.{DeviceFault}
use Rattle.tlv_walk.specs.declared.run.DeviceFault.TheVariants.{ReadFailed, WriteFailed, InputTooLong}
use Rattle.tlv_walk.specs.declared.run.Run.{Run}
use Rattle.std.specs.List.{concat}
use Rattle.tlv_io.specs.Device.{DrainState, SourceState, octets_given}
use Rattle.tlv_walk.specs.DriveJob.{Drives, drive_job, drive_states, enough_run, run_over}
use Rattle.tlv_walk.specs.Events.{EventValue, events}
use Rattle.tlv_walk.specs.Follow.{Effect, effect_of, go_of, had_enough}
use Rattle.tlv_walk.specs.Forest.{Forest}
use Rattle.tlv_walk.specs.Job.{Job, Runs, WantMore, device_states, read_failed, too_long, write_failed}
use Rattle.tlv_walk.proofs.FollowerLemmas.Enough.{ComesToResult, Settled, comes_to, comes_to-result, ends_alike}
use Rattle.tlv_walk.proofs.FollowerLemmas.Enough.{ends_done}
use Rattle.tlv_io.specs.Out.{Sends}
use Rattle.tlv_io.proofs.Sends.{sends_as}
use Rattle.tlv_walk.specs.Reading.{IsReading}

-- a run has the ending that it came to
pub run-ending : (framing : Framing) (f : Forest) (es : List EventValue) (k : Bool) (e : Ending)
    → (k ≡ true → e ≡ Done) → (if k then enough_run framing es else run_over framing f e).ending ≡ e
run-ending framing f es true e done = sym (done refl)
run-ending framing f es false e done = refl

pub had-goes : (k : Bool) → had_enough (go_of k) ≡ k
had-goes true = refl
had-goes false = refl

module _ {S A : Type 0} (next : S → EventValue → Effect S) (job : Job A) (s : S)
    (text : (octets : List ℕ) (f : Forest) → length octets ≤ input_limit → IsReading job.framing octets f
    → (effect_of next s (events f)).put ≡ job.text f)
    (enough : (octets : List ℕ) (f : Forest) → length octets ≤ input_limit → IsReading job.framing octets f
    → had_enough (effect_of next s (events f)).goes ≡ job.is_enough f)
    (t : S) (old new : SourceState) (from to : DrainState) where
  within_limit : (given : List ℕ) → length (take input_limit given) ≤ input_limit
  within_limit given = omega (arith, length-take input_limit given)

  abbrev wants_as : (octets : List ℕ) → length octets ≤ input_limit → WantMore (drive_job next job.framing s) octets
      → WantMore job octets
  wants_as octets few x = (x.0, x.1, sym (enough octets x.0 few x.1.0) ∙ x.2)

  -- what the walk sent is the job's text
  abbrev sent_as : {E : Type 0} (given : List ℕ) (f : Forest) (result : Result ⊤ E)
      → IsReading job.framing (take input_limit given) f → Sends from to (effect_of next s (events f)).put result
      → Sends from to (job.text f) result
  sent_as given f result r x =
      sends_as from to (effect_of next s (events f)).put (job.text f) result x
      (text (take input_limit given) f (within_limit given) r)

  pub runs_ok : (run : Run) (a : A)
      → Drives next job.framing input_limit (drive_states s old from) (drive_states t new to) (Ok run)
      → ((octets : List ℕ) (f : Forest) (e : Ending) → length octets ≤ input_limit → IsReading job.framing octets f
      → (had_enough (effect_of next s (events f)).goes ≡ true → e ≡ Done)
      → t ≡ (effect_of next s (events f)).state → run ≡ (drive_job next job.framing s).returns f e
      → a ≡ job.returns f e)
      → Runs job (device_states old from) (device_states new to) (Ok a)
  runs_ok run a x answer =
      let w = x.runs in
      let given : List ℕ = octets_given w.pieces in
      let same = enough (take input_limit given) w.reading (within_limit given) w.is_reading in
      let k : ComesToResult (drive_job next job.framing s) input_limit given w.reading new (Ok run) =
      comes_to-result (drive_job next job.framing s) input_limit given w.reading new (Ok run) w.comes in record {
        pieces = w.pieces;
        failures = w.failures;
        wants_more = wants_as (concat w.pieces.pieces) w.within w.wants_more;
        within = w.within;
        reading = w.reading;
        is_reading = w.is_reading;
        sends = sent_as given w.reading (Ok tt) w.is_reading w.sends;
        sent_before = λ failed. absurd (cc (failed));
        comes = comes_to job input_limit given w.reading new (Ok a) (
          k.0,
          answer (take input_limit given) w.reading k.0 (within_limit given) w.is_reading
              (ends_done (drive_job next job.framing s) (take input_limit given) w.reading k.0 k.2) x.state k.1,
          ends_alike job (take input_limit given) w.reading (drive_job next job.framing s) refl (sym same) k.0 k.2,
          subst (λ (y : Bool). (y ≡ true) ⊎ Settled job input_limit given w.reading new k.0) same k.3,
        );
      }

  pub runs_err : (e : DeviceFault)
      → Drives next job.framing input_limit (drive_states s old from) (drive_states t new to) (Err e)
      → Runs job (device_states old from) (device_states new to) (Err e)
  runs_err ReadFailed x =
      let w = x.runs in record {
        pieces = w.pieces;
        failures = w.failures;
        wants_more = wants_as (concat w.pieces.pieces) w.within w.wants_more;
        within = w.within;
        reading = w.reading;
        is_reading = w.is_reading;
        sends = sent_as (octets_given w.pieces) w.reading (Ok tt) w.is_reading w.sends;
        sent_before = λ failed. absurd (cc (failed));
        comes =
            read_failed
            (comes_to-result (drive_job next job.framing s) input_limit (octets_given w.pieces) w.reading new
            (Err ReadFailed) w.comes);
      }
  runs_err WriteFailed x =
      let w = x.runs in record {
        pieces = w.pieces;
        failures = w.failures;
        wants_more = wants_as (concat w.pieces.pieces) w.within w.wants_more;
        within = w.within;
        reading = w.reading;
        is_reading = w.is_reading;
        sends = sent_as (octets_given w.pieces) w.reading (Err WriteFailed) w.is_reading w.sends;
        sent_before =
            λ failed.
            let k = w.sent_before refl in
            let e = text (concat w.pieces.pieces) w.wants_more.0 w.within w.wants_more.1.0 in
            (k.0, ap (λ (l : List ℕ). l ++ k.0) (sym e) ∙ k.1);
        comes = write_failed;
      }
  runs_err InputTooLong x =
      let w = x.runs in
      let k =
      comes_to-result (drive_job next job.framing s) input_limit (octets_given w.pieces) w.reading new
      (Err InputTooLong) w.comes in record {
        pieces = w.pieces;
        failures = w.failures;
        wants_more = wants_as (concat w.pieces.pieces) w.within w.wants_more;
        within = w.within;
        reading = w.reading;
        is_reading = w.is_reading;
        sends = sent_as (octets_given w.pieces) w.reading (Ok tt) w.is_reading w.sends;
        sent_before = λ failed. absurd (cc (failed));
        comes =
            too_long k.0
            (wants_as (take input_limit (octets_given w.pieces)) (within_limit (octets_given w.pieces)) k.1);
      }
