-- `indef` does its job: it is a walk that an `Indef` follows, which always wants more.
use Rattle.std.proofs.Common.{◌≡◌, ℕ, ◌^◌, ◌≤◌, Bool, false, List, ◌++◌, length, take, refl, sym, ap, ◌∙◌, subst}
use Rattle.std.proofs.Common.{append-nil}
use Rattle.std.specs.Prelude.{Ok, Err}
use Rattle.tlv_walk.specs.declared.run.DeviceFault.{DeviceFault}
use Rattle.tlv_walk.specs.declared.run.Run.{Run}
use Rattle.tlv_io.specs.Device.{DrainState, SourceState, octets_given}
use Rattle.tlv_walk.specs.declared.ending.Ending.{Ending}
use Rattle.tlv_walk.specs.declared.ending.Ending.TheVariants.{Done}
use Rattle.tlv_walk.specs.Ending.{IsEnding}
use Rattle.tlv_walk.specs.DriveJob.{Drives, drive_states}
use Rattle.tlv_walk.specs.Events.{events}
use Rattle.tlv_walk.specs.Follow.{Effect, effect_of, followed_events, had_enough}
use Rattle.tlv_walk.specs.Forest.{Forest}
use Rattle.tlv_walk.specs.Job.{Runs, device_states}
use Rattle.tlv_walk.specs.Reading.{IsReading}
use Rattle.tlv_walk.proofs.FollowerLemmas.Enough.{comes_to-result, ends_as_octets}
use Rattle.tlv_walk.proofs.FollowerLemmas.Jobs as jobs
use Rattle.tlv_run.specs.Indef.{indef_text, indef_job, indef_framing, IsReadBack, RunsIndef}
use Rattle.tlv_run.specs.IndefStep.{IndefState, indef_step}
use Rattle.tlv_run.proofs.IndefLemmas.Elements.{followed-events, followed-indef_step}
use Rattle.tlv_run.proofs.IndefLemmas.SecondReading.{indef_text_is_done, indef_text_is_read_back}

module _ (padding : Bool) (s t : IndefState) (old new : SourceState) (from to : DrainState) where
  -- what is put for a reading is what `indef` writes
  put-text : (octets : List ℕ) (f : Forest) → length octets ≤ 2 ^ 40 → IsReading (indef_framing padding) octets f
      → (effect_of indef_step s (events f)).put ≡ indef_text f
  put-text octets f few r = ap (λ (k : Effect IndefState). k.put) (followed-events s padding f r.obeys_grammar)

  -- it never has enough
  goes_on : (octets : List ℕ) (f : Forest) → length octets ≤ 2 ^ 40 → IsReading (indef_framing padding) octets f
      → had_enough (effect_of indef_step s (events f)).goes ≡ false
  goes_on octets f few r = ap (λ (k : Effect IndefState). had_enough k.goes) (followed-indef_step s (events f))

  -- if it is done, what it wrote is read back, and is done too
  read_back : (e : Ending) (x : Runs (indef_job padding) (device_states old from) (device_states new to) (Ok e))
      → e ≡ Done → IsReadBack padding x.reading x.sends.sent × IsEnding (indef_framing padding) x.sends.sent Done
  read_back e x done =
      let w = indef_framing padding in
      let given : List ℕ = octets_given x.pieces in
      let octets : List ℕ = take (2 ^ 40) given in
      let k = comes_to-result (indef_job padding) (2 ^ 40) given x.reading new (Ok e) x.comes in
      let all : x.sends.sent ≡ indef_text x.reading =
      sym (append-nil x.sends.sent) ∙ ap (λ (l : List ℕ). x.sends.sent ++ l) (sym x.sends.all_sent) ∙ x.sends.prefix in
      subst (λ (l : List ℕ). IsReadBack padding x.reading l × IsEnding w l Done) (sym all) (
        indef_text_is_read_back padding octets x.reading x.is_reading,
        indef_text_is_done padding octets x.reading x.is_reading
            (subst (λ (d : Ending). IsEnding w octets d) (sym k.1 ∙ done)
            (ends_as_octets (indef_job padding) octets x.reading k.0 k.2 refl)),
      )

  runs_ok : (run : Run)
      → Drives indef_step (indef_framing padding) (2 ^ 40) (drive_states s old from) (drive_states t new to) (Ok run)
      → Runs (indef_job padding) (device_states old from) (device_states new to) (Ok run.ending)
  runs_ok run x =
      jobs.runs_ok indef_step (indef_job padding) s put-text goes_on t old new from to run run.ending x
      (λ octets f e few r done state is. ap (λ (k : Run). k.ending) is
      ∙ jobs.run-ending (indef_framing padding) f (followed_events indef_step s (events f))
      (had_enough (effect_of indef_step s (events f)).goes) e done)

  pub indef_ok : (run : Run)
      → Drives indef_step (indef_framing padding) (2 ^ 40) (drive_states s old from) (drive_states t new to) (Ok run)
      → RunsIndef padding (device_states old from) (device_states new to) (Ok run.ending)
  indef_ok run x =
      let runs : Runs (indef_job padding) (device_states old from) (device_states new to) (Ok run.ending) =
      runs_ok run x in
      record {
        runs = runs;
        read_back = λ is. (read_back run.ending runs (cc (is))).0;
        done_again = λ is. (read_back run.ending runs (cc (is))).1;
      }

  pub indef_err : (e : DeviceFault)
      → Drives indef_step (indef_framing padding) (2 ^ 40) (drive_states s old from) (drive_states t new to) (Err e)
      → RunsIndef padding (device_states old from) (device_states new to) (Err e)
  indef_err e x = record {
    runs = jobs.runs_err indef_step (indef_job padding) s put-text goes_on t old new from to e x;
    read_back = λ is. absurd (cc (is));
    done_again = λ is. absurd (cc (is));
  }
