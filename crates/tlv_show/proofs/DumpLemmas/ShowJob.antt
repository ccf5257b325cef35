-- A command that shows what a source gives is a walk, followed by a follower that always wants more.
use Rattle.std.proofs.Common.{◌≡◌, ℕ, ◌^◌, ◌≤◌, false, List, length, ap, ◌∙◌}
use Rattle.std.specs.Prelude.{if◌then◌else◌, Option, Ok, Err}
use Rattle.tlv_walk.specs.declared.ending.Ending.{Ending}
use Rattle.tlv_walk.specs.declared.follow.Go.{Go}
use Rattle.tlv_walk.specs.declared.follow.Go.TheVariants as go
use Rattle.tlv_walk.specs.declared.framing.Framing.{Framing}
use Rattle.tlv_walk.specs.declared.run.DeviceFault.{DeviceFault}
use Rattle.tlv_walk.specs.declared.run.Run.{Run}
use Rattle.tlv_io.specs.Device.{DrainState, SourceState}
use Rattle.tlv_walk.specs.DriveJob.{Drives, drive_job, drive_states, enough_run, run_over}
use Rattle.tlv_walk.specs.Events.{EventValue, events}
use Rattle.tlv_walk.specs.Follow.{Effect, effect_of, followed_events, had_enough}
use Rattle.tlv_walk.specs.Forest.{Forest}
use Rattle.tlv_walk.specs.Job.{Runs, device_states}
use Rattle.tlv_walk.specs.Reading.{IsReading}
use Rattle.tlv_walk.specs.Wrappers.{first_without_wrapper}
use Rattle.tlv_walk.proofs.FollowerLemmas.Jobs as jobs
use Rattle.tlv_show.specs.declared.outcome.Outcome.{Outcome}
use Rattle.tlv_show.specs.declared.wanted.Wanted.{Wanted}
use Rattle.tlv_show.specs.Items.{Item}
use Rattle.tlv_show.specs.ShowJob.{show_job}
use Rattle.tlv_show.specs.Texts.{finding_count}
use Rattle.tlv_show.specs.ShownFindings.{wanted_findings}

-- a follower, and what it makes of readings: the text of their items, and in its state the number of findings
pub record Shower {S : Type 0} (next : S → EventValue → Effect S) (first : S) (wanted : Wanted)
    (framing : Framing) (text_of : Item → List ℕ) (count_in : S → ℕ) : Type 0 where
  pub goes_on : (s : S) (es : List EventValue) → (effect_of next s es).goes ≡ go.On
  pub put : (octets : List ℕ) (f : Forest) → length octets ≤ 2 ^ 40 → IsReading framing octets f
      → (effect_of next first (events f)).put ≡ (show_job (wanted_findings wanted) framing text_of).text f
  pub counts : (octets : List ℕ) (f : Forest) → length octets ≤ 2 ^ 40 → IsReading framing octets f
      → count_in (effect_of next first (events f)).state ≡ finding_count (wanted_findings wanted) f

module _ {S : Type 0} (next : S → EventValue → Effect S) (first : S) (wanted : Wanted) (framing : Framing)
    (text_of : Item → List ℕ) (count_in : S → ℕ)
    (w : Shower next first wanted framing text_of count_in) (t : S) (old new : SourceState) (from to : DrainState) where
  -- it never has enough
  goes_on : (octets : List ℕ) (f : Forest) → length octets ≤ 2 ^ 40 → IsReading framing octets f
      → had_enough (effect_of next first (events f)).goes ≡ false
  goes_on octets f few r = ap had_enough (w.goes_on first (events f))

  -- an outcome with these values
  outcome_is : (outcome : Outcome) (e : Ending) (n : ℕ) (unused : Option ℕ) → outcome.ending ≡ e
      → outcome.findings ≡ n → outcome.unused ≡ unused
      → outcome ≡ record { ending = e; findings = n; unused = unused }
  outcome_is outcome e n unused p q r =
      ap (λ (x : Ending). record { ending = x; findings = outcome.findings; unused = outcome.unused }) p
      ∙ ap (λ (x : ℕ). record { ending = e; findings = x; unused = outcome.unused }) q
      ∙ ap (λ (x : Option ℕ). record { ending = e; findings = n; unused = x }) r

  -- the run over all events
  run_on : (f : Forest) (e : Ending)
      → (drive_job next framing first).returns f e ≡ run_over framing f e
  run_on f e =
      ap (λ (g : Go). if had_enough g then enough_run framing (followed_events next first (events f))
      else run_over framing f e)
      (w.goes_on first (events f))

  pub shows_ok : (run : Run) (outcome : Outcome) → outcome.ending ≡ run.ending → outcome.findings ≡ count_in t
      → outcome.unused ≡ run.unused
      → Drives next framing (2 ^ 40) (drive_states first old from) (drive_states t new to) (Ok run)
      → Runs (show_job (wanted_findings wanted) framing text_of) (device_states old from) (device_states new to) (Ok outcome)
  shows_ok run outcome ending findings unused x =
      jobs.runs_ok next (show_job (wanted_findings wanted) framing text_of) first w.put goes_on t old new from to run outcome x
      (λ octets f e few r done state is. outcome_is outcome e (finding_count (wanted_findings wanted) f)
      (first_without_wrapper framing.inside f)
      (ending ∙ ap (λ (k : Run). k.ending) (is ∙ run_on f e))
      (findings ∙ ap count_in state ∙ w.counts octets f few r)
      (unused ∙ ap (λ (k : Run). k.unused) (is ∙ run_on f e)))

  pub shows_err : (e : DeviceFault)
      → Drives next framing (2 ^ 40) (drive_states first old from) (drive_states t new to) (Err e)
      → Runs (show_job (wanted_findings wanted) framing text_of) (device_states old from) (device_states new to) (Err e)
  shows_err e x = jobs.runs_err next (show_job (wanted_findings wanted) framing text_of) first w.put goes_on t old new from to e x
