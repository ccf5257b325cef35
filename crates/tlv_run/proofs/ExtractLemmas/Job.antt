-- `extract` does its job: it is a walk that an `Extract` follows.
use Rattle.std.proofs.Common.{◌≡◌, ℕ, ◌^◌, ◌≤◌, Bool, true, false, List, length, refl, ap, ◌∙◌, arith}
use Rattle.std.specs.Prelude.{Ok, Err}
use Rattle.tlv_walk.specs.declared.ending.Ending.{Ending}
use Rattle.tlv_walk.specs.declared.framing.Framing.{Framing}
use Rattle.tlv_walk.specs.declared.run.DeviceFault.{DeviceFault}
use Rattle.tlv_walk.specs.declared.run.Run.{Run}
use Rattle.tlv_io.specs.Device.{DrainState, SourceState}
use Rattle.tlv_walk.specs.DriveJob.{Drives, drive_states}
use Rattle.tlv_walk.specs.Events.{events}
use Rattle.tlv_walk.specs.Follow.{followed_events, go_of, had_enough}
use Rattle.tlv_walk.specs.Forest.{Forest}
use Rattle.tlv_walk.specs.Job.{Runs, device_states}
use Rattle.tlv_walk.specs.Place.{top_place}
use Rattle.tlv_walk.specs.Reading.{IsReading}
use Rattle.tlv_walk.proofs.FollowerLemmas.Jobs as jobs
use Rattle.tlv_run.specs.declared.extract_call.Cut.{Cut}
use Rattle.tlv_run.specs.Extract.{extract_text, element_at, extract_job}
use Rattle.tlv_run.specs.CutLaws.{has_element_at, has_whole_element_at}
use Rattle.tlv_run.specs.ExtractStep.{ExtractState, extract_step, has_found, new_extract}
use Rattle.tlv_run.proofs.ExtractLemmas.Inside.{made_from}
use Rattle.tlv_run.proofs.ExtractLemmas.Elements.{IsTextOf, makes_text}

pub goes_alike : (j k : Bool) → go_of j ≡ go_of k → j ≡ k
goes_alike true true e = refl
goes_alike true false e = absurd (cc (e))
goes_alike false true e = absurd (cc (e))
goes_alike false false e = refl

module _ (framing : Framing) (n : ℕ) (only : Bool) (t : ExtractState) (old new : SourceState)
    (from to : DrainState) where
  -- what is put for a reading is what `extract` writes
  made_text : (octets : List ℕ) (f : Forest) → IsReading framing octets f
      → IsTextOf n only (element_at n f) (made_from (new_extract n only) (events f))
  made_text octets f r = makes_text n only (top_place framing) f r.obeys_grammar (omega arith)

  text : (octets : List ℕ) (f : Forest) → length octets ≤ 2 ^ 40 → IsReading framing octets f
      → (made_from (new_extract n only) (events f)).put ≡ extract_text n only f
  text octets f few r = (made_text octets f r).put

  -- there was enough exactly if the element is whole
  enough-if_whole : (octets : List ℕ) (f : Forest) → length octets ≤ 2 ^ 40 → IsReading framing octets f
      → had_enough (made_from (new_extract n only) (events f)).goes ≡ has_whole_element_at n f
  enough-if_whole octets f few r = ap had_enough (made_text octets f r).goes ∙ jobs.had-goes (has_whole_element_at n f)

  -- a result with these values
  answer_is : (answer : Cut) (e : Ending) (found : Bool) → answer.ending ≡ e → answer.found ≡ found
      → answer ≡ record { ending = e; found = found }
  answer_is answer e found p q =
      ap (λ (x : Ending). record { ending = x; found = answer.found }) p
      ∙ ap (λ (x : Bool). record { ending = e; found = x }) q

  pub extract_ok : (run : Run) (answer : Cut) → answer.ending ≡ run.ending → answer.found ≡ has_found t
      → Drives extract_step framing (2 ^ 40) (drive_states (new_extract n only) old from) (drive_states t new to)
      (Ok run)
      → Runs (extract_job n only framing) (device_states old from) (device_states new to) (Ok answer)
  extract_ok run answer ending found x =
      jobs.runs_ok extract_step (extract_job n only framing)
      (new_extract n only) text enough-if_whole t old new from to run answer x
      (λ octets f e few r done state is. answer_is answer e (has_element_at n f)
      (ending ∙ ap (λ (k : Run). k.ending) is
      ∙ jobs.run-ending framing f (followed_events extract_step (new_extract n only) (events f))
      (had_enough (made_from (new_extract n only) (events f)).goes) e done)
      (found ∙ ap has_found state ∙ (made_text octets f r).found))

  pub extract_err : (e : DeviceFault)
      → Drives extract_step framing (2 ^ 40) (drive_states (new_extract n only) old from) (drive_states t new to)
      (Err e)
      → Runs (extract_job n only framing) (device_states old from) (device_states new to) (Err e)
  extract_err e x =
      jobs.runs_err extract_step (extract_job n only framing) (new_extract n only) text enough-if_whole t old new from
      to e x
