-- The result of a walk over all the octets that a source gives.
use Rattle.std.specs.Prelude.{◌≡◌, ℕ, true, false, if◌then◌else◌, not, List, length, Option, Result, OnOk}
use Rattle.std.specs.List.{find}
use Rattle.tlv_walk.specs.declared.ending.Ending.{Ending}
use Rattle.tlv_walk.specs.declared.ending.Ending.TheVariants as endings
use Rattle.tlv_walk.specs.declared.framing.Framing.{Framing}
use Rattle.tlv_walk.specs.declared.run.DeviceFault.{DeviceFault}
use Rattle.tlv_walk.specs.declared.run.Run.{Run}
use Rattle.tlv_io.specs.Device.{DrainState, SourceState}
use Rattle.tlv_walk.specs.Events.{EventValue, events, octets_of_events}
use Rattle.tlv_walk.specs.Follow.{Effect, effect_of, followed_events, had_enough}
use Rattle.tlv_walk.specs.Forest.{Forest, spelling}
use Rattle.tlv_walk.specs.Job.{DeviceStates, Job, RunsUpTo, device_states, drain_result}
use Rattle.tlv_head.specs.Lists.{is_among}
use Rattle.tlv_walk.specs.Wrappers.{first_without_wrapper, entered_offsets}

-- the run over a forest whose events were all followed, with this ending
abbrev pub run_over : Framing → Forest → Ending → Run
run_over framing f e =
    record { ending = e; octets = length (spelling f); enough = false; unused = first_without_wrapper framing.inside f }

-- the first offset of the list that is not in the other list
abbrev pub first_not_among : List ℕ → List ℕ → Option ℕ
first_not_among ns others = find (λ n. not (is_among n others)) ns

-- the run that ends after the last of these events, which was enough for the follower
abbrev pub enough_run : Framing → List EventValue → Run
enough_run framing es =
    record {
      ending = endings.Done;
      octets = length (octets_of_events es);
      enough = true;
      unused = first_not_among framing.inside (entered_offsets es);
    }

-- the state of everything that a walk over a source uses, before or after the walk: the follower's state and the
-- devices
pub record DriveStates (S : Type 0) : Type 0 where
  pub follower : S
  pub devices : DeviceStates

-- the states of a walk, put together
abbrev pub drive_states : {S : Type 0} → S → SourceState → DrainState → DriveStates S
drive_states follower source drain = record { follower = follower; devices = device_states source drain }

module _ {S : Type 0} (next : S → EventValue → Effect S) where
  -- the effect of the events of a forest on the follower, up to the first event that is enough
  abbrev pub forest_effect : S → Forest → Effect S
  forest_effect s f = effect_of next s (events f)

  -- a walk, followed from this state on
  abbrev pub drive_job : Framing → S → Job Run
  drive_job framing s = record {
    framing = framing;
    text = λ f. (forest_effect s f).put;
    is_enough = λ f. had_enough (forest_effect s f).goes;
    returns = λ f e. if had_enough (forest_effect s f).goes
        then enough_run framing (followed_events next s (events f)) else run_over framing f e;
  }

  -- the result of a walk over at most `limit` octets, followed from this state on, and the follower's state after it
  pub record Drives (framing : Framing) (limit : ℕ) (old new : DriveStates S) (result : Result Run DeviceFault)
      : Type 0 where
    pub runs : RunsUpTo (drive_job framing old.follower) limit old.devices new.devices result
    pub state : OnOk (drain_result result)
        (new.follower ≡ (forest_effect old.follower runs.reading).state)
