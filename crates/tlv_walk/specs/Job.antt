-- The result of a job over all the octets that a source gives.
use Rattle.std.specs.Prelude.{◌≡◌, ◌⊎◌, ℕ, ◌<◌, ◌≤◌, Bool, true, false, List, length, take, Result, Ok, Err, ⊤}
use Rattle.std.specs.List.{concat}
use Rattle.std.specs.Io.KnownBytes.{IsAtEnd}
use Rattle.tlv_head.specs.Limits.{input_limit}
use Rattle.tlv_walk.specs.declared.ending.Ending.{Ending}
use Rattle.tlv_walk.specs.declared.ending.Ending.TheVariants.{Done}
use Rattle.tlv_walk.specs.declared.framing.Framing.{Framing}
use Rattle.tlv_walk.specs.declared.run.DeviceFault.{DeviceFault}
use Rattle.tlv_walk.specs.declared.run.DeviceFault.TheVariants.{ReadFailed, WriteFailed, InputTooLong}
use Rattle.tlv_io.specs.Device.{DrainState, Pieces, SourceState, failed, failures_after, gave, octets_given}
use Rattle.tlv_walk.specs.Ending.{HasEnding, IsFinalEnding}
use Rattle.tlv_walk.specs.Forest.{Forest, spelling}
use Rattle.tlv_io.specs.Out.{Sends}
use Rattle.tlv_walk.specs.Reading.{IsPrefixOf, IsReading}

-- the state of the devices of a run, before or after it, as the source and the drain show it
pub record DeviceStates : Type 0 where
  pub source : SourceState
  pub drain : DrainState

-- the devices with these states
abbrev pub device_states : SourceState → DrainState → DeviceStates
device_states source drain = record { source = source; drain = drain }

-- what is wanted of an input, defined on its reading
pub record Job (A : Type 0) : Type 0 where
  -- how the input is read
  pub framing : Framing
  -- what is written for elements
  pub text : Forest → List ℕ
  -- nothing more is wanted, whatever follows
  pub is_enough : Forest → Bool
  -- what is returned for elements and the ending
  pub returns : Forest → Ending → A

module _ {A : Type 0} where
  -- the part of a result that concerns the source alone: that a read failed, or nothing
  abbrev pub source_result : Result A DeviceFault → Result ⊤ DeviceFault
  source_result (Err ReadFailed) = Err ReadFailed
  source_result result = Ok tt

  -- the part of a result that concerns the drain alone: that a write failed, or nothing
  abbrev pub drain_result : Result A DeviceFault → Result ⊤ DeviceFault
  drain_result (Err WriteFailed) = Err WriteFailed
  drain_result result = Ok tt

module _ {A : Type 0} (job : Job A) where
  -- the ending of a job for octets with this reading: `Done` if nothing more is wanted, even if octets after that
  -- are refused, or the octets break off; otherwise the ending of the octets, which shows whether they are sound
  pub data EndsWith (octets : List ℕ) (f : Forest) : Ending → Type 0 where
    with_enough : job.is_enough f ≡ true → EndsWith octets f Done
    without_enough : (e : Ending) → job.is_enough f ≡ false → HasEnding job.framing octets e → EndsWith octets f e

  -- nothing that could follow the octets matters: nothing more is wanted, or an octet is refused
  abbrev pub IsSettled : Forest → Ending → Type 0
  IsSettled f e = (job.is_enough f ≡ true) ⊎ IsFinalEnding e

  -- the octets hold no fault, and after them more is wanted
  abbrev pub WantMore : List ℕ → Type 0
  WantMore octets =
      (f : Forest) × (IsReading job.framing octets f × (spelling f ≡ octets)) × (job.is_enough f ≡ false)

  -- the most octets that are read as encodings
  module _ (limit : ℕ) where
    -- what is returned for the given octets and the reading of the octets up to the limit: one line for each reason
    -- to stop
    pub data ComesTo (given : List ℕ) (f : Forest) (new : SourceState) : Result A DeviceFault → Type 0 where
      -- nothing that could follow matters
      at_settled_result : (e : Ending) → EndsWith (take limit given) f e → IsSettled f e
          → ComesTo given f new (Ok (job.returns f e))
      -- the source has ended
      at_source_end : (e : Ending) → EndsWith (take limit given) f e → new.last ≡ gave 0 → IsAtEnd new.left
          → ComesTo given f new (Ok (job.returns f e))
      -- a device failed
      read_failed : new.last ≡ failed → ComesTo given f new (Err ReadFailed)
      write_failed : ComesTo given f new (Err WriteFailed)
      -- the source gave more octets than the limit, and the octets up to the limit gave no reason to stop
      too_long : limit < length given → WantMore (take limit given) → ComesTo given f new (Err InputTooLong)

    -- a source was read until there was a reason to stop (`ComesTo`), and what the job writes for the octets up to
    -- the limit was sent to a drain: all of it, or a prefix if a write failed
    pub record RunsUpTo (old new : DeviceStates) (result : Result A DeviceFault) : Type 0 where
      pub pieces : Pieces old.source new.source
      pub failures : new.source.failures ≡ failures_after (source_result result) old.source.failures
      -- before the last read there was no reason to stop
      pub wants_more : WantMore (concat pieces.pieces)
      pub within : length (concat pieces.pieces) ≤ limit
      -- no more octets than the limit are read as encodings
      pub reading : Forest
      pub is_reading : IsReading job.framing (take limit (octets_given pieces)) reading
      pub sends : Sends old.drain new.drain (job.text reading) (drain_result result)
      -- what is written for the octets before the last read was sent completely before that read, even if a write
      -- failed later: so a read is made only after everything for the octets before it was written, and no read is
      -- made after a failed write
      pub sent_before : result ≡ Err WriteFailed → IsPrefixOf (job.text wants_more.0) sends.sent
      pub comes : ComesTo (octets_given pieces) reading new.source result

  -- the same with the limit of 2^40 octets
  abbrev pub Runs : DeviceStates → DeviceStates → Result A DeviceFault → Type 0
  Runs = RunsUpTo input_limit
