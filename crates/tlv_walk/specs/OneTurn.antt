-- A *turn*: one read of a source, and the following of the octets that it gave.
use Rattle.std.specs.Prelude.{◌≡◌, ◌≢◌, ℕ, ◌<◌, ◌≤◌, List, [], ◌++◌, length, take, Result, Ok, Err, ⊤}
use Rattle.std.specs.Io.KnownBytes.{Consumes, IsAtEnd}
use Rattle.tlv_head.specs.Limits.{input_limit}
use Rattle.tlv_walk.specs.declared.follow.Go.{Go}
use Rattle.tlv_walk.specs.declared.follow.Go.TheVariants as go
use Rattle.tlv_walk.specs.declared.run.DeviceFault.{DeviceFault}
use Rattle.tlv_walk.specs.declared.run.DeviceFault.TheVariants.{ReadFailed, WriteFailed, InputTooLong}
use Rattle.tlv_walk.specs.declared.run.Run.{Run}
use Rattle.tlv_walk.specs.declared.run.Turn.{Turn}
use Rattle.tlv_walk.specs.declared.run.Turn.TheVariants.{Again, Ended}
use Rattle.tlv_io.specs.Device.{DrainState, LastReadValue, SourceState, failed, failures_after, gave, never, next_count}
use Rattle.tlv_io.specs.Device.{read_limit}
use Rattle.tlv_walk.specs.DriveJob.{enough_run, run_over}
use Rattle.tlv_walk.specs.Ending.{IsEnding, IsFinalEnding}
use Rattle.tlv_walk.specs.Events.{EventValue, octets_of_events}
use Rattle.tlv_walk.specs.Follow.{Effect, effect_of, FollowsEvents}
use Rattle.tlv_walk.specs.Job.{DeviceStates, device_states, drain_result, source_result}
use Rattle.tlv_walk.specs.WalkerState.{WalkerState}
use Rattle.tlv_walk.specs.Walker.{StandsAtEnd, IsReady, HasEvents, IfStands, IsIdle, Stands}
use Rattle.tlv_io.specs.Out.{Sends}
use Rattle.tlv_walk.specs.Reading.{AreOctets, IsPrefixOf}

-- the octets that the last read gave, as the array holds them after the read
abbrev pub last_octets : LastReadValue → List ℕ → List ℕ
last_octets never room = []
last_octets (gave n) room = take n room
last_octets failed room = []

-- the last read gave at most this number of octets
abbrev pub LastReadGaveUpTo : ℕ → LastReadValue → Type 0
LastReadGaveUpTo most never = ⊥
LastReadGaveUpTo most (gave n) = n ≤ most
LastReadGaveUpTo most failed = ⊥

-- what the read of a turn did, by the result of the turn: it failed, or gave at most this number of octets
abbrev pub LastReadWas : ℕ → Result Turn DeviceFault → LastReadValue → Type 0
LastReadWas most (Ok turn) last = LastReadGaveUpTo most last
LastReadWas most (Err ReadFailed) last = last ≡ failed
LastReadWas most (Err WriteFailed) last = LastReadGaveUpTo most last
LastReadWas most (Err InputTooLong) last = LastReadGaveUpTo most last

-- what a turn requires of the walker, of the array for the read and of the limit on octets
pub record CanTurn (walker : WalkerState) (room : List ℕ) (limit : ℕ) : Type 0 where
  -- the array has at least one octet, and at most `read_limit`
  pub some : 0 < length room
  pub short : length room ≤ read_limit
  pub valid : limit ≤ input_limit
  pub within : walker.offset ≤ limit
  pub ready : IsReady walker

-- the state of everything that a turn uses, before or after it: the walker, the follower's state and the devices
pub record TurnStates (S : Type 0) : Type 0 where
  pub walker : WalkerState
  pub follower : S
  pub devices : DeviceStates

-- the states of a turn, put together
abbrev pub turn_states : {S : Type 0} → WalkerState → S → SourceState → DrainState → TurnStates S
turn_states walker follower source drain =
    record { walker = walker; follower = follower; devices = device_states source drain }

-- the octets that are followed, out of the octets taken before the turn and the octets given in it: no more than the
-- limit
abbrev pub octets_followed : ℕ → List ℕ → List ℕ → List ℕ
octets_followed limit taken given = take limit (taken ++ given)

module _ {S : Type 0} (next : S → EventValue → Effect S) (old new : TurnStates S) where
  -- what the devices did: one read, after which the array holds `room`, and writes
  pub record CallsDevices (room : List ℕ) (result : Result Turn DeviceFault) : Type 0 where
    pub octets : Consumes old.devices.source.left new.devices.source.left (last_octets new.devices.source.last room)
    pub reads : new.devices.source.reads ≡ next_count old.devices.source.reads
    pub last : LastReadWas (length room) result new.devices.source.last
    pub at_end : new.devices.source.last ≡ gave 0 → IsAtEnd new.devices.source.left
    pub failed_reads : new.devices.source.failures ≡ failures_after (source_result result) old.devices.source.failures
    pub failed_writes : new.devices.drain.failures ≡ failures_after (drain_result result) old.devices.drain.failures

  -- the walker and the follower are unchanged
  pub record HasNotMoved : Type 0 where
    pub walker : new.walker ≡ old.walker
    pub follower : new.follower ≡ old.follower

  -- the octets that the follower puts for these events were handed to the drain, with this result
  abbrev pub SendsMade : List EventValue → Result ⊤ DeviceFault → Type 0
  SendsMade more result = Sends old.devices.drain new.devices.drain (effect_of next old.follower more).put result

  -- in what follows, `octets` are the followed octets (`octets_followed`), and `yielded` are the events yielded before,
  -- at `old`

  -- more events were followed; with them, all yielded events are `all`. The octets that the follower puts for them were
  -- handed to the drain. The framing stays the same
  pub record FollowsMore (yielded all : List EventValue) (goes : Go) : Type 0 where
    pub more : List EventValue
    pub all_is : yielded ++ more ≡ all
    pub made : FollowsEvents next old.follower new.follower more goes
    pub put : SendsMade more (Ok tt)
    pub framing : new.walker.framing ≡ old.walker.framing

  -- a walk so far: the walker stands for these octets, all their events were followed, and no event waits
  pub record HasWalked (octets : List ℕ) (yielded : List EventValue) : Type 0 where
    pub all : List EventValue
    pub follows : FollowsMore yielded all go.On
    pub stands : Stands new.walker octets all
    pub idle : IsIdle new.walker

  -- all events of the octets were followed, and the run is the run over their reading, with their ending
  pub record EndsIn (octets : List ℕ) (yielded : List EventValue) (run : Run) : Type 0 where
    pub all : List EventValue
    pub follows : FollowsMore yielded all go.On
    pub has_events : HasEvents old.walker.framing octets all
    pub is_ending : IsEnding old.walker.framing octets run.ending
    pub run_is : run ≡ run_over old.walker.framing has_events.reading run.ending
    pub stands : StandsAtEnd new.walker octets all

  -- the follower had enough at the last event that it followed, and the octets may have further events; the walker
  -- stands for the octets of the followed events, and the run is the run over these events
  pub record HasEnoughIn (octets : List ℕ) (yielded : List EventValue) (run : Run) : Type 0 where
    pub all : List EventValue
    pub follows : FollowsMore yielded all go.Enough
    pub others : List EventValue
    pub has_events : HasEvents old.walker.framing octets (all ++ others)
    pub is_prefix : IsPrefixOf (octets_of_events all) octets
    pub stands : Stands new.walker (octets_of_events all) all
    pub run_is : run ≡ enough_run old.walker.framing all

  -- the drain took a prefix of what the follower puts for the other events of the octets, and failed
  pub record WriteFailsIn (octets : List ℕ) (yielded : List EventValue) : Type 0 where
    pub more : List EventValue
    pub put : SendsMade more (Err WriteFailed)
    pub has_events : HasEvents old.walker.framing octets (yielded ++ more)

  -- what a turn adds to a walk, a line for each result and cause. Before the turn the walker stands for the octets that
  -- it took, which yielded these events; the read of the turn gave other octets. Of all these octets no more than the
  -- limit are followed
  pub data TurnsTo (limit : ℕ) (taken : List ℕ) (yielded : List EventValue) (given : List ℕ)
      : Result Turn DeviceFault → Type 0 where
    -- the octets are within the limit, and others may follow them
    again : given ≢ [] → length (taken ++ given) ≤ limit → HasWalked (taken ++ given) yielded
        → TurnsTo limit taken yielded given (Ok Again)
    -- the follower had enough
    at_enough : (run : Run) → HasEnoughIn (octets_followed limit taken given) yielded run
        → TurnsTo limit taken yielded given (Ok (Ended run))
    -- an octet is refused, whatever follows
    at_fault : (run : Run) → EndsIn (octets_followed limit taken given) yielded run → IsFinalEnding run.ending
        → TurnsTo limit taken yielded given (Ok (Ended run))
    -- the input has ended
    at_input_end : (run : Run) → EndsIn (octets_followed limit taken given) yielded run → given ≡ []
        → TurnsTo limit taken yielded given (Ok (Ended run))
    -- a read failed: nothing was followed, and nothing was sent
    read_failed : HasNotMoved → SendsMade [] (Ok tt) → TurnsTo limit taken yielded given (Err ReadFailed)
    -- a write failed
    write_failed : WriteFailsIn (octets_followed limit taken given) yielded
        → TurnsTo limit taken yielded given (Err WriteFailed)
    -- there are more octets than the limit
    too_long : limit < length (taken ++ given) → HasWalked (octets_followed limit taken given) yielded
        → TurnsTo limit taken yielded given (Err InputTooLong)

  -- the walker took octets, in all at most the limit, and is ready for the next one
  pub record HasMovedWithin (limit : ℕ) : Type 0 where
    pub moved : old.walker.offset < new.walker.offset
    pub within : new.walker.offset ≤ limit
    pub ready : IsReady new.walker

  -- the walker took as many octets as the limit, and is ready for the next one
  pub record IsAtLimit (limit : ℕ) : Type 0 where
    pub at_limit : new.walker.offset ≡ limit
    pub ready : IsReady new.walker

  -- how a walk can go on after a turn. If more is to be read, the walker is ready for the next octet; after a failed
  -- read the walker and the follower are as before. If there were more octets than the limit, the walker is at the
  -- limit and ready for the next octet; but the octets beyond the limit were read from the source, and are lost
  abbrev pub CanGoOn : ℕ → Result Turn DeviceFault → Type 0
  CanGoOn limit (Ok Again) = HasMovedWithin limit
  CanGoOn limit (Ok (Ended run)) = ⊤
  CanGoOn limit (Err ReadFailed) = HasNotMoved
  CanGoOn limit (Err WriteFailed) = ⊤
  CanGoOn limit (Err InputTooLong) = IsAtLimit limit

  -- what a turn does: it makes one read, follows the octets given, up to the limit, and hands to the drain what the
  -- follower puts for them. `room` is the content of the array for the read, after the turn
  pub record FollowsOneRead (limit : ℕ) (room : List ℕ) (result : Result Turn DeviceFault) : Type 0 where
    -- what the devices did
    pub calls : CallsDevices room result
    pub are_octets : AreOctets room
    -- the effect of the octets that the read gave, if the walker stands for the octets before them
    pub turned : IfStands old.walker
        (λ taken yielded. TurnsTo limit taken yielded (last_octets new.devices.source.last room) result)
    pub goes_on : CanGoOn limit result
