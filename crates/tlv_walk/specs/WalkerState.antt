-- The state of a `Walker`, which takes octets and yields events.
use Rattle.std.specs.Prelude.{ℕ, ◌≡◌, ◌≢◌, ◌+◌, ◌≤◌, Bool, true, false, List, [], length}
use Rattle.tlv_head.specs.declared.fault.Fault.{Fault}
use Rattle.tlv_head.specs.HeadReader.{HeadReaderState}
use Rattle.tlv_head.specs.Limits.{depth_limit, input_limit}
use Rattle.tlv_walk.specs.declared.framing.Framing.{Framing}
use Rattle.tlv_walk.specs.Inside.{are_rising}
use Rattle.tlv_walk.specs.Stack.{FrameValue, IsInIndefinite, IsInWrapper, IsNested, IsWithin, bound_of}

-- what the next octet of an input belongs to
pub data PhaseValue : Type 0 where
  -- a new element, padding, or the end-of-contents octets of the innermost holder
  Between : PhaseValue
  -- a header that has begun
  InHeader : (reader : HeadReaderState) → PhaseValue
  -- a primitive's contents, with this many octets still to come. If there are none, its end still waits
  InPrimitive : (left : ℕ) → PhaseValue
  -- a wrapping BIT STRING, whose first contents octet is still to come
  InBitString : PhaseValue
  -- the end of an indefinite element, whose first 00 has come
  InEndOctets : PhaseValue
  -- nothing: an octet was refused
  Refused : (fault : Fault) → PhaseValue

-- the state of a walker
pub record WalkerState : Type 0 where
  -- the open holders, innermost first
  pub stack : List FrameValue
  -- what the next octet belongs to
  pub phase : PhaseValue
  -- the number of octets taken, and the number of events yielded
  pub offset : ℕ
  pub events : ℕ
  pub framing : Framing
  -- an octet of an element came
  pub has_element : Bool
  -- how many of the named offsets, counted from the first, have been found to be offsets of wrappers
  pub wrapper_count : ℕ

-- a walker that has taken nothing
abbrev pub new_walker : Framing → WalkerState
new_walker framing = record {
  stack = [];
  phase = Between;
  offset = 0;
  events = 0;
  framing = framing;
  has_element = false;
  wrapper_count = 0;
}

-- the octets of a header so far end at the offset
pub record IsInHeader (r : HeadReaderState) (offset : ℕ) : Type 0 where
  pub unfinished : r.done ≡ false
  pub some : r.octets ≢ []
  pub end : r.offset + length r.octets ≡ offset

-- the least number of octets from which this many events can be yielded while these holders are open: one for each
-- event, and one for each holder, whose header has two octets or more, and whose end may need none
abbrev pub least_octets : ℕ → List FrameValue → ℕ
least_octets events stack = events + length stack

-- by phase: the octets taken are more than the events yielded by at least one for each open holder, one for an open
-- primitive, the octets of a header that has begun, and one for a first 00. An open primitive, and the octet for unused
-- bits, end within the bound
abbrev pub CountsFitPhase : PhaseValue → List FrameValue → ℕ → ℕ → Type 0
CountsFitPhase Between stack offset events = least_octets events stack ≤ offset
CountsFitPhase (InHeader r) stack offset events =
    IsInHeader r offset × (least_octets events stack + length r.octets ≤ offset)
CountsFitPhase (InPrimitive left) stack offset events =
    IsWithin (bound_of stack) (offset + left) × (least_octets events stack + 1 ≤ offset)
CountsFitPhase InBitString stack offset events =
    IsInWrapper stack × IsWithin (bound_of stack) (offset + 1) × (least_octets events stack ≤ offset)
CountsFitPhase InEndOctets stack offset events = IsInIndefinite stack × (least_octets events stack + 1 ≤ offset)
CountsFitPhase (Refused fault) stack offset events = least_octets events stack ≤ offset

-- the invariant of a walker's state
pub record IsWalkerState (w : WalkerState) : Type 0 where
  pub nested : IsNested w.stack
  pub within : IsWithin (bound_of w.stack) w.offset
  pub limit : w.offset ≤ input_limit
  pub shallow : length w.stack ≤ depth_limit
  pub counts : CountsFitPhase w.phase w.stack w.offset w.events
  pub rising : are_rising 0 w.framing.inside ≡ true
  pub wrapper_count : w.wrapper_count ≤ length w.framing.inside
