-- What contracts say of a `Walker`: what it has read, what it stands for, and what one step of it does.
use Rattle.std.specs.Prelude.{ℕ, ◌+◌, ◌≡◌, ◌≢◌, ◌≤◌, Bool, false, eqb, if◌then◌else◌, List, [], ◌∷◌, ◌++◌, Option, Some}
use Rattle.std.specs.Prelude.{None, length, slice_get, ◌⊎◌}
use Rattle.tlv_head.specs.Limits.{input_limit}
use Rattle.tlv_walk.specs.Forest.{Forest, Holder, NoMore, OpenBitString, OpenEndOctets, OpenHeader, OpenHolder}
use Rattle.tlv_walk.specs.Forest.{OpenPrimitive, PaddingOctet, Primitive, spelling}
use Rattle.tlv_walk.specs.declared.framing.Framing.{Framing}
use Rattle.tlv_walk.specs.Stack.{FrameValue}
use Rattle.tlv_walk.specs.WalkerState.{Between, InBitString, InEndOctets, InHeader, InPrimitive, PhaseValue, Refused}
use Rattle.tlv_walk.specs.WalkerState.{WalkerState}
use Rattle.tlv_walk.specs.Events.{AreEqualJoined, Close, End, EventValue, IsNoEmptyPart, Leave, event_value_of, events}
use Rattle.tlv_walk.specs.Private.Zipper.{HasPrivateState}
use Rattle.tlv_walk.specs.Reading.{CannotBecomeSound, IsReading}
use Rattle.tlv_head.specs.declared.fault.Fault.{Fault}
use Rattle.tlv_walk.specs.declared.ending.Ending.TheVariants as endings
use Rattle.tlv_walk.specs.Ending.{IsEnding}
use Rattle.tlv_walk.specs.Wrappers.{first_without_wrapper}
use Rattle.tlv_walk.specs.declared.event.Event.{Event}
use Rattle.tlv_walk.specs.declared.event.Step.{Step}
use Rattle.tlv_walk.specs.declared.event.Step.TheVariants as step

-- the octets of a piece are not too many: together with the octets taken, at most 2^40
abbrev pub IsWithinInputLimit : WalkerState → List ℕ → Type 0
IsWithinInputLimit w piece = w.offset + length piece ≤ input_limit

-- a phase in which each octet taken belongs to a yielded event: neither a header nor end-of-contents octets have
-- begun, and no octet was refused
abbrev pub IsAfterEvent : PhaseValue → Type 0
IsAfterEvent Between = Unit {0}
IsAfterEvent (InHeader r) = ⊥
IsAfterEvent (InPrimitive left) = Unit {0}
IsAfterEvent InBitString = Unit {0}
IsAfterEvent InEndOctets = ⊥
IsAfterEvent (Refused fault) = ⊥

-- what holds after an event: no more events were yielded than octets taken, and each octet taken belongs to an event
pub record HasYieldedEvent (w : WalkerState) : Type 0 where
  pub within : w.events ≤ w.offset
  pub after_event : IsAfterEvent w.phase

-- no octet was refused
abbrev pub HasNotRefused : WalkerState → Type 0
HasNotRefused w = (f : Fault) → w.phase ≢ Refused f

-- if an octet was refused, P holds of the fault
abbrev pub IfRefused : WalkerState → (Fault → Type 0) → Type 0
IfRefused w P = (f : Fault) → w.phase ≡ Refused f → P f

-- the first named offset that is not known to be a wrapper's
abbrev pub unused_offset : WalkerState → Option ℕ
unused_offset w = slice_get w.framing.inside w.wrapper_count

-- the number of open holders, including a wrapping BIT STRING before its first contents octet
abbrev pub depth_of : Forest → ℕ
depth_of NoMore = 0
depth_of (PaddingOctet rest) = depth_of rest
depth_of (Primitive h c rest) = depth_of rest
depth_of (Holder h children rest) = depth_of rest
depth_of (OpenPrimitive h c) = 0
depth_of (OpenHolder h children) = depth_of children + 1
depth_of (OpenBitString h) = 1
depth_of (OpenHeader octets) = 0
depth_of OpenEndOctets = 0

-- the event with which a definite holder with this frame ends once it is filled. `Close None`: there are no
-- end-of-contents octets (8.1.5)
abbrev pub filled_end_event : FrameValue → EventValue
filled_end_event f = if f.wrapper then Leave else Close None

-- whether a holder with this end, if any, ends at the offset
abbrev pub is_end_at : Option ℕ → ℕ → Bool
is_end_at None offset = false
is_end_at (Some e) offset = eqb e offset

-- the end events of the holders that end at the offset without another octet: innermost first, up to the first that is
-- not filled there
abbrev pub filled_end_events : ℕ → List FrameValue → List EventValue
filled_end_events offset [] = []
filled_end_events offset (f ∷ fs) =
    if is_end_at f.end offset then filled_end_event f ∷ filled_end_events offset fs else []

-- the events that still wait and need no further octet
abbrev pub waiting_events_in : PhaseValue → List FrameValue → ℕ → List EventValue
waiting_events_in Between stack offset = filled_end_events offset stack
waiting_events_in (InHeader r) stack offset = []
waiting_events_in (InPrimitive left) stack offset =
    if eqb left 0 then End ∷ filled_end_events offset stack else []
waiting_events_in InBitString stack offset = []
waiting_events_in InEndOctets stack offset = []
waiting_events_in (Refused fault) stack offset = []

-- the events of a walker that still wait and need no further octet
abbrev pub waiting_events : WalkerState → List EventValue
waiting_events w = waiting_events_in w.phase w.stack w.offset

-- no event waits: each event that is still to come needs another octet
abbrev pub IsIdle : WalkerState → Type 0
IsIdle w = waiting_events w ≡ []

-- the walker is ready for the next octet: no event waits, and no octet was refused
abbrev pub IsReady : WalkerState → Type 0
IsReady w = IsIdle w × HasNotRefused w

-- the octets have a reading, and these are its events, however contents and padding are cut
pub record HasEvents (framing : Framing) (octets : List ℕ) (es : List EventValue) : Type 0 where
  pub reading : Forest
  pub is_reading : IsReading framing octets reading
  pub all_events : AreEqualJoined es (events reading)

-- what a walker stands for: octets, and the events yielded for them. The yielded and waiting events together are the
-- events of the reading
pub record Stands (w : WalkerState) (b : List ℕ) (yielded : List EventValue) : Type 0 where
  pub has_events : HasEvents w.framing b (yielded ++ waiting_events w)
  -- no octet was refused, and the stack, the phase and the offset belong to these octets. Used only in proofs
  pub private_state : HasPrivateState w b yielded

-- P holds of the octets and the events that the walker stands for
abbrev pub IfStands : WalkerState → (List ℕ → List EventValue → Type 0) → Type 0
IfStands w P = (b : List ℕ) (yielded : List EventValue) → Stands w b yielded → P b yielded

-- whatever the walker stood for, it now stands for that with these octets and these events after it
abbrev pub StandsForMore : WalkerState → WalkerState → List ℕ → List EventValue → Type 0
StandsForMore old new octets more = IfStands old (λ b yielded. Stands new (b ++ octets) (yielded ++ more))

-- the octet after p is refused, with this fault. The reading spells p, and the yielded events are its events. Whatever
-- follows that octet, this is the reading, and the fault is the ending. No false alarm: no input that begins so is a
-- sound list
pub record IsRefusedAfter (framing : Framing) (p : List ℕ) (octet : ℕ) (yielded : List EventValue) (f : Fault)
    : Type 0 where
  pub reading : Forest
  pub spelled : spelling reading ≡ p
  pub offset : f.offset ≡ length p
  pub all_events : AreEqualJoined yielded (events reading)
  pub stays : (c : List ℕ) → IsReading framing (p ++ octet ∷ c) reading
  pub ends : (c : List ℕ) → IsEnding framing (p ++ octet ∷ c) (endings.Fault f)
  pub never_sound : CannotBecomeSound framing (p ++ octet ∷ [])

-- what a walker that refused an octet stands for: the octets before it, and the yielded events, which are all events
-- of the reading of these octets
pub record StandsRefused (w : WalkerState) (b : List ℕ) (octet : ℕ) (yielded : List EventValue) (f : Fault)
    : Type 0 where
  pub refused : IsRefusedAfter w.framing b octet yielded f
  pub phase : w.phase ≡ Refused f
  pub offset : w.offset ≡ length b
  pub depth : length w.stack ≡ depth_of refused.reading
  pub unused : unused_offset w ≡ first_without_wrapper w.framing.inside refused.reading

-- what a walker has read: the octets that it took, and their reading. If it refused an octet, these are the octets
-- before the refused one
pub data HasRead (w : WalkerState) (b : List ℕ) (reading : Forest) : Type 0 where
  took : (yielded : List EventValue) (stands : Stands w b yielded) → stands.has_events.reading ≡ reading
      → HasRead w b reading
  refused : (x : ℕ) (yielded : List EventValue) (f : Fault) (stands : StandsRefused w b x yielded f)
      → stands.refused.reading ≡ reading → HasRead w b reading

-- P holds of the octets that the walker read and of their reading
abbrev pub IfRead : WalkerState → (List ℕ → Forest → Type 0) → Type 0
IfRead w P = (b : List ℕ) (f : Forest) → HasRead w b f → P b f

-- a walker refused an octet of these, and yielded these events of the octets before it
pub record RefusesAt (w : WalkerState) (octets : List ℕ) (yielded : List EventValue) (f : Fault) : Type 0 where
  pub taken : List ℕ
  pub octet : ℕ
  pub others : List ℕ
  pub octets_are : taken ++ octet ∷ others ≡ octets
  pub stands : StandsRefused w taken octet yielded f

-- a walker that walked over these octets, to their end or to one that it refused, and yielded these events: it stands
-- for all of them, or for the octets before the refused one
pub data StandsAtEnd (w : WalkerState) (octets : List ℕ) (yielded : List EventValue) : Type 0 where
  took_all : Stands w octets yielded → IsIdle w → StandsAtEnd w octets yielded
  refused_one : (f : Fault) → RefusesAt w octets yielded f → StandsAtEnd w octets yielded

-- a walker that had refused no octet took octets from the start of a piece, or none, and yielded as many events as
-- these
pub record TakesOctets (old new : WalkerState) (piece rest : List ℕ) (more : List EventValue) : Type 0 where
  pub not_refused : HasNotRefused old
  pub taken : List ℕ
  pub piece_is : piece ≡ taken ++ rest
  pub framing : new.framing ≡ old.framing
  pub offset : new.offset ≡ old.offset + length taken
  pub events : new.events ≡ old.events + length more

-- one event: the walker stands for the octets taken and for one more event
pub record YieldsNext (old new : WalkerState) (piece rest : List ℕ) (e : Event) : Type 0 where
  pub takes : TakesOctets old new piece rest (event_value_of e ∷ [])
  pub stands : StandsForMore old new takes.taken (event_value_of e ∷ [])
  -- parts of contents and of padding are not empty
  pub has_octets : IsNoEmptyPart e
  pub has_yielded : HasYieldedEvent new

-- no event: all octets of the piece were taken, and the walker is ready for the next octet
pub record UsesUpPiece (old new : WalkerState) (piece rest : List ℕ) : Type 0 where
  pub takes : TakesOctets old new piece rest []
  pub none_left : rest ≡ []
  pub stands : IfStands old (λ b yielded. Stands new (b ++ piece) yielded)
  pub ready : IsReady new

-- no event, and the octet after the octets taken is refused; what is open stays open
pub record RefusesNext (old new : WalkerState) (piece rest : List ℕ) (f : Fault) : Type 0 where
  pub takes : TakesOctets old new piece rest []
  pub octet : ℕ
  pub others : List ℕ
  pub rest_is : rest ≡ octet ∷ others
  pub stands : IfStands old (λ b yielded. StandsRefused new (b ++ takes.taken) octet yielded f)
  pub phase : new.phase ≡ Refused f
  pub stack : new.stack ≡ old.stack
  pub wrapper_count : new.wrapper_count ≡ old.wrapper_count

-- an octet was refused before: the same fault again, and nothing has changed
pub record RefusesAgain (old new : WalkerState) (piece rest : List ℕ) (f : Fault) : Type 0 where
  pub refused : old.phase ≡ Refused f
  pub same : new ≡ old
  pub all_left : rest ≡ piece

-- the effect of a step on a walker and a piece, by what the step returns
abbrev pub StepsTo : WalkerState → WalkerState → List ℕ → List ℕ → Step → Type 0
StepsTo old new piece rest (step.Event e) = YieldsNext old new piece rest e
StepsTo old new piece rest step.NeedMore = UsesUpPiece old new piece rest
StepsTo old new piece rest (step.Fault f) = RefusesNext old new piece rest f ⊎ RefusesAgain old new piece rest f
