-- What is recorded from the events of a walk.
use Rattle.std.specs.Prelude.{◌≡◌, ℕ, ◌+◌, ◌-◌, eqb, if◌then◌else◌, nat_lt, List, [], ◌∷◌, ◌++◌, length, take}
use Rattle.std.specs.Prelude.{Option, Some, None, slice_get, slice_index}
use Rattle.std.specs.Option.{option_map_or}
use Rattle.tlv_head.specs.declared.fault.Fault.{Fault}
use Rattle.tlv_head.specs.UniversalTypes as universal
use Rattle.tlv_walk.specs.Events.{Begin, Bytes, Close, End, Enter, EventValue, Leave, Open, Pad, Unused, event_octets}
use Rattle.tlv_walk.specs.WalkerState.{Between, WalkerState}
use Rattle.tlv_walk.specs.Walker.{StandsAtEnd, IsIdle, Stands}
use Rattle.tlv_walk.specs.declared.ending.Ending.{Ending}
use Rattle.tlv_walk.specs.declared.framing.Framing.{Framing}
use Rattle.tlv_reasons.specs.declared.element.Element.{Element}
use Rattle.tlv_reasons.specs.declared.facts.Facts.{Facts}
use Rattle.tlv_reasons.specs.declared.facts.Unfinished.{Unfinished}
use Rattle.tlv_reasons.specs.declared.facts.Unfinished.TheVariants as unfinished
use Rattle.tlv_reasons.specs.declared.tracker.Tracker.{Tracker}
use Rattle.tlv_reasons.specs.Elements.{element_of}
use Rattle.tlv_reasons.specs.Facts.{IsElementThere, ending_by}

-- before the first event
abbrev pub new_tracker : Tracker
new_tracker = record {
  holders = record { items = [] };
  current = None;
  entered = None;
  before = None;
  top = 0;
  nearest = record { items = [] };
  offset = 0;
}

-- with the offset of one more element among the 25 nearest offsets
abbrev pub with_nearest : ℕ → Tracker → Tracker
with_nearest offset t = record t { nearest = record { items = take 25 (offset ∷ t.nearest.items) } }

-- a holder begins; at most 128 are recorded
abbrev pub holder_noted : Element → Tracker → Tracker
holder_noted e t =
    if nat_lt (length t.holders.items) 128
    then record (with_nearest e.offset t) { holders = record { items = t.holders.items ++ e ∷ [] }; before = None }
    else t

-- a string that is named and holds encodings begins: a BIT STRING is not recorded before its first contents octet
abbrev pub wrapper_entered : Element → Tracker → Tracker
wrapper_entered e t = if eqb e.number universal.bit_string then record t { entered = Some e } else holder_noted e t

-- the first contents octet of such a BIT STRING, if one was entered
abbrev pub bit_string_opened : Option Element → Tracker → Tracker
bit_string_opened None t = t
bit_string_opened (Some e) t = holder_noted e (record t { entered = None })

-- an element is whole
abbrev pub element_ended : Element → Tracker → Tracker
element_ended e t =
    record t { before = Some e; top = if eqb (length t.holders.items) 0 then t.offset else t.top }

-- the primitive has ended, if one has begun
abbrev pub primitive_ended : Option Element → Tracker → Tracker
primitive_ended None t = t
primitive_ended (Some e) t = element_ended e (record (with_nearest e.offset t) { current = None })

-- the innermost holder has ended, if there is one
abbrev pub holder_ended : Option Element → Tracker → Tracker
holder_ended None t = t
holder_ended (Some e) t =
    element_ended e
    (record t { holders = record { items = take (length t.holders.items - 1) t.holders.items } })

-- the innermost holder
abbrev pub innermost : Tracker → Option Element
innermost t = slice_get t.holders.items (length t.holders.items - 1)

-- after an event, by its kind; its octets are already counted
abbrev pub tracked_event : EventValue → Tracker → Tracker
tracked_event (Open h) t = holder_noted (element_of h) t
tracked_event (Enter h) t = wrapper_entered (element_of h) t
tracked_event (Begin h) t = record t { current = Some (element_of h) }
tracked_event End t = primitive_ended t.current t
tracked_event (Close offset) t = holder_ended (innermost t) t
tracked_event Leave t = holder_ended (innermost t) t
tracked_event (Bytes octets) t = t
tracked_event (Pad octets) t = t
tracked_event Unused t = bit_string_opened t.entered t

-- after an event
abbrev pub track : Tracker → EventValue → Tracker
track t e = tracked_event e (record t { offset = t.offset + length (event_octets e) })

-- after events, one after another
abbrev pub track_all : Tracker → List EventValue → Tracker
track_all t [] = t
track_all t (e ∷ es) = track_all (track t e) es

-- a walker that has taken nothing
pub record IsNewWalker (w : WalkerState) : Type 0 where
  pub stands : Stands w [] []
  pub idle : IsIdle w
  pub phase : w.phase ≡ Between
  pub offset : w.offset ≡ 0

-- the walker has walked to the end of the octets, or to one that it refused, and the tracker has recorded the events
pub record HasTracked (framing : Framing) (octets : List ℕ) (w : WalkerState) (t : Tracker) : Type 0 where
  pub framing_is : w.framing ≡ framing
  pub yielded : List EventValue
  pub at_end : StandsAtEnd w octets yielded
  pub idle : IsIdle w
  pub tracked : t ≡ track_all new_tracker yielded

-- the number of octets that are read: all, or the octets before the one that is refused
abbrev pub count_read : Option Fault → ℕ → ℕ
count_read None size = size
count_read (Some fault) size = fault.offset

-- the element that has begun and is not yet recorded: a primitive, or else a BIT STRING that was entered
abbrev pub begun_element : Tracker → Option Element
begun_element t = option_map_or Some t.current t.entered

-- where the open end begins: with the element that has begun, or after the last event
abbrev pub open_end_offset : Tracker → ℕ
open_end_offset t = option_map_or (λ e. e.offset) (begun_element t) t.offset

-- what is unfinished where no element has begun: nothing if all is read up to there, else what the octet there begins
abbrev pub unfinished_octet : List ℕ → ℕ → ℕ → Unfinished
unfinished_octet octets offset count =
    if eqb offset count then unfinished.Nothing
    else (if eqb (slice_index octets offset) 0 then unfinished.EndOctets else unfinished.Header)

-- what is unfinished where no primitive has begun
abbrev pub unfinished_entered : Option Element → List ℕ → ℕ → ℕ → Unfinished
unfinished_entered None octets offset count = unfinished_octet octets offset count
unfinished_entered (Some e) octets offset count = unfinished.Header

-- what is unfinished at the open end of octets, if `count` of them are read
abbrev pub unfinished_at : Tracker → List ℕ → ℕ → Unfinished
unfinished_at t octets count =
    option_map_or unfinished.Primitive t.current (unfinished_entered t.entered octets t.offset count)

-- the facts about octets that have this ending, from the events recorded
pub record MakesFacts (t : Tracker) (octets : List ℕ) (e : Ending) (facts : Facts) : Type 0 where
  pub fault : ending_by facts.fault ≡ e
  pub holders : facts.holders.items ≡ t.holders.items
  pub before : facts.before ≡ t.before
  pub top : facts.top ≡ t.top
  pub nearest : facts.nearest.items ≡ t.nearest.items
  pub next : facts.next ≡ open_end_offset t
  pub unfinished : facts.unfinished ≡ unfinished_at t octets (count_read facts.fault (length octets))
  pub there : IsElementThere octets facts.next facts.there
