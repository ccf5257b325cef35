-- The events that a walk over elements yields, in order.
use Rattle.std.specs.Prelude.{◌≡◌, ◌≢◌, ℕ, if◌then◌else◌, List, [], ◌∷◌, ◌++◌, flat_map, map, Option, Some}
use Rattle.tlv_head.specs.Header.{HeaderValue, octets_of}
use Rattle.tlv_walk.specs.declared.event.Event.{Event}
use Rattle.tlv_walk.specs.declared.event.Event.TheVariants as event
use Rattle.tlv_walk.specs.Forest.{Forest, NoMore, PaddingOctet, Primitive, Holder, OpenPrimitive, OpenHolder}
use Rattle.tlv_walk.specs.Forest.{OpenBitString, OpenHeader, OpenEndOctets, end_octets_offset, lead}

-- an event, without where its octets lie in memory
pub data EventValue : Type 0 where
  -- 8.1.2.5: a constructed element begins
  Open : (header : HeaderValue) → EventValue
  -- 8.1.2.5: a primitive begins, yields contents octets, and ends
  Begin : (header : HeaderValue) → EventValue
  Bytes : (octets : List ℕ) → EventValue
  End : EventValue
  -- 8.1.5: a constructed element ends, with the offset of its end-of-contents octets, if any
  Close : (offset : Option ℕ) → EventValue
  -- 8.6.2, 8.7.2: a wrapper begins, yields the first contents octet of a BIT STRING, and ends
  Enter : (header : HeaderValue) → EventValue
  Unused : EventValue
  Leave : EventValue
  -- padding
  Pad : (octets : List ℕ) → EventValue

-- the octets of an event
abbrev pub event_octets : EventValue → List ℕ
event_octets (Open h) = octets_of h
event_octets (Begin h) = octets_of h
event_octets (Enter h) = octets_of h
event_octets (Bytes octets) = octets
event_octets (Pad octets) = octets
event_octets Unused = 0 ∷ []
event_octets (Close (Some offset)) = 0 ∷ 0 ∷ []
event_octets e = []

-- the octets of a list of events
abbrev pub octets_of_events : List EventValue → List ℕ
octets_of_events es = flat_map event_octets es

-- an event of the code, as an `EventValue`
abbrev pub event_value_of : Event → EventValue
event_value_of (event.Open h) = Open h
event_value_of (event.Begin h) = Begin h
event_value_of (event.Bytes octets) = Bytes octets.now
event_value_of event.End = End
event_value_of (event.Close offset) = Close offset
event_value_of (event.Enter h) = Enter h
event_value_of event.Unused = Unused
event_value_of event.Leave = Leave
event_value_of (event.Pad octets) = Pad octets.now

-- an event that is a part of contents or of padding is not empty
abbrev pub IsNoEmptyPart : Event → Type 0
IsNoEmptyPart (event.Open h) = Unit {0}
IsNoEmptyPart (event.Begin h) = Unit {0}
IsNoEmptyPart (event.Bytes octets) = octets.now ≢ []
IsNoEmptyPart event.End = Unit {0}
IsNoEmptyPart (event.Close offset) = Unit {0}
IsNoEmptyPart (event.Enter h) = Unit {0}
IsNoEmptyPart event.Unused = Unit {0}
IsNoEmptyPart event.Leave = Unit {0}
IsNoEmptyPart (event.Pad octets) = octets.now ≢ []

-- a holder begins: it is constructed, or a wrapper
abbrev pub opening_event : HeaderValue → EventValue
opening_event h = if h.constructed then Open h else Enter h

-- a holder begins, and, if it is a wrapping BIT STRING, gives its first contents octet
abbrev pub opening_events : HeaderValue → List EventValue
opening_events h = opening_event h ∷ map (λ z. Unused) (lead h)

-- a holder ends
abbrev pub closing_event : HeaderValue → Forest → EventValue
closing_event h children = if h.constructed then Close (end_octets_offset h children) else Leave

-- the events of a forest, in the order of its octets
abbrev pub events : Forest → List EventValue
events NoMore = []
events (PaddingOctet rest) = Pad (0 ∷ []) ∷ events rest
events (Primitive h c rest) = Begin h ∷ Bytes c ∷ End ∷ events rest
events (Holder h children rest) = opening_events h ++ (events children ++ closing_event h children ∷ events rest)
events (OpenPrimitive h c) = Begin h ∷ Bytes c ∷ []
events (OpenHolder h children) = opening_events h ++ events children
events (OpenBitString h) = Enter h ∷ []
events (OpenHeader octets) = []
events OpenEndOctets = []

-- the same events, with contents and padding cut into single octets
abbrev pub single_octets : List EventValue → List EventValue
single_octets [] = []
single_octets (Bytes c ∷ es) = map (λ x. Bytes (x ∷ [])) c ++ single_octets es
single_octets (Pad c ∷ es) = map (λ x. Pad (x ∷ [])) c ++ single_octets es
single_octets (e ∷ es) = e ∷ single_octets es

-- contents octets, and then these events: joined with contents octets that come first
abbrev pub with_bytes : List ℕ → List EventValue → List EventValue
with_bytes [] es = es
with_bytes (x ∷ b) (Bytes c ∷ es) = Bytes (x ∷ b ++ c) ∷ es
with_bytes (x ∷ b) es = Bytes (x ∷ b) ∷ es

-- padding, and then these events: joined with padding that comes first
abbrev pub with_pad : List ℕ → List EventValue → List EventValue
with_pad [] es = es
with_pad (x ∷ b) (Pad c ∷ es) = Pad (x ∷ b ++ c) ∷ es
with_pad (x ∷ b) es = Pad (x ∷ b) ∷ es

-- adjacent `Bytes` joined, adjacent `Pad`s joined, and empty ones dropped
abbrev pub joined_events : List EventValue → List EventValue
joined_events [] = []
joined_events (Bytes b ∷ es) = with_bytes b (joined_events es)
joined_events (Pad b ∷ es) = with_pad b (joined_events es)
joined_events (e ∷ es) = e ∷ joined_events es

-- the events are the same, however contents and padding are cut into pieces
abbrev pub AreEqualJoined : List EventValue → List EventValue → Type 0
AreEqualJoined xs ys = joined_events xs ≡ joined_events ys
