-- The effect of events on an `Indef`.
use Rattle.std.specs.Prelude.{ℕ, if◌then◌else◌, List, [], ◌∷◌}
use Rattle.tlv_head.specs.Header.{spell_indefinite, octets_of}
use Rattle.tlv_walk.specs.Events.{Begin, Bytes, Close, End, Enter, EventValue, Leave, Open, Pad, Unused}
use Rattle.tlv_walk.specs.Follow.{Effect, effect_with}

-- what contracts see of an `Indef`: nothing, since it keeps nothing
pub record IndefState : Type 0 where

-- an `Indef` that has followed no event
abbrev pub new_indef : IndefState
new_indef = record {}

-- the octets that it puts for an event. The header of a primitive is put unchanged, whichever event it comes with
abbrev pub indef_event_text : EventValue → List ℕ
indef_event_text (Open h) = if h.constructed then spell_indefinite h else octets_of h
indef_event_text (Begin h) = octets_of h
indef_event_text (Bytes octets) = octets
indef_event_text End = []
indef_event_text (Close offset) = 0 ∷ 0 ∷ []
indef_event_text (Enter h) = octets_of h
indef_event_text Unused = 0 ∷ []
indef_event_text Leave = []
indef_event_text (Pad octets) = octets

-- an event comes: more is always wanted
abbrev pub indef_step : IndefState → EventValue → Effect IndefState
indef_step s e = effect_with s (indef_event_text e)
