-- What is kept of the open strings so that wrong characters of segments are found event by event. No contract of `dump`
-- or `check` names this: `SegmentCharacters` says which strings have them.
use Rattle.std.specs.Prelude.{◌≡◌, ℕ, ◌+◌, ◌-◌, Bool, false, ◌&&◌, ◌||◌, not, ◌==◌, nat_lt, if◌then◌else◌, List, []}
use Rattle.std.specs.Prelude.{◌∷◌, ◌++◌, length, map, min, Option, Some, None}
use Rattle.tlv_head.specs.Limits.{depth_limit}
use Rattle.tlv_head.specs.Header.{HeaderValue, octets_of}
use Rattle.tlv_value.specs.Types.{has_primitive_form}
use Rattle.tlv_walk.specs.Events.{Begin, Bytes, Close, End, Enter, EventValue, Leave, Open, Pad, Unused, event_octets}
use Rattle.tlv_walk.specs.Events.{events}
use Rattle.tlv_walk.specs.Forest.{Forest, lead}
use Rattle.tlv_walk.specs.Place.{ObeysGrammar, top_place}
use Rattle.tlv_walk.specs.declared.framing.Framing.{Framing}
use Rattle.tlv_show.specs.declared.segment_frame.SegmentFrame.{SegmentFrame}
use Rattle.tlv_show.specs.SegmentCharacters.{has_wrong_octet, is_tested_string, wrong_character_offsets}
use Rattle.tlv_show.specs.SetOrder.{offset_if}

-- ---- One frame

-- inside a string, before its first segment
abbrev pub new_segment_frame : HeaderValue → SegmentFrame
new_segment_frame h = record {
  offset = h.offset;
  number = h.number;
  open_count = 0;
  in_contents = false;
  has_wrong = false;
}

-- what comes is directly in the string: no holder is open there
abbrev pub is_directly_in_string : SegmentFrame → Bool
is_directly_in_string w = w.open_count == 0

-- octets of the input: they are looked at if they are contents octets of a primitive segment
abbrev pub segment_after_octets : SegmentFrame → List ℕ → SegmentFrame
segment_after_octets w octets = record w {
  has_wrong = w.has_wrong || (w.in_contents && has_wrong_octet w.number octets);
}

-- after the header of an element: its contents octets come, and are those of a primitive segment if it is a segment and
-- is primitive
abbrev pub segment_begun : SegmentFrame → HeaderValue → SegmentFrame
segment_begun w h = record w { in_contents = if is_directly_in_string w then has_primitive_form h else w.in_contents }

-- one more holder is open in the string
abbrev pub segment_entered : SegmentFrame → SegmentFrame
segment_entered w = record w { open_count = min (w.open_count + 1) 255 }

-- an element ends
abbrev pub segment_ended : SegmentFrame → SegmentFrame
segment_ended w = record w { in_contents = not (is_directly_in_string w) && w.in_contents }

-- a holder ends
abbrev pub segment_closed : SegmentFrame → SegmentFrame
segment_closed w = segment_ended (record w { open_count = w.open_count - 1 })

-- ---- All frames: those of the open strings, innermost first

-- octets of the input
abbrev pub segments_after_octets : List ℕ → List SegmentFrame → List SegmentFrame
segments_after_octets octets frames = map (λ w. segment_after_octets w octets) frames

-- what the innermost string keeps changes
abbrev pub at_innermost : (SegmentFrame → SegmentFrame) → List SegmentFrame → List SegmentFrame
at_innermost change [] = []
at_innermost change (w ∷ outer) = change w ∷ outer

-- the header of an element
abbrev pub segments_begun : List SegmentFrame → HeaderValue → List SegmentFrame
segments_begun frames h = at_innermost (λ w. segment_begun w h) (segments_after_octets (octets_of h) frames)

-- the elements that come next are in an element with this header. With `depth_limit` frames, no frame is kept for more
abbrev pub segments_entered : List SegmentFrame → HeaderValue → List SegmentFrame
segments_entered frames h =
    if is_tested_string h && nat_lt (length frames) depth_limit
    then new_segment_frame h ∷ at_innermost segment_entered frames
    else at_innermost segment_entered frames

-- a holder begins. The octet before the elements in a BIT STRING is taken with its header
abbrev pub segments_opened : List SegmentFrame → HeaderValue → List SegmentFrame
segments_opened frames h = segments_entered (segments_after_octets (lead h) (segments_begun frames h)) h

-- a holder ends: if it is the innermost string, its frame goes
abbrev pub segments_left : List SegmentFrame → List SegmentFrame
segments_left [] = []
segments_left (w ∷ outer) = if is_directly_in_string w then outer else w ∷ outer

-- its last octets are the end-of-contents octets, if any
abbrev pub segments_closed : List SegmentFrame → List ℕ → List SegmentFrame
segments_closed frames octets = at_innermost segment_closed (segments_after_octets octets (segments_left frames))

-- ---- Event by event

-- what is kept after an event
abbrev pub segments_step : List SegmentFrame → EventValue → List SegmentFrame
segments_step frames (Open h) = segments_opened frames h
segments_step frames (Begin h) = segments_begun frames h
segments_step frames (Bytes octets) = segments_after_octets octets frames
segments_step frames End = at_innermost segment_ended frames
segments_step frames (Close offset) = segments_closed frames (event_octets (Close offset))
segments_step frames (Enter h) = segments_opened frames h
segments_step frames Unused = frames
segments_step frames Leave = segments_closed frames []
segments_step frames (Pad octets) = frames

-- a holder ends: it is a string with a wrong octet
abbrev pub ends_wrong : List SegmentFrame → Bool
ends_wrong [] = false
ends_wrong (w ∷ outer) = is_directly_in_string w && w.has_wrong

-- the offset of the innermost string
abbrev pub innermost_offset : List SegmentFrame → ℕ
innermost_offset [] = 0
innermost_offset (w ∷ outer) = w.offset

-- the offset of the string that ends, if it has a wrong octet, and the same as a list
abbrev pub closing_string : List SegmentFrame → Option ℕ
closing_string frames = if ends_wrong frames then Some (innermost_offset frames) else None

abbrev pub closing_offsets : List SegmentFrame → List ℕ
closing_offsets frames = offset_if (ends_wrong frames) (innermost_offset frames)

-- what is found with an event, by what is kept before it
abbrev pub segments_found : List SegmentFrame → EventValue → List ℕ
segments_found frames (Close offset) = closing_offsets frames
segments_found frames Leave = closing_offsets frames
segments_found frames event = []

-- what is found of events one after another
abbrev pub segment_offsets : List SegmentFrame → List EventValue → List ℕ
segment_offsets frames [] = []
segment_offsets frames (event ∷ es) =
    segments_found frames event ++ segment_offsets (segments_step frames event) es

-- of the events of a forest that obeys the grammar, exactly the strings are found whose segments have wrong characters
abbrev pub WrongCharactersAreFound : Type 0
WrongCharactersAreFound =
    (framing : Framing) (f : Forest) → ObeysGrammar (top_place framing) f
    → segment_offsets [] (events f) ≡ wrong_character_offsets f
