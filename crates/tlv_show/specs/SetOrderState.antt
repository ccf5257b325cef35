-- What is kept of the open SETs so that elements out of order are found event by event. No contract of `dump` or
-- `check` names this: `SetOrder` says which elements are out of order.
use Rattle.std.specs.Prelude.{◌≡◌, ℕ, ◌+◌, ◌-◌, Bool, false, ◌&&◌, ◌||◌, not, ◌==◌, nat_lt, if◌then◌else◌, List, []}
use Rattle.std.specs.Prelude.{◌∷◌, ◌++◌, length, map, min, set, slice_index, None}
use Rattle.tlv_head.specs.Limits.{depth_limit}
use Rattle.tlv_head.specs.Header.{HeaderValue, octets_of}
use Rattle.tlv_head.specs.declared.header.Class.TheVariants.{Universal}
use Rattle.tlv_walk.specs.Events.{Begin, Bytes, Close, End, Enter, EventValue, Leave, Open, Pad, Unused, event_octets}
use Rattle.tlv_walk.specs.Events.{events}
use Rattle.tlv_walk.specs.Forest.{Forest, opening}
use Rattle.tlv_walk.specs.Place.{ObeysGrammar, top_place}
use Rattle.tlv_walk.specs.declared.framing.Framing.{Framing}
use Rattle.tlv_show.specs.declared.rules.Rules.{Rules}
use Rattle.tlv_show.specs.declared.set_frame.SetFrame.{SetFrame}
use Rattle.tlv_show.specs.SetOrder.{compared_count, do_octets_decide, is_set, offset_if, out_of_order_offsets}
use Rattle.tlv_show.specs.SetOrder.{zeros}

-- ---- One frame

-- as many octets of the present element as are compared have come, or there is none
abbrev pub has_all_compared : SetFrame → Bool
has_all_compared w = w.count == compared_count

-- inside a SET, before its first element: all octets come after a neighbour of octets 00, or are equal to it
abbrev pub new_set_frame : SetFrame
new_set_frame = record {
  octets = zeros;
  offset = 0;
  number = 0;
  class = Universal;
  count = compared_count;
  open_count = 0;
  octets_decide = false;
  differs = false;
  is_smaller = false;
}

-- outside of all SETs: no element there is directly in a SET
abbrev pub outermost_frame : SetFrame
outermost_frame = record new_set_frame { open_count = 1 }

-- an element begins directly in the SET. Its neighbour's tag is the tag of the frame, and its octets are
abbrev pub frame_begun : Rules → SetFrame → HeaderValue → SetFrame
frame_begun rules w h = record w {
  offset = h.offset;
  number = h.number;
  class = h.class;
  count = 0;
  octets_decide = do_octets_decide rules h.class h.number w.class w.number;
  differs = false;
  is_smaller = false;
}

-- one more octet of the present element: it is compared with its neighbour's, and takes its place
abbrev pub frame_compared : SetFrame → ℕ → ℕ → SetFrame
frame_compared w octet other = record w {
  octets = set w.octets w.count octet;
  count = w.count + 1;
  differs = w.differs || not (octet == other);
  is_smaller = w.is_smaller || (not w.differs && nat_lt octet other);
}

abbrev pub frame_after_octet : SetFrame → ℕ → SetFrame
frame_after_octet w octet =
    if nat_lt w.count compared_count then frame_compared w octet (slice_index w.octets w.count) else w

abbrev pub frame_after_octets : SetFrame → List ℕ → SetFrame
frame_after_octets w [] = w
frame_after_octets w (octet ∷ octets) = frame_after_octets (frame_after_octet w octet) octets

-- the present element ends: it is filled up with 00
abbrev pub frame_ended : SetFrame → SetFrame
frame_ended w = frame_after_octets w zeros

-- the present element is directly in the SET
abbrev pub is_direct : SetFrame → Bool
is_direct w = w.open_count == 0

-- the element that has just ended is out of order
abbrev pub is_last_out_of_order : SetFrame → Bool
is_last_out_of_order w = is_direct w && (w.octets_decide && w.is_smaller)

-- ---- All frames

-- the frame of the innermost open SET, or the outermost frame, and the frames outside it, innermost first
pub record SetOrderState : Type 0 where
  pub frame : SetFrame
  pub outer : List SetFrame

abbrev pub new_set_order : SetOrderState
new_set_order = record { frame = outermost_frame; outer = [] }

-- octets of the elements that are open, one in each SET
abbrev pub frames_after_octets : List ℕ → List SetFrame → List SetFrame
frames_after_octets octets outer = map (λ w. frame_after_octets w octets) outer

abbrev pub set_order_octets_step : SetOrderState → List ℕ → SetOrderState
set_order_octets_step s octets = record {
  frame = frame_after_octets s.frame octets;
  outer = frames_after_octets octets s.outer;
}

-- an element begins
abbrev pub set_order_started : Rules → SetOrderState → HeaderValue → SetOrderState
set_order_started rules s h = if is_direct s.frame then record s { frame = frame_begun rules s.frame h } else s

-- a primitive begins
abbrev pub set_order_begin_step : Rules → SetOrderState → HeaderValue → SetOrderState
set_order_begin_step rules s h = set_order_octets_step (set_order_started rules s h) (octets_of h)

-- one more element is open in the innermost SET
abbrev pub frame_entered : SetFrame → SetFrame
frame_entered w = record w { open_count = min (w.open_count + 1) 255 }

-- the elements that come next are in an element with this header. With `depth_limit` frames outside, no frame is kept
-- for more
abbrev pub set_order_entered : SetOrderState → HeaderValue → SetOrderState
set_order_entered s h =
    if is_set h && nat_lt (length s.outer) depth_limit
    then record { frame = new_set_frame; outer = frame_entered s.frame ∷ s.outer }
    else record s { frame = frame_entered s.frame }

-- a holder begins. The octet before the elements in a BIT STRING is taken with its header
abbrev pub set_order_open_step : Rules → SetOrderState → HeaderValue → SetOrderState
set_order_open_step rules s h = set_order_entered (set_order_octets_step (set_order_started rules s h) (opening h)) h

-- an element ends
abbrev pub set_order_end_step : SetOrderState → SetOrderState
set_order_end_step s = if is_direct s.frame then record s { frame = frame_ended s.frame } else s

-- a holder ends: if it is the innermost SET, the frame outside is the innermost one again
abbrev pub set_order_outside : SetOrderState → List SetFrame → SetOrderState
set_order_outside s [] = s
set_order_outside s (w ∷ outer) = record { frame = w; outer = outer }

abbrev pub set_order_left : SetOrderState → SetOrderState
set_order_left s = if is_direct s.frame then set_order_outside s s.outer else s

-- one element fewer is open in the innermost SET
abbrev pub set_order_closed : SetOrderState → SetOrderState
set_order_closed s = record s { frame = record s.frame { open_count = s.frame.open_count - 1 } }

-- its last octets are the end-of-contents octets, if any
abbrev pub set_order_close_step : SetOrderState → List ℕ → SetOrderState
set_order_close_step s octets =
    set_order_end_step (set_order_closed (set_order_octets_step (set_order_left s) octets))

-- ---- Event by event

-- what is kept after an event
abbrev pub set_order_step : Rules → SetOrderState → EventValue → SetOrderState
set_order_step rules s (Open h) = set_order_open_step rules s h
set_order_step rules s (Begin h) = set_order_begin_step rules s h
set_order_step rules s (Bytes octets) = set_order_octets_step s octets
set_order_step rules s End = set_order_end_step s
set_order_step rules s (Close offset) = set_order_close_step s (event_octets (Close offset))
set_order_step rules s (Enter h) = set_order_open_step rules s h
set_order_step rules s Unused = s
set_order_step rules s Leave = set_order_close_step s []
set_order_step rules s (Pad octets) = s

-- what is found by what is kept after an event: the offset of the element that ends with it, if it is out of order
abbrev pub set_order_found : EventValue → SetOrderState → List ℕ
set_order_found End s = offset_if (is_last_out_of_order s.frame) s.frame.offset
set_order_found (Close offset) s = offset_if (is_last_out_of_order s.frame) s.frame.offset
set_order_found Leave s = offset_if (is_last_out_of_order s.frame) s.frame.offset
set_order_found event s = []

-- what is found of events one after another
abbrev pub set_order_offsets : Rules → SetOrderState → List EventValue → List ℕ
set_order_offsets rules s [] = []
set_order_offsets rules s (event ∷ es) =
    set_order_found event (set_order_step rules s event) ++ set_order_offsets rules (set_order_step rules s event) es

-- of the events of a forest that obeys the grammar, exactly the elements are found that are out of order
abbrev pub OutOfOrderIsFound : Type 0
OutOfOrderIsFound =
    (rules : Rules) (framing : Framing) (f : Forest) → ObeysGrammar (top_place framing) f
    → set_order_offsets rules new_set_order (events f) ≡ out_of_order_offsets rules None None f
