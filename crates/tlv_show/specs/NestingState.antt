-- What is kept of the open holders: for each a frame, which says what the element held so far.
use Rattle.std.specs.Prelude.{ℕ, ◌+◌, ◌-◌, Bool, true, false, ◌&&◌, ◌||◌, not, ◌==◌, nat_lt, if◌then◌else◌}
use Rattle.std.specs.Prelude.{List, [], ◌∷◌, length, min}
use Rattle.tlv_head.specs.Limits.{depth_limit}
use Rattle.tlv_head.specs.Header.{HeaderValue, announced_length}
use Rattle.tlv_head.specs.UniversalTypes as universal
use Rattle.tlv_value.specs.Types.{has_segments, is_a, has_primitive_form}
use Rattle.tlv_show.specs.declared.holder_frame.HolderFrame.{HolderFrame}
use Rattle.tlv_show.specs.AllConditions.{has_components}
use Rattle.tlv_show.specs.KeptConditions.{Segments, Surroundings}

-- ---- One frame

-- at the top, where no element is open
abbrev pub top_frame : HolderFrame
top_frame = record {
  offset = 0;
  announced_length = 0;
  is_primitive = false;
  has_segments = false;
  is_bit_string = false;
  has_components = false;
  is_external = false;
  lacks_components = false;
  last_has_unused_bits = false;
  last_is_not_full = false;
  all_primitive = true;
  value_length = 0;
  ends_empty = false;
}

-- inside a holder: what its header says, and all else as at the top
abbrev pub frame_of : HeaderValue → HolderFrame
frame_of h = record top_frame {
  offset = h.offset;
  announced_length = announced_length h.size;
  is_primitive = has_primitive_form h;
  has_segments = has_segments h;
  is_bit_string = has_segments h && is_a universal.bit_string h;
  has_components = has_components h;
  is_external = is_a universal.external h;
  lacks_components = has_components h;
}

-- whether an element inside another, or at the top, has a frame of its own. An element that is neither a string nor of
-- a type with components, and is not in one, needs none
abbrev pub has_frame : HolderFrame → HeaderValue → Bool
has_frame w h = w.has_segments || w.has_components || has_segments h || has_components h

-- the frame inside an element, by the frame around it
abbrev pub frame_under : HolderFrame → HeaderValue → HolderFrame
frame_under w h = if has_frame w h then frame_of h else top_frame

-- an element in it has begun
abbrev pub with_element : HolderFrame → HolderFrame
with_element w = record w { lacks_components = false }

-- the contents of a BIT STRING begin with one octet for unused bits; other strings have no such octet
abbrev pub bits_octet_count : Bool → ℕ
bits_octet_count is_bit_string = if is_bit_string then 1 else 0

-- after one more segment: whether it is primitive, how many contents octets it announces, and whether it has unused
-- bits
abbrev pub frame_after_segment : HolderFrame → Bool → ℕ → Bool → HolderFrame
frame_after_segment w primitive announced unused_bits = record w {
  last_has_unused_bits = unused_bits;
  last_is_not_full = not (primitive && announced == 1000);
  all_primitive = w.all_primitive && primitive;
  value_length = min (w.value_length + (announced - bits_octet_count w.is_bit_string)) 1001;
  ends_empty = primitive && announced == 0;
}

-- after one more element: outside of strings nothing more is kept of it
abbrev pub frame_after : HolderFrame → Bool → ℕ → Bool → HolderFrame
frame_after w primitive announced unused_bits =
    if w.has_segments then frame_after_segment w primitive announced unused_bits else w

-- ---- What a frame tells the conditions

-- of an element that begins
abbrev pub surroundings_in : HolderFrame → Surroundings
surroundings_in w = record {
  in_string = w.has_segments;
  in_bit_string = w.has_segments && w.is_bit_string;
  after_unused_bits = w.has_segments && w.is_bit_string && w.last_has_unused_bits;
  after_not_full = w.has_segments && w.last_is_not_full;
  in_components = w.has_components;
  in_external = w.has_components && w.is_external;
}

-- of the end of the element with this frame. The length of its value stops at 1001
abbrev pub segments_in : HolderFrame → Segments
segments_in w = record {
  lacks_components = w.lacks_components;
  in_string = w.has_segments;
  all_primitive = w.all_primitive;
  length_as_primitive = bits_octet_count w.is_bit_string + w.value_length;
  ends_empty = w.ends_empty;
}

-- ---- All frames

-- the frame of the innermost open holder, or of the top, and the frames outside it, innermost first
pub record NestingState : Type 0 where
  pub frame : HolderFrame
  pub outer : List HolderFrame

-- the number of open holders
abbrev pub depth_in : NestingState → ℕ
depth_in n = length n.outer

-- at the top
abbrev pub new_nesting : NestingState
new_nesting = record { frame = top_frame; outer = [] }

-- a holder begins. With `depth_limit` of them open, no frame is kept for more
abbrev pub nesting_open_step : NestingState → HeaderValue → NestingState
nesting_open_step n h =
    if nat_lt (depth_in n) depth_limit
    then record { frame = frame_under n.frame h; outer = with_element n.frame ∷ n.outer }
    else n

-- a primitive ends: how many contents octets it announces, and whether it has unused bits
abbrev pub nesting_primitive_step : NestingState → ℕ → Bool → NestingState
nesting_primitive_step n announced unused_bits =
    record n { frame = frame_after (with_element n.frame) true announced unused_bits }

-- a holder ends, inside the frames around it
abbrev pub nesting_around : HolderFrame → List HolderFrame → NestingState
nesting_around closed [] = record { frame = closed; outer = [] }
nesting_around closed (w ∷ outer) = record {
  frame = frame_after w closed.is_primitive closed.announced_length false;
  outer = outer;
}

abbrev pub nesting_close_step : NestingState → NestingState
nesting_close_step n = nesting_around n.frame n.outer
