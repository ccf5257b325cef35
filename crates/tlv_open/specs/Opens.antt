-- Which strings of an input are opened, that is, read as the encodings that they hold.
use Rattle.std.specs.Prelude.{◌≡◌, ℕ, ◌+◌, Bool, true, false, ◌||◌, not, List, [], ◌∷◌, ◌++◌, length}
use Rattle.tlv_head.specs.Header.{HeaderValue}
use Rattle.tlv_value.specs.Types.{has_segments}
use Rattle.tlv_walk.specs.declared.framing.Framing.{Framing}
use Rattle.tlv_walk.specs.Forest.{Forest, Holder, NoMore, OpenBitString, OpenEndOctets, OpenHeader, OpenHolder}
use Rattle.tlv_walk.specs.Forest.{OpenPrimitive, PaddingOctet, Primitive, opening}
use Rattle.tlv_walk.specs.Reading.{IsReading}
use Rattle.tlv_open.specs.Held.{HoldsEncodings}

-- one primitive, and nothing else
abbrev pub is_one_primitive : Forest → Bool
is_one_primitive (Primitive h contents NoMore) = true
is_one_primitive f = false

-- 8.6.4, 8.7.3: the strings in an element may be opened, unless they are segments of a constructed string. If the
-- constructed string is whole and has only one segment, that segment has all of its value, so it may be opened
abbrev pub may_open_in : HeaderValue → Bool → Bool
may_open_in h is_one_whole = not (has_segments h) || is_one_whole

-- the position of elements that are read by themselves: what their offsets are counted from, the number of elements
-- that hold them, and whether strings directly among them may be opened
pub record Where : Type 0 where
  pub start : ℕ
  pub depth : ℕ
  pub may_open : Bool

-- inside an element among them
abbrev pub where_of_children : Where → HeaderValue → Bool → Where
where_of_children w h is_one_whole = record w { depth = w.depth + 1; may_open = may_open_in h is_one_whole }

-- inside a string among them, whose encodings are read by themselves
abbrev pub where_of_held : Where → HeaderValue → Where
where_of_held w h = record { start = w.start + (h.offset + length (opening h)); depth = w.depth + 1; may_open = true }

-- the offsets of the opened strings among these elements, and of the opened strings inside these strings, in order
pub data Opens : Where → Forest → List ℕ → Type 0 where
  no_more : {w : Where} → Opens w NoMore []
  padded : {w : Where} {rest : Forest} {xs : List ℕ} → Opens w rest xs → Opens w (PaddingOctet rest) xs
  -- a string that is opened
  opened : {w : Where} {h : HeaderValue} {contents : List ℕ} {rest : Forest} {xs ys : List ℕ} → w.may_open ≡ true
      → (inner : Forest) → HoldsEncodings w.depth h contents inner → Opens (where_of_held w h) inner xs
      → Opens w rest ys
      → Opens w (Primitive h contents rest) ((w.start + h.offset) ∷ (xs ++ ys))
  -- any other primitive
  closed : {w : Where} {h : HeaderValue} {contents : List ℕ} {rest : Forest} {xs : List ℕ}
      → (w.may_open ≡ true → (inner : Forest) → HoldsEncodings w.depth h contents inner → ⊥) → Opens w rest xs
      → Opens w (Primitive h contents rest) xs
  holder : {w : Where} {h : HeaderValue} {children rest : Forest} {xs ys : List ℕ}
      → Opens (where_of_children w h (is_one_primitive children)) children xs → Opens w rest ys
      → Opens w (Holder h children rest) (xs ++ ys)
  -- in an element that has not ended, the number of segments is not known
  open_holder : {w : Where} {h : HeaderValue} {children : Forest} {xs : List ℕ}
      → Opens (where_of_children w h false) children xs → Opens w (OpenHolder h children) xs
  -- unfinished elements are not opened
  open_primitive : {w : Where} {h : HeaderValue} {contents : List ℕ} → Opens w (OpenPrimitive h contents) []
  open_bit_string : {w : Where} {h : HeaderValue} → Opens w (OpenBitString h) []
  open_header : {w : Where} {octets : List ℕ} → Opens w (OpenHeader octets) []
  open_end_octets : {w : Where} → Opens w OpenEndOctets []

-- at the start of an input
abbrev pub where_at_top : Where
where_at_top = record { start = 0; depth = 0; may_open = true }

-- the framing in which no string is named, with padding or without
abbrev pub closed_framing : Bool → Framing
closed_framing padding = record { inside = []; padding = padding }

-- the opened strings of an input, given by its reading in which no string is named
pub record AreOpened (padding : Bool) (octets offsets : List ℕ) : Type 0 where
  pub reading : Forest
  pub is_reading : IsReading (closed_framing padding) octets reading
  pub opens : Opens where_at_top reading offsets
