-- The state of proofs: the forest that a walker stands for, taken apart along its open elements.
use Rattle.std.specs.Prelude.{◌≡◌, ℕ, ◌+◌, Bool, true, false, List, [], ◌∷◌, ◌++◌, length}
use Rattle.tlv_head.specs.declared.header.Size.TheVariants.{Definite}
use Rattle.tlv_head.specs.Header.{HeaderValue, holds, octets_of}
use Rattle.tlv_walk.specs.Stack.{FrameValue}
use Rattle.tlv_walk.specs.declared.framing.Framing.{Framing}
use Rattle.tlv_walk.specs.WalkerState.{Between, InBitString, InEndOctets, InHeader, InPrimitive, PhaseValue}
use Rattle.tlv_walk.specs.WalkerState.{WalkerState}
use Rattle.tlv_walk.specs.Events.{AreEqualJoined, Begin, Bytes, Enter, EventValue, events, opening_events}
use Rattle.tlv_walk.specs.Forest.{Forest, OpenBitString, OpenHeader, OpenEndOctets, has_element, is_whole}
use Rattle.tlv_walk.specs.Forest.{opening, spelling}
use Rattle.tlv_walk.specs.Inside.{are_rising}
use Rattle.tlv_head.specs.Lists.{is_among}
use Rattle.tlv_walk.specs.Private.WrapperCount.{wrapper_count_after}
use Rattle.tlv_walk.specs.Private.Stack.{frame_with}
use Rattle.tlv_walk.specs.Place.{Fits, IsHeaderAt, IsHolderAt, ObeysGrammar, Place, announced_extent, place_after}
use Rattle.tlv_walk.specs.Place.{place_of_children, top_place}
use Rattle.tlv_walk.specs.Wrappers.{entered_offsets}

-- an open holder, and the whole elements before it in the element around it
pub record Layer : Type 0 where
  pub before : Forest
  pub header : HeaderValue

-- what is open after the whole elements of the innermost open element
pub data Tail : Type 0 where
  NoTail : Tail
  -- contents octets so far; they may be all, and then the end is still to be yielded
  PrimitiveTail : (header : HeaderValue) (contents : List ℕ) → Tail
  -- a wrapping BIT STRING without its first contents octet
  BitStringTail : (header : HeaderValue) → Tail
  -- a prefix of a header
  HeaderTail : (octets : List ℕ) → Tail
  -- the first of the end-of-contents octets
  EndOctetsTail : Tail

-- the open holders, innermost first; the whole elements in the innermost of them; and
-- what is open after those
pub record Zipper : Type 0 where
  pub layers : List Layer
  pub here : Forest
  pub tail : Tail

-- the place after a forest that begins at a place
abbrev pub place_past : Place → Forest → Place
place_past p f = place_after p (length (spelling f))

-- where the elements in the innermost open element begin
abbrev pub place_in : Framing → List Layer → Place
place_in framing [] = top_place framing
place_in framing (l ∷ ls) = place_of_children (place_past (place_in framing ls) l.before) l.header

-- the place after the whole elements in the innermost open element
abbrev pub place_of : Framing → Zipper → Place
place_of framing s = place_past (place_in framing s.layers) s.here

-- elements that are whole, at this place, and with nothing open
pub record AreWhole (p : Place) (f : Forest) : Type 0 where
  pub obeys_grammar : ObeysGrammar p f
  pub whole : is_whole f ≡ true

-- each layer's elements are whole, and its header is allowed after them
abbrev pub AreLayers : Framing → List Layer → Type 0
AreLayers framing [] = Unit {0}
AreLayers framing (l ∷ ls) =
    AreLayers framing ls × AreWhole (place_in framing ls) l.before
    × IsHolderAt (place_past (place_in framing ls) l.before) l.header (announced_extent l.header)

-- 8.1.3.3: a primitive with this many contents octets still to come
pub record IsContents (p : Place) (h : HeaderValue) (c : List ℕ) (left : ℕ) : Type 0 where
  pub header : IsHeaderAt p h
  pub holding : holds h ≡ false
  pub size : h.size ≡ Definite (length c + left)
  pub fits : Fits p (length (octets_of h) + (length c + left))

-- the frame of an element that is there
abbrev pub frame_at : Place → HeaderValue → FrameValue
frame_at p h = frame_with (p.offset + length (octets_of h)) p.bound h.size h.constructed

-- the frames of open elements, innermost first
abbrev pub frames_of : Framing → List Layer → List FrameValue
frames_of framing [] = []
frames_of framing (l ∷ ls) =
    frame_at (place_past (place_in framing ls) l.before) l.header ∷ frames_of framing ls

-- the frames of a zipper: a wrapping BIT STRING has a frame even before its first contents octet
abbrev pub stack_of : Framing → List Layer → Place → Tail → List FrameValue
stack_of framing ls p NoTail = frames_of framing ls
stack_of framing ls p (PrimitiveTail h c) = frames_of framing ls
stack_of framing ls p (BitStringTail h) = frame_at p h ∷ frames_of framing ls
stack_of framing ls p (HeaderTail octets) = frames_of framing ls
stack_of framing ls p EndOctetsTail = frames_of framing ls

-- the phase of a walker matches what is open there
abbrev pub IsPhaseOf : PhaseValue → Tail → Place → Type 0
IsPhaseOf Between NoTail p = Unit {0}
IsPhaseOf (InHeader r) (HeaderTail octets) p =
    (r.octets ≡ octets) × (r.offset ≡ p.offset) × (r.named ≡ is_among p.offset p.inside)
    × ObeysGrammar p (OpenHeader octets)
IsPhaseOf (InPrimitive left) (PrimitiveTail h c) p = IsContents p h c left
IsPhaseOf InBitString (BitStringTail h) p = ObeysGrammar p (OpenBitString h)
IsPhaseOf InEndOctets EndOctetsTail p = ObeysGrammar p OpenEndOctets
IsPhaseOf f t p = ⊥

-- the octets before the elements in the innermost open element
abbrev pub spelling_of_layers : List Layer → List ℕ
spelling_of_layers [] = []
spelling_of_layers (l ∷ ls) = spelling_of_layers ls ++ (spelling l.before ++ opening l.header)

-- the octets of what is open after the whole elements
abbrev pub spelling_of_tail : Tail → List ℕ
spelling_of_tail NoTail = []
spelling_of_tail (PrimitiveTail h c) = octets_of h ++ c
spelling_of_tail (BitStringTail h) = octets_of h
spelling_of_tail (HeaderTail octets) = octets
spelling_of_tail EndOctetsTail = 0 ∷ []

-- all octets
abbrev pub spelling_of_zipper : Zipper → List ℕ
spelling_of_zipper s = spelling_of_layers s.layers ++ (spelling s.here ++ spelling_of_tail s.tail)

-- the events before the events of the elements in the innermost open element
abbrev pub events_of_layers : List Layer → List EventValue
events_of_layers [] = []
events_of_layers (l ∷ ls) = events_of_layers ls ++ (events l.before ++ opening_events l.header)

-- the events of what is open after the whole elements: for a primitive, its end is not included yet
abbrev pub events_of_tail : Tail → List EventValue
events_of_tail NoTail = []
events_of_tail (PrimitiveTail h c) = Begin h ∷ Bytes c ∷ []
events_of_tail (BitStringTail h) = Enter h ∷ []
events_of_tail (HeaderTail octets) = []
events_of_tail EndOctetsTail = []

-- all events yielded: the end of a primitive or of a filled element is not included yet
abbrev pub events_of_zipper : Zipper → List EventValue
events_of_zipper s = events_of_layers s.layers ++ (events s.here ++ events_of_tail s.tail)

-- whether an octet of an element came, not counting what is open after the whole elements
abbrev pub has_element_before_tail : List Layer → Forest → Bool
has_element_before_tail [] here = has_element here
has_element_before_tail (l ∷ ls) here = true

-- whether an octet of an element came
abbrev pub zipper_has_element : List Layer → Forest → Tail → Bool
zipper_has_element layers here NoTail = has_element_before_tail layers here
zipper_has_element layers here (PrimitiveTail h c) = true
zipper_has_element layers here (BitStringTail h) = true
zipper_has_element layers here (HeaderTail octets) = true
zipper_has_element layers here EndOctetsTail = true

-- the walker has this zipper: octets, frames, phase and events are the zipper's
pub record HasZipper (w : WalkerState) (b : List ℕ) (yielded : List EventValue) (s : Zipper) : Type 0 where
  pub spelled : spelling_of_zipper s ≡ b
  pub offset : w.offset ≡ length b
  pub stack : w.stack ≡ stack_of w.framing s.layers (place_of w.framing s) s.tail
  pub layers : AreLayers w.framing s.layers
  pub here : AreWhole (place_in w.framing s.layers) s.here
  pub phase : IsPhaseOf w.phase s.tail (place_of w.framing s)
  pub same_events : AreEqualJoined yielded (events_of_zipper s)
  pub element : w.has_element ≡ zipper_has_element s.layers s.here s.tail

-- what proofs keep about a walker that stands for these octets and events: a zipper that it has, and the wrappers
-- that it found
pub record HasPrivateState (w : WalkerState) (b : List ℕ) (yielded : List EventValue) : Type 0 where
  pub zipper : Zipper
  pub has_zipper : HasZipper w b yielded zipper
  pub rising : are_rising 0 w.framing.inside ≡ true
  pub wrapper_count : w.wrapper_count ≡ wrapper_count_after w.framing.inside 0 (entered_offsets yielded)
