-- The ending of an input.
use Rattle.std.specs.Prelude.{◌≡◌, ◌≢◌, ◌↔◌, ℕ, ◌+◌, ◌<◌, ◌≤◌, true, false, List, [], ◌∷◌, ◌++◌, length}
use Rattle.tlv_head.specs.Limits.{depth_limit}
use Rattle.tlv_head.specs.declared.fault.Fault.{Fault}
use Rattle.tlv_head.specs.declared.fault.FaultCode.{FaultCode}
use Rattle.tlv_head.specs.declared.fault.FaultCode.TheVariants.{Empty, Short, StrayEnd, BadEnd, MissingEnd}
use Rattle.tlv_head.specs.declared.fault.FaultCode.TheVariants.{TooDeep, Overrun, BadInside}
use Rattle.tlv_head.specs.Header.{HeaderValue, holds, octets_of}
use Rattle.tlv_head.specs.Refusal.{IsRefusedOctet}
use Rattle.tlv_walk.specs.declared.framing.Framing.{Framing}
use Rattle.tlv_walk.specs.declared.ending.Ending.{Ending}
use Rattle.tlv_walk.specs.declared.ending.Ending.TheVariants.{Done}
use Rattle.tlv_walk.specs.declared.ending.Ending.TheVariants as endings
use Rattle.tlv_walk.specs.Forest.{Forest, NoMore, PaddingOctet, Primitive, Holder, OpenHolder, OpenBitString}
use Rattle.tlv_walk.specs.Forest.{OpenHeader, OpenEndOctets, holder_extent, has_element, is_whole}
use Rattle.tlv_walk.specs.Forest.{primitive_extent, spelling}
use Rattle.tlv_walk.specs.Place.{Fits, IsHeaderAt, Place, announced_extent, place_after, place_of_children, top_place}
use Rattle.tlv_walk.specs.Reading.{CannotBecomeSound, IsReading, IsSoundList}

-- the open end of a forest. `forest` is what the next octet continues: an open primitive, a wrapping BIT STRING without
-- its first contents octet, a prefix of a header, or the first of the end-of-contents octets. `place` is the place of
-- its first octet. If there is no such thing (holders around may be open), `forest` is `NoMore`, and `place` is that of
-- the next octet
pub record OpenEnd : Type 0 where
  pub place : Place
  pub forest : Forest

-- the open end with this forest, which begins at this place
abbrev pub open_at : Place → Forest → OpenEnd
open_at p f = record { place = p; forest = f }

-- the open end of a forest that begins at p; in an open holder it is that of what the holder holds. A forest has
-- exactly one
abbrev pub open_end : Place → Forest → OpenEnd
open_end p (PaddingOctet rest) = open_end (place_after p 1) rest
open_end p (Primitive h c rest) = open_end (place_after p (primitive_extent h c)) rest
open_end p (Holder h children rest) = open_end (place_after p (holder_extent h children)) rest
open_end p (OpenHolder h children) = open_end (place_of_children p h) children
open_end p f = open_at p f

-- why the octet x is refused at an open end, one line for each cause, in the order of "Faults" in docs/FORMAT.md. No
-- two lines hold at once. `p` is the place of the open end: the place of the first octet of its forest, or the place of
-- x if the forest is `NoMore`. `Fits p n → ⊥` says that n octets from `p` on end beyond the bound
pub data IsRefusedAt : OpenEnd → ℕ → FaultCode → Type 0 where
  -- ---- in a wrapping BIT STRING without its first octet
  -- F12, a rule of our own: encodings are whole octets, so a wrapping BIT STRING has no unused bits. 8.6.2.2 allows 00
  -- to 07
  bad_inside : {x : ℕ} {p : Place} {h : HeaderValue} → x ≢ 0 → IsRefusedAt (open_at p (OpenBitString h)) x BadInside
  -- ---- after the first of two octets 00
  -- F05, 8.1.5: the bound leaves no room for the second
  missing_end : {x : ℕ} {p : Place} → (Fits p 2 → ⊥) → IsRefusedAt (open_at p OpenEndOctets) x MissingEnd
  -- F04, 8.1.5: x is not 00
  bad_end : {x : ℕ} {p : Place} → Fits p 2 → x ≢ 0 → IsRefusedAt (open_at p OpenEndOctets) x BadEnd
  -- ---- in a header, of which the octets `o` are there
  -- F11, 8.1.3.3: the bound leaves no room for x
  no_room : {x : ℕ} {p : Place} {o : List ℕ} → (Fits p (length o + 1) → ⊥)
      → IsRefusedAt (open_at p (OpenHeader o)) x Overrun
  -- F06 to F09: no header continues with x, and `IsRefusedOctet` says why
  refused_octet : {x : ℕ} {p : Place} {o : List ℕ} {code : FaultCode} → Fits p (length o + 1) → IsRefusedOctet o x code
      → IsRefusedAt (open_at p (OpenHeader o)) x code
  -- F10, a limit of our own: x completes the header of a holder, inside `depth_limit` holders
  too_deep : {x : ℕ} {p : Place} {o : List ℕ} → Fits p (length o + 1) → (h : HeaderValue) → IsHeaderAt p h
      → holds h ≡ true → octets_of h ≡ o ++ x ∷ [] → depth_limit ≤ p.depth
      → IsRefusedAt (open_at p (OpenHeader o)) x TooDeep
  -- F11, 8.1.3.3: x completes a header that F10 does not refuse, and the contents that it announces would end beyond
  -- the bound
  overrun : {x : ℕ} {p : Place} {o : List ℕ} → Fits p (length o + 1) → (h : HeaderValue) → IsHeaderAt p h
      → octets_of h ≡ o ++ x ∷ [] → (holds h ≡ true → p.depth < depth_limit)
      → (Fits p (announced_extent h) → ⊥) → IsRefusedAt (open_at p (OpenHeader o)) x Overrun
  -- ---- where no element is begun
  -- F05, 8.1.5: the bound is reached inside an indefinite holder
  no_end : {x : ℕ} {p : Place} → p.indefinite ≡ true → (Fits p 1 → ⊥) → IsRefusedAt (open_at p NoMore) x MissingEnd
  -- F03, 8.1.5: 00 where neither end-of-contents octets nor padding are allowed. The bound leaves room for it, since a
  -- definite holder that is full has ended
  stray_end : {x : ℕ} {p : Place} → p.indefinite ≡ false → p.padding ≡ false → x ≡ 0
      → IsRefusedAt (open_at p NoMore) x StrayEnd

-- the fault with this code, at this offset
abbrev pub fault_at : FaultCode → ℕ → Fault
fault_at code offset = record { code = code; offset = offset }

-- the ending with this fault
abbrev pub fault_ending : FaultCode → ℕ → Ending
fault_ending code offset = endings.Fault (fault_at code offset)

-- the ending of an input with the reading f, one line for each case
pub data IsEndingOf (framing : Framing) (b : List ℕ) (f : Forest) : Ending → Type 0 where
  -- F01: all is read, and no octet of an element came
  empty : spelling f ≡ b → has_element f ≡ false → IsEndingOf framing b f (fault_ending Empty (length b))
  -- F02: all is read, and something is open
  short : spelling f ≡ b → is_whole f ≡ false → IsEndingOf framing b f (fault_ending Short (length b))
  -- all is read, one or more elements, and nothing is open
  done : spelling f ≡ b → has_element f ≡ true → is_whole f ≡ true → IsEndingOf framing b f Done
  -- the octet after the reading is refused
  refused : (x : ℕ) (rest : List ℕ) (code : FaultCode) → spelling f ++ x ∷ rest ≡ b
      → IsRefusedAt (open_end (top_place framing) f) x code
      → IsEndingOf framing b f (fault_ending code (length (spelling f)))

-- the ending of an input, by its reading
pub record IsEnding (framing : Framing) (b : List ℕ) (e : Ending) : Type 0 where
  pub reading : Forest
  pub is_reading : IsReading framing b reading
  pub ends : IsEndingOf framing b reading e

-- a fault that stays the ending whatever follows: one other than F01 and F02, which say that the input ends too early
abbrev pub IsFinalEnding : Ending → Type 0
IsFinalEnding Done = ⊥
IsFinalEnding (endings.Fault f) = (f.code ≢ Empty) × (f.code ≢ Short)

-- what the ending of octets shows: it is `Done` if and only if the octets are a sound list; and if it is a fault
-- other than F01 and F02, no input that begins with the octets is a sound list
pub record ShowsSoundness (framing : Framing) (b : List ℕ) (e : Ending) : Type 0 where
  pub done_is_sound : (e ≡ Done) ↔ IsSoundList framing b
  pub faults_are_right : IsFinalEnding e → CannotBecomeSound framing b

-- the octets have this ending. `soundness` does not choose the ending: it is a further promise about it
pub record HasEnding (framing : Framing) (b : List ℕ) (e : Ending) : Type 0 where
  pub is_ending : IsEnding framing b e
  pub soundness : ShowsSoundness framing b e
