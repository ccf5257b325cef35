-- Which strings of an input look like encodings, are not opened, and break when they are read as encodings.
use Rattle.std.specs.Prelude.{◌≡◌, ◌≤◌, ◌<◌, ℕ, zero, suc, ◌+◌, ◌-◌, ◌*◌, Bool, true, false, ◌&&◌, ◌||◌, eqb, List, []}
use Rattle.std.specs.Prelude.{◌∷◌, ◌++◌, length, slice_index, Some}
use Rattle.tlv_head.specs.Limits.{input_limit}
use Rattle.tlv_head.specs.UniversalTypes as universal
use Rattle.tlv_head.specs.declared.fault.Fault.{Fault}
use Rattle.tlv_head.specs.declared.header.Size.TheVariants.{Definite}
use Rattle.tlv_head.specs.Header.{HeaderValue, octets_of}
use Rattle.tlv_head.specs.Refusal.{BeginsWith}
use Rattle.tlv_open.specs.declared.strings.BrokenString.{BrokenString}
use Rattle.tlv_open.specs.declared.strings.Suspicion.{Suspicion}
use Rattle.tlv_open.specs.declared.strings.Suspicion.TheVariants.{Extension, Sequence, Set}
use Rattle.tlv_open.specs.Held.{HoldsEncodings, inner_octets}
use Rattle.tlv_open.specs.Opens.{Where, closed_framing, is_one_primitive, where_at_top, where_of_children}
use Rattle.tlv_open.specs.Opens.{where_of_held}
use Rattle.tlv_value.specs.Types.{is_a}
use Rattle.tlv_walk.specs.declared.ending.Ending.TheVariants as endings
use Rattle.tlv_walk.specs.declared.framing.Framing.{Framing}
use Rattle.tlv_walk.specs.Ending.{IsEnding, fault_at}
use Rattle.tlv_walk.specs.Forest.{Forest, Holder, NoMore, OpenBitString, OpenEndOctets, OpenHeader, OpenHolder}
use Rattle.tlv_walk.specs.Forest.{OpenPrimitive, PaddingOctet, Primitive}
use Rattle.tlv_walk.specs.Reading.{IsReading}

-- ---- Which strings look like encodings

-- there are more than 24 octets, and they begin with a header of definite length; the element that it announces ends
-- at most 8 octets before or after their end
pub record HaveAnnouncedSize (octets : List ℕ) : Type 0 where
  pub many : 24 < length octets
  pub header : HeaderValue
  pub begins : BeginsWith octets 0 false header
  pub announced : ℕ
  pub definite : header.size ≡ Definite announced
  pub not_before : length octets ≤ (length (octets_of header) + announced) + 8
  pub not_after : length (octets_of header) + announced ≤ length octets + 8

-- the same, and the first octet is `first`
pub record BeginsAs (first : ℕ) (octets : List ℕ) : Type 0 where
  pub first_octet : slice_index octets 0 ≡ first
  pub size : HaveAnnouncedSize octets

-- why a string looks like encodings, given its inner octets and whether it is the value of an extension: a line for
-- each reason. 8.9.1, 8.11.1: SEQUENCE begins with 30, SET with 31
pub data LooksEncoded (octets : List ℕ) (is_value : Bool) : Suspicion → Type 0 where
  sequence : BeginsAs 0x30 octets → LooksEncoded octets is_value Sequence
  set : BeginsAs 0x31 octets → LooksEncoded octets is_value Set
  extension : is_value ≡ true → (BeginsAs 0x30 octets → ⊥) → (BeginsAs 0x31 octets → ⊥)
      → LooksEncoded octets is_value Extension

-- ---- Extensions of certificates

-- the second list is the first list, followed by one or more octets
abbrev pub goes_beyond : List ℕ → List ℕ → Bool
goes_beyond [] [] = false
goes_beyond [] (x ∷ more) = true
goes_beyond (b ∷ begin) [] = false
goes_beyond (b ∷ begin) (x ∷ more) = eqb x b && goes_beyond begin more

-- 8.19: contents of an OBJECT IDENTIFIER below 2.5.29 or 1.3.6.1.5.5.7.1, which name extensions
abbrev pub names_extension : List ℕ → Bool
names_extension contents =
    goes_beyond (0x55 ∷ 0x1d ∷ []) contents || goes_beyond (0x2b ∷ 6 ∷ 1 ∷ 5 ∷ 5 ∷ 7 ∷ 1 ∷ []) contents

-- the first of these elements is a primitive OBJECT IDENTIFIER that has such contents
abbrev pub begin_extension : Forest → Bool
begin_extension (Primitive id contents rest) = is_a universal.object_identifier id && names_extension contents
begin_extension f = false

-- an element with this header and these children is an extension: a SEQUENCE that begins with such an OBJECT
-- IDENTIFIER. Its last element is its value
abbrev pub is_extension : HeaderValue → Forest → Bool
is_extension h children = is_a universal.sequence h && begin_extension children

-- no other element follows
abbrev pub is_no_more : Forest → Bool
is_no_more NoMore = true
is_no_more f = false

-- ---- Where they break

-- the first octets of this number of SEQUENCEs of indefinite length, each inside the one before
abbrev pub sequence_starts : ℕ → List ℕ
sequence_starts zero = []
sequence_starts (suc n) = 0x30 ∷ 0x80 ∷ sequence_starts n

-- a string (header and contents) inside `depth` SEQUENCEs that have not ended, and a NULL after it. Whatever is open
-- at the end of the string meets the octet after it
abbrev pub octets_around : ℕ → List ℕ → List ℕ
octets_around depth string = sequence_starts depth ++ (string ++ 5 ∷ 0 ∷ [])

-- the framing in which this string is named
abbrev pub framing_around : ℕ → Framing
framing_around depth = record { inside = 2 * depth ∷ []; padding = false }

-- a string inside `depth` elements breaks when it is read as encodings: the octets around it end in a fault that is
-- not beyond the end of the string. These octets are an input, so there are no more than an input may have
pub record BreaksAt (depth : ℕ) (string : List ℕ) (fault : Fault) : Type 0 where
  pub within_limit : length (octets_around depth string) ≤ input_limit
  pub is_ending : IsEnding (framing_around depth) (octets_around depth string) (endings.Fault fault)
  pub within_string : fault.offset ≤ 2 * depth + length string

-- the same fault for a string at `offset`: its offset is counted from where `offset` is counted
abbrev pub fault_of_string : ℕ → ℕ → Fault → Fault
fault_of_string offset depth fault = fault_at fault.code (offset + (fault.offset - 2 * depth))

-- a string at this offset, with these inner octets, is broken
pub record IsBrokenString
    (offset depth : ℕ) (string octets : List ℕ) (is_value : Bool) (broken : BrokenString)
    : Type 0 where
  pub offset_is : broken.offset ≡ offset
  pub looks_encoded : LooksEncoded octets is_value broken.reason
  pub fault : Fault
  pub breaks_at : BreaksAt depth string fault
  pub fault_is : broken.fault ≡ fault_of_string offset depth fault

-- a primitive at this place is a broken string: it may be opened there but is not, looks like encodings, and breaks
pub record IsBroken
    (w : Where) (is_value : Bool) (h : HeaderValue) (contents : List ℕ) (broken : BrokenString)
    : Type 0 where
  pub may_open : w.may_open ≡ true
  pub not_opened : (inner : Forest) → HoldsEncodings w.depth h contents inner → ⊥
  pub octets : List ℕ
  pub inner : inner_octets h contents ≡ Some octets
  pub is_broken : IsBrokenString (w.start + h.offset) w.depth (octets_of h ++ contents) octets is_value broken

-- the broken strings among these elements and inside their opened strings, in order; the Bool says whether the
-- elements are all the elements of an extension
pub data Breaks : Where → Bool → Forest → List BrokenString → Type 0 where
  no_more : {w : Where} {e : Bool} → Breaks w e NoMore []
  padded : {w : Where} {e : Bool} {rest : Forest} {xs : List BrokenString} → Breaks w e rest xs
      → Breaks w e (PaddingOctet rest) xs
  -- a string that is opened
  opened : {w : Where} {e : Bool} {h : HeaderValue} {contents : List ℕ} {rest : Forest} {xs ys : List BrokenString}
      → w.may_open ≡ true → (inner : Forest) → HoldsEncodings w.depth h contents inner
      → Breaks (where_of_held w h) false inner xs → Breaks w e rest ys
      → Breaks w e (Primitive h contents rest) (xs ++ ys)
  -- a broken string: nothing is searched for in it
  broken : {w : Where} {e : Bool} {h : HeaderValue} {contents : List ℕ} {rest : Forest} {ys : List BrokenString}
      → (x : BrokenString) → IsBroken w (e && is_no_more rest) h contents x → Breaks w e rest ys
      → Breaks w e (Primitive h contents rest) (x ∷ ys)
  -- any other primitive
  other : {w : Where} {e : Bool} {h : HeaderValue} {contents : List ℕ} {rest : Forest} {xs : List BrokenString}
      → (w.may_open ≡ true → (inner : Forest) → HoldsEncodings w.depth h contents inner → ⊥)
      → ((x : BrokenString) → IsBroken w (e && is_no_more rest) h contents x → ⊥) → Breaks w e rest xs
      → Breaks w e (Primitive h contents rest) xs
  holder : {w : Where} {e : Bool} {h : HeaderValue} {children rest : Forest} {xs ys : List BrokenString}
      → Breaks (where_of_children w h (is_one_primitive children)) (is_extension h children) children xs
      → Breaks w e rest ys → Breaks w e (Holder h children rest) (xs ++ ys)
  -- in an element that has not ended, the last element is not known
  open_holder : {w : Where} {e : Bool} {h : HeaderValue} {children : Forest} {xs : List BrokenString}
      → Breaks (where_of_children w h false) false children xs → Breaks w e (OpenHolder h children) xs
  -- unfinished elements are not looked at
  open_primitive : {w : Where} {e : Bool} {h : HeaderValue} {contents : List ℕ}
      → Breaks w e (OpenPrimitive h contents) []
  open_bit_string : {w : Where} {e : Bool} {h : HeaderValue} → Breaks w e (OpenBitString h) []
  open_header : {w : Where} {e : Bool} {octets : List ℕ} → Breaks w e (OpenHeader octets) []
  open_end_octets : {w : Where} {e : Bool} → Breaks w e OpenEndOctets []

-- the broken strings of an input, given by its reading in which no string is named
pub record AreBroken (padding : Bool) (octets : List ℕ) (list : List BrokenString) : Type 0 where
  pub reading : Forest
  pub is_reading : IsReading (closed_framing padding) octets reading
  pub breaks : Breaks where_at_top false reading list
