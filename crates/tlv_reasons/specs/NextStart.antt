-- Where else encodings begin in an input: X.690 8.1.1.
use Rattle.std.specs.Prelude.{◌≡◌, ◌<◌, ◌≤◌, ◌+◌, ◌*◌, ◌&&◌, ◌||◌, ℕ, Bool, false, true, List, ◌++◌, length, take, drop, min, Option}
use Rattle.std.specs.Prelude.{None, Some, eqb, nat_le, slice_index}
use Rattle.std.specs.Option.{option_map_or}
use Rattle.std.specs.Str.TwoWay.{IsFirst}
use Rattle.tlv_head.specs.Header.{HeaderValue, definite_length}
use Rattle.tlv_head.specs.Refusal.{BeginsWith}
use Rattle.tlv_open.specs.Opens.{closed_framing}
use Rattle.tlv_reasons.specs.Elements.{offset_sum}
use Rattle.tlv_reasons.specs.FirstOf.{IsElse}
use Rattle.tlv_reasons.specs.Sizes.{distance}
use Rattle.tlv_reasons.specs.WrongLength.{contents_start}
use Rattle.tlv_walk.specs.Reading.{IsSoundList}

-- the octets begin with one or more whole encodings
pub record BeginsWithEncodings (octets : List ℕ) : Type 0 where
  pub front : List ℕ
  pub rest : List ℕ
  pub octets_are : front ++ rest ≡ octets
  pub sound : IsSoundList (closed_framing false) front

-- 8.1.3.3: where the element with this header ends is so many octets in front of the end of an input of `size` octets, or
-- behind it: a distance of none, or, if the element is constructed, of a quarter of the input at most
abbrev pub is_near_end : Bool → ℕ → ℕ → Bool
is_near_end constructed size by = eqb by 0 || (constructed && nat_le (4 * by) size)

abbrev pub ends_near_by : Bool → ℕ → ℕ → Option ℕ → Bool
ends_near_by constructed start size None = false
ends_near_by constructed start size (Some n) = is_near_end constructed size (distance (start + n) size)

-- the first element of the input ends with it, or near its end
pub record BeginsAndEnds (octets : List ℕ) : Type 0 where
  pub header : HeaderValue
  pub begins : BeginsWith octets 0 false header
  pub near : ends_near_by header.constructed (contents_start header) (length octets) (definite_length header.size) ≡ true

-- 8.1.4: the octets after this header that are contents of its element
abbrev pub contents_among : HeaderValue → List ℕ → List ℕ
contents_among h after = option_map_or (λ n. take n after) (definite_length h.size) after

-- the first element of the input seems right: it is constructed, and its contents begin with whole encodings
pub record SeemsRight (octets : List ℕ) : Type 0 where
  pub header : HeaderValue
  pub begins : BeginsWith octets 0 false header
  pub constructed : header.constructed ≡ true
  pub inside : BeginsWithEncodings (contents_among header begins.rest)

-- the input is sound from this offset on, and a constructed element begins there
pub record IsStart (padding : Bool) (octets : List ℕ) (offset : ℕ) : Type 0 where
  pub header : HeaderValue
  pub begins : BeginsWith (drop offset octets) offset false header
  pub constructed : header.constructed ≡ true
  pub sound : IsSoundList (closed_framing padding) (drop offset octets)

-- at least ten octets are there, and the first is no space
pub record IsOtherStart (padding : Bool) (octets : List ℕ) (offset : ℕ) : Type 0 where
  pub start : IsStart padding octets offset
  pub long : 10 ≤ length (drop offset octets)
  pub no_space : eqb (slice_index octets offset) 0x20 ≡ false

-- 8.1.3.3: the element there ends with the input
pub record EndsWithInput (octets : List ℕ) (offset : ℕ) : Type 0 where
  pub header : HeaderValue
  pub begins : BeginsWith (drop offset octets) offset false header
  pub ends : definite_length header.size ≡ Some (length begins.rest)

-- a single element is there
pub record IsOneStart (padding : Bool) (octets : List ℕ) (offset : ℕ) : Type 0 where
  pub ends : EndsWithInput octets offset
  pub start : IsOtherStart padding octets offset

-- the first offset from `first` to 256 from which the input is so
abbrev pub IsFirstOther : Bool → List ℕ → ℕ → Option ℕ → Type 0
IsFirstOther padding octets first found =
    IsFirst (IsOtherStart padding octets) first (min 257 (length octets)) found

-- the first of these from which it is a single element; or, if there is none, the first of them
abbrev pub IsFirstStart : Bool → List ℕ → ℕ → Option ℕ → Type 0
IsFirstStart padding octets first found =
    IsElse (IsFirst (IsOneStart padding octets) first (min 257 (length octets))) (λ offset. offset)
    (IsFirstOther padding octets first) found

-- the offset from which an input with a fault at this offset is sound, and with whole elements up to the offset `top`:
-- the first from 1 on; or behind the fault, if the first element of the input seems right, and the fault is inside it.
-- None if that element ends near the end of the input, or if it seems right and is whole
pub data IsNextStart (padding : Bool) (octets : List ℕ) (top fault : ℕ) : Option ℕ → Type 0 where
  of_one_record : BeginsAndEnds octets → IsNextStart padding octets top fault None
  of_records : (BeginsAndEnds octets → ⊥) → SeemsRight octets → 0 < top → IsNextStart padding octets top fault None
  of_damaged : {found : Option ℕ} → (BeginsAndEnds octets → ⊥) → SeemsRight octets → top ≡ 0
      → IsFirstStart padding octets (offset_sum fault 1) found → IsNextStart padding octets top fault found
  otherwise : {found : Option ℕ} → (BeginsAndEnds octets → ⊥) → (SeemsRight octets → ⊥)
      → IsFirstStart padding octets 1 found → IsNextStart padding octets top fault found
