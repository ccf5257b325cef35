-- Lengths of elements inside one another that would all have to be greater or smaller by the same number, since octets
-- were put in or lost inside them: X.690 8.1.3.
use Rattle.std.specs.Prelude.{◌≡◌, ℕ, ◌+◌, ◌-◌, ◌<◌, ◌≤◌, Bool, false, nat_le, if◌then◌else◌, List, [], ◌∷◌, ◌++◌}
use Rattle.std.specs.Prelude.{Option, Some, None, drop, length, map, replicate, take}
use Rattle.std.specs.List.{filter}
use Rattle.tlv_head.specs.Header.{HeaderValue, definite_length}
use Rattle.tlv_head.specs.Refusal.{BeginsWith}
use Rattle.tlv_open.specs.Opens.{closed_framing}
use Rattle.tlv_walk.specs.Forest.{Forest}
use Rattle.tlv_walk.specs.Reading.{IsReading, IsSoundList}
use Rattle.tlv_reasons.specs.declared.chains.Chain.{Chain}
use Rattle.tlv_reasons.specs.declared.facts.Facts.{Facts}
use Rattle.tlv_reasons.specs.declared.sizes.Difference.{Difference}
use Rattle.tlv_reasons.specs.Facts.{open_holders}
use Rattle.tlv_reasons.specs.OpenHolders.{has_end}
use Rattle.tlv_reasons.specs.Sizes.{size_difference}
use Rattle.tlv_reasons.specs.Suspects.{element_offset}
use Rattle.tlv_reasons.specs.Mended.{wide_limit}
use Rattle.tlv_reasons.specs.WrongLength.{input_with_length, length_bound}

-- ---- headers that state other lengths

-- the length that is greater or smaller by the difference: greater if the input is longer than its outermost element
-- says. There is none below 0
abbrev pub moved_length : Difference → ℕ → Option ℕ
moved_length d said =
    if d.is_longer then Some (said + d.by) else (if nat_le d.by said then Some (said - d.by) else None)

-- 8.1.3.3: an input in which the header at this offset states that other length, in as many length octets. There is
-- none if no header of definite length is there, or if its length octets cannot state the other length
pub record IsMoved (d : Difference) (offset : ℕ) (octets changed : List ℕ) : Type 0 where
  pub header : HeaderValue
  pub begins : BeginsWith (drop offset octets) offset false header
  pub said : ℕ
  pub said_is : definite_length header.size ≡ Some said
  pub would : ℕ
  pub would_is : moved_length d said ≡ Some would
  pub sayable : would < length_bound (length header.length_octets)
  pub changed_is : changed ≡ input_with_length octets header would

-- the same of the headers at these offsets, changed one after another
pub data AreMoved (d : Difference) : List ℕ → List ℕ → List ℕ → Type 0 where
  all_moved : {octets : List ℕ} → AreMoved d [] octets octets
  one_moved : {offset : ℕ} {more octets next changed : List ℕ} → IsMoved d offset octets next
      → AreMoved d more next changed → AreMoved d (offset ∷ more) octets changed

-- no more headers are changed together: a limit of our own
abbrev pub chain_limit : ℕ
chain_limit = 8

-- the input would be sound if the headers at these offsets, at least one and not too many, stated other lengths
pub record WouldMend (padding : Bool) (octets : List ℕ) (d : Difference) (headers : List ℕ) : Type 0 where
  pub some : 0 < length headers
  pub few : length headers ≤ chain_limit
  pub changed : List ℕ
  pub are_moved : AreMoved d headers octets changed
  pub sound : IsSoundList (closed_framing padding) changed

-- ---- the headers that are tried

-- 8.1.4: the headers of definite length whose elements are open where these octets end, outermost first
pub record AreAround (padding : Bool) (octets : List ℕ) (headers : List ℕ) : Type 0 where
  pub reading : Forest
  pub is_reading : IsReading (closed_framing padding) octets reading
  pub headers_are : headers ≡ map element_offset (filter has_end (open_holders reading))

-- ---- the chain

-- these headers, whose lengths would have to be so much greater or smaller. The places that are left are 0
abbrev pub chain_of : Difference → List ℕ → Chain
chain_of d headers = record {
  offsets = headers ++ replicate (chain_limit - length headers) 0;
  count = length headers;
  by = d.by;
  is_greater = d.is_longer;
}

-- the headers around an offset, or these and the header there: the first of the two with which the input would be
-- sound, if any. Nothing is around an offset behind the end of the input
pub data IsChainAt (padding : Bool) (octets : List ℕ) (d : Difference) (offset : ℕ) : Option Chain → Type 0 where
  outside : length octets < offset → IsChainAt padding octets d offset None
  around : {headers : List ℕ} → offset ≤ length octets → AreAround padding (take offset octets) headers
      → WouldMend padding octets d headers → IsChainAt padding octets d offset (Some (chain_of d headers))
  with_header : {headers : List ℕ} → offset ≤ length octets → AreAround padding (take offset octets) headers
      → (WouldMend padding octets d headers → ⊥) → WouldMend padding octets d (headers ++ offset ∷ [])
      → IsChainAt padding octets d offset (Some (chain_of d (headers ++ offset ∷ [])))
  in_vain : {headers : List ℕ} → offset ≤ length octets → AreAround padding (take offset octets) headers
      → (WouldMend padding octets d headers → ⊥) → (WouldMend padding octets d (headers ++ offset ∷ []) → ⊥)
      → IsChainAt padding octets d offset None

-- the first chain at one of these offsets
pub data IsFirstChain (padding : Bool) (octets : List ℕ) (d : Difference) : List ℕ → Option Chain → Type 0 where
  no_more : IsFirstChain padding octets d [] None
  here : {offset : ℕ} {more : List ℕ} {c : Chain} → IsChainAt padding octets d offset (Some c)
      → IsFirstChain padding octets d (offset ∷ more) (Some c)
  later : {offset : ℕ} {more : List ℕ} {found : Option Chain} → IsChainAt padding octets d offset None
      → IsFirstChain padding octets d more found → IsFirstChain padding octets d (offset ∷ more) found

-- there is none if the input is not longer or shorter than its outermost element says
abbrev pub IsChainBy : Bool → List ℕ → Option Difference → List ℕ → Option Chain → Type 0
IsChainBy padding octets None candidates found = found ≡ None
IsChainBy padding octets (Some d) candidates found = IsFirstChain padding octets d candidates found

-- the chain in an input with these facts, if the input is searched
pub record IsChain (padding : Bool) (octets : List ℕ) (facts : Facts) (candidates : List ℕ) (found : Option Chain)
    : Type 0 where
  pub searched : length octets ≤ wide_limit
      → IsChainBy padding octets (size_difference octets facts) candidates found
  pub unsearched : wide_limit < length octets → found ≡ None
