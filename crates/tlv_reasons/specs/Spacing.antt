-- Encodings, between each two of which other octets stand: X.690 8.1.1.
use Rattle.std.specs.Prelude.{◌≡◌, ℕ, ◌+◌, ◌-◌, ◌≤◌, ◌<◌, Bool, false, true, eqb, List, length, take, drop, Option}
use Rattle.std.specs.Prelude.{Some, None, slice_index}
use Rattle.tlv_head.specs.Header.{HeaderValue, definite_length}
use Rattle.tlv_head.specs.Refusal.{BeginsWith}
use Rattle.tlv_open.specs.Opens.{closed_framing}
use Rattle.tlv_walk.specs.Reading.{IsSoundList}
use Rattle.tlv_reasons.specs.WrongLength.{contents_start}
use Rattle.tlv_reasons.specs.declared.spacing.Spacing.{Spacing}

-- by the header of a constructed element of definite length at this offset, the element ends at that one, in the input
pub record EndsAsStated (octets : List ℕ) (offset end : ℕ) : Type 0 where
  pub header : HeaderValue
  pub begins : BeginsWith (drop offset octets) offset false header
  pub constructed : header.constructed ≡ true
  pub contents : ℕ
  pub contents_are : definite_length header.size ≡ Some contents
  pub end_is : end ≡ contents_start header + contents
  pub within : end ≤ length octets

-- such an element stands from this offset up to that one, and parses by itself
pub record IsWholeFrom (octets : List ℕ) (offset end : ℕ) : Type 0 where
  pub stated : EndsAsStated octets offset end
  pub sound : IsSoundList (closed_framing false) (take (end - offset) (drop offset octets))

-- from this offset on so many such elements stand, with `gap` other octets between each two of them, and these, or
-- none, behind the last
pub data AreSpaced (gap : ℕ) (octets : List ℕ) : ℕ → ℕ → Type 0 where
  last : {offset end : ℕ} → IsWholeFrom octets offset end → end ≡ length octets → AreSpaced gap octets offset 1
  last_with_gap : {offset end : ℕ} → IsWholeFrom octets offset end → end + gap ≡ length octets
      → AreSpaced gap octets offset 1
  next : {offset end count : ℕ} → IsWholeFrom octets offset end → end + gap < length octets
      → AreSpaced gap octets (end + gap) count → AreSpaced gap octets offset (count + 1)

-- the octets at these two offsets are equal
abbrev pub are_alike : List ℕ → ℕ → ℕ → Bool
are_alike octets a b = eqb (slice_index octets a) (slice_index octets b)

-- two such elements or more, from this offset on. What stands behind the first does not begin as it does: that may be a
-- damaged record
pub record IsSpacedFrom (octets : List ℕ) (gap first : ℕ) (s : Spacing) : Type 0 where
  pub first_is : s.first ≡ first
  pub gap_is : s.gap ≡ gap
  pub end_is : IsWholeFrom octets first s.end
  pub apart : are_alike octets first s.end ≡ false
  pub are_spaced : AreSpaced gap octets first s.count
  pub many : 2 ≤ s.count

abbrev pub IsNotSpacedFrom : List ℕ → ℕ → ℕ → Type 0
IsNotSpacedFrom octets gap first = (s : Spacing) → IsSpacedFrom octets gap first s → ⊥

-- so many octets may stand between each two elements: a limit of our own
abbrev pub most_between : ℕ
most_between = 8

-- the fewest octets between each two elements, from `gap` on: as many may stand in front of the first element, or none,
-- which is tried first
pub data IsSpacingFrom (octets : List ℕ) : ℕ → Option Spacing → Type 0 where
  no_more : {gap : ℕ} → most_between < gap → IsSpacingFrom octets gap None
  behind_each : {gap : ℕ} {s : Spacing} → gap ≤ most_between → IsSpacedFrom octets gap 0 s
      → IsSpacingFrom octets gap (Some s)
  before_each : {gap : ℕ} {s : Spacing} → gap ≤ most_between → IsNotSpacedFrom octets gap 0
      → IsSpacedFrom octets gap gap s → IsSpacingFrom octets gap (Some s)
  wider : {gap : ℕ} {found : Option Spacing} → gap ≤ most_between → IsNotSpacedFrom octets gap 0
      → IsNotSpacedFrom octets gap gap → IsSpacingFrom octets (gap + 1) found → IsSpacingFrom octets gap found

-- how the encodings of the input are spaced. None if it is sound with octets 00 allowed at the top level: then these
-- stand between them
pub data IsSpacing (octets : List ℕ) : Option Spacing → Type 0 where
  padded : IsSoundList (closed_framing true) octets → IsSpacing octets None
  spaced : {found : Option Spacing} → (IsSoundList (closed_framing true) octets → ⊥) → IsSpacingFrom octets 1 found
      → IsSpacing octets found
