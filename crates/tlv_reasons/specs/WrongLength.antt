-- Which single length, changed, would mend an input: X.690 8.1.3.
use Rattle.std.specs.Prelude.{◌≡◌, ℕ, ◌+◌, ◌-◌, ◌*◌, ◌/◌, ◌%◌, ◌^◌, ◌<◌, ◌≤◌, Bool, ◌&&◌, false, eqb, min, nat_le, nat_lt}
use Rattle.std.specs.Prelude.{if◌then◌else◌, List, [], ◌∷◌, ◌++◌, length, take, drop, Option, Some, None, zero, suc}
use Rattle.std.specs.List.{filter}
use Rattle.std.specs.Option.{option_map_or, unwrap_or}
use Rattle.tlv_head.specs.declared.header.Size.TheVariants.{Definite}
use Rattle.tlv_head.specs.Header.{HeaderValue, announced_length, definite_length, octets_of}
use Rattle.tlv_head.specs.Refusal.{BeginsWith}
use Rattle.tlv_walk.specs.declared.framing.Framing.{Framing}
use Rattle.tlv_reasons.specs.declared.element.Element.{Element}
use Rattle.tlv_reasons.specs.declared.lengths.WrongLength.{WrongLength}
use Rattle.tlv_reasons.specs.declared.bounds.Bounds.{Bounds}
use Rattle.tlv_reasons.specs.FirstOf.{IsFirstOf}
use Rattle.tlv_reasons.specs.Mended.{IsMended}

-- inputs of more octets are not searched: a limit of our own
abbrev pub search_limit : ℕ
search_limit = 2 ^ 20

-- the lengths at the distance `by` from this one: the greater, and the smaller, if it is not below 0
abbrev pub lengths_at_distance : ℕ → ℕ → List ℕ
lengths_at_distance said by = (said + by) ∷ (if nat_le by said then (said - by) ∷ [] else [])

-- the lengths at distances from 1 to the second argument, nearer ones first
abbrev pub lengths_within : ℕ → ℕ → List ℕ
lengths_within said zero = []
lengths_within said (suc k) = lengths_within said k ++ lengths_at_distance said (k + 1)

-- 8.1.3.4, 8.1.3.5: `count` length octets can state the lengths below this number: 128 in the short form, and 256^n in
-- a long form in which n octets follow the first
abbrev pub length_bound : ℕ → ℕ
length_bound count = if eqb count 1 then 128 else 256 ^ (count - 1)

-- 8.1.1.3: where the contents of the element with this header begin
abbrev pub contents_start : HeaderValue → ℕ
contents_start h = h.offset + length (octets_of h)

-- ---- the lengths that are tried

-- the number that differs from this one in the bit of value 2^bit
abbrev pub flipped : ℕ → ℕ → ℕ
flipped said bit = if eqb ((said / 2 ^ bit) % 2) 0 then said + 2 ^ bit else said - 2 ^ bit

-- the numbers that differ from this one in one bit, for so many bits, the lowest first
abbrev pub flips : ℕ → ℕ → List ℕ
flips said zero = []
flips said (suc k) = flips said k ++ flipped said k ∷ []

-- the number of so many octets, taken from the least significant octet of n on, after those of `front`
abbrev pub reversed : ℕ → ℕ → ℕ → ℕ
reversed zero n front = front
reversed (suc k) n front = reversed k (n / 256) (front * 256 + n % 256)

-- 8.1.3.5: the length with its octets in reverse order, in the long form with two to five octets after the first
abbrev pub reversed_lengths : ℕ → ℕ → List ℕ
reversed_lengths count said =
    if nat_le 3 count && nat_le count 6 then reversed (count - 1) said 0 ∷ [] else []

-- the length with which an element ends at the offset `reach`, if it is constructed; its contents begin at `start`
abbrev pub ending_lengths : Bool → ℕ → ℕ → List ℕ
ending_lengths constructed start reach =
    if constructed && nat_le start reach then (reach - start) ∷ [] else []

-- the lengths that are tried in a search, wide or not, for a header with `count` length octets, contents from `start`
-- on, and `reach` as the offset at which it should end. If the search is not wide, only lengths nearby are
abbrev pub tried_lengths : ℕ → Bool → ℕ → Bool → ℕ → ℕ → List ℕ
tried_lengths count constructed start wide reach said =
    if wide
    then
    (((lengths_within said 5 ++ flips said 40) ++ reversed_lengths count said) ++ lengths_at_distance said 256)
    ++ ending_lengths constructed start reach
    else lengths_within said 5

-- the other lengths that a header could state in as many octets, in the order in which they are tried
abbrev pub other_lengths : HeaderValue → Bool → ℕ → List ℕ
other_lengths h wide reach =
    filter (λ n. nat_lt n (length_bound (length h.length_octets)))
    (option_map_or
    (λ said. tried_lengths (length h.length_octets) h.constructed (contents_start h) wide reach said)
    (definite_length h.size) [])

-- ---- a header that states another length

-- 8.1.3.5: octets, as many as the first argument says, that state n in base 256, the most significant first
abbrev pub base_256 : ℕ → ℕ → List ℕ
base_256 zero n = []
base_256 (suc k) n = base_256 k (n / 256) ++ (n % 256) ∷ []

-- 8.1.3.4, 8.1.3.5: as many length octets as these, in the same form, that state n
abbrev pub length_octets_saying : ℕ → List ℕ → List ℕ
length_octets_saying n [] = []
length_octets_saying n (x ∷ []) = n ∷ []
length_octets_saying n (x ∷ y ∷ more) = x ∷ base_256 (length more + 1) n

-- the header that states another length in as many octets
abbrev pub with_length : HeaderValue → ℕ → HeaderValue
with_length h n = record h { size = Definite n; length_octets = length_octets_saying n h.length_octets }

-- the input with that header in place of this one
abbrev pub input_with_length : List ℕ → HeaderValue → ℕ → List ℕ
input_with_length octets h n =
    take h.offset octets ++ (octets_of (with_length h n) ++ drop (h.offset + length (octets_of h)) octets)

-- the input would be mended if the header stated that length
abbrev pub WouldBeMended : Framing → Bounds → List ℕ → HeaderValue → ℕ → Type 0
WouldBeMended framing bounds octets h n = IsMended framing bounds (input_with_length octets h n)

-- where an element at this offset should end, among these open elements, outermost first: where the innermost of
-- definite length that begins in front of it ends; or at `reach` if there is none
abbrev pub nearer_reach : Element → ℕ → ℕ → ℕ
nearer_reach e offset reach = if nat_lt e.offset offset then unwrap_or e.end reach else reach

abbrev pub reach_of : List Element → ℕ → ℕ → ℕ
reach_of [] offset reach = reach
reach_of (e ∷ holders) offset reach = reach_of holders offset (nearer_reach e offset reach)

-- the same in an input of so many octets, behind whose end nothing ends
abbrev pub reach_in : List Element → ℕ → ℕ → ℕ
reach_in holders offset size = min size (reach_of holders offset size)

-- with this length of the header at the offset `offset`, and none before it, the input would be mended. `holders` are
-- the open elements
abbrev pub IsRightLength : Framing → Bounds → List ℕ → List Element → ℕ → HeaderValue → Option ℕ → Type 0
IsRightLength framing bounds octets holders offset h found =
    IsFirstOf (WouldBeMended framing bounds octets h)
    (other_lengths h bounds.wide (reach_in holders offset (length octets))) found

-- this is what the header at the offset `offset` says, and what it should say
pub record IsOtherLength (framing : Framing) (bounds : Bounds) (octets : List ℕ) (holders : List Element) (offset : ℕ)
    (w : WrongLength) : Type 0 where
  pub header : HeaderValue
  pub begins : BeginsWith (drop offset octets) offset false header
  pub right : IsRightLength framing bounds octets holders offset header (Some w.would)
  pub offset_is : w.offset ≡ offset
  pub said_is : w.said ≡ announced_length header.size

-- there is no header at this offset, or none of its other lengths would mend the input
abbrev pub HasNoOtherLength : Framing → Bounds → List ℕ → List Element → ℕ → Type 0
HasNoOtherLength framing bounds octets holders offset =
    (h : HeaderValue) → BeginsWith (drop offset octets) offset false h
    → IsRightLength framing bounds octets holders offset h None

-- the headers at these offsets for which another length would mend the input, each with the first such length:
-- as many of them as the number says, in order
pub data AreWrongLengths (framing : Framing) (bounds : Bounds) (octets : List ℕ) (holders : List Element)
    : ℕ → List ℕ → List WrongLength → Type 0 where
  no_more : {most : ℕ} → AreWrongLengths framing bounds octets holders most [] []
  enough : {candidates : List ℕ} → AreWrongLengths framing bounds octets holders 0 candidates []
  named : {most offset : ℕ} {more : List ℕ} {w : WrongLength} {found : List WrongLength} → 0 < most
      → IsOtherLength framing bounds octets holders offset w
      → AreWrongLengths framing bounds octets holders (most - 1) more found
      → AreWrongLengths framing bounds octets holders most (offset ∷ more) (w ∷ found)
  passed_over : {most offset : ℕ} {more : List ℕ} {found : List WrongLength} → 0 < most
      → HasNoOtherLength framing bounds octets holders offset
      → AreWrongLengths framing bounds octets holders most more found
      → AreWrongLengths framing bounds octets holders most (offset ∷ more) found

-- so many headers are named at most: three, or one if only lengths nearby are tried
abbrev pub most_named : Bool → ℕ
most_named wide = if wide then 3 else 1

-- which of the headers at these offsets may have a wrong length, if the input is searched
pub record NamesLengths (framing : Framing) (bounds : Bounds) (octets : List ℕ) (holders : List Element)
    (candidates : List ℕ) (found : List WrongLength) : Type 0 where
  pub searched : length octets ≤ search_limit
      → AreWrongLengths framing bounds octets holders (most_named bounds.wide) candidates found
  pub unsearched : search_limit < length octets → found ≡ []
