-- A block of octets that stands twice.
use Rattle.std.specs.Prelude.{◌≡◌, ℕ, ◌+◌, ◌-◌, ◌*◌, ◌<◌, ◌≤◌, Bool, true, false, ◌&&◌, nat_eq, nat_le, if◌then◌else◌}
use Rattle.std.specs.Prelude.{List, ◌++◌, length, take, drop, Option, Some, None}
use Rattle.std.specs.Option.{option_map}
use Rattle.std.specs.Cmp.Lexicographic.{pointwise}
use Rattle.tlv_open.specs.Opens.{closed_framing}
use Rattle.tlv_walk.specs.Reading.{IsSoundList}
use Rattle.tlv_reasons.specs.Sizes.{size_difference}
use Rattle.tlv_reasons.specs.Mended.{wide_limit}
use Rattle.tlv_reasons.specs.declared.doubled.Doubled.{Doubled}
use Rattle.tlv_reasons.specs.declared.facts.Facts.{Facts}
use Rattle.tlv_reasons.specs.declared.sizes.Difference.{Difference}

-- the octets begin with a block of so many octets and the same block again
abbrev pub begins_twice : ℕ → List ℕ → Bool
begins_twice size octets =
    nat_le (2 * size) (length octets) && pointwise nat_eq (take size octets) (take size (drop size octets))

-- the input would be sound without so many octets from this offset on
abbrev pub IsSoundWithout : Bool → List ℕ → ℕ → ℕ → Type 0
IsSoundWithout padding octets size at =
    IsSoundList (closed_framing padding) (take at octets ++ drop (at + size) octets)

-- the first offset, from `at` on, at which a block of this size stands twice, and without which the input would be sound.
-- So many offsets at which it stands twice are tried
pub data IsFirstDoubled (padding : Bool) (octets : List ℕ) (size : ℕ) : ℕ → ℕ → Option ℕ → Type 0 where
  no_more : {tries at : ℕ} → length octets ≤ at → IsFirstDoubled padding octets size tries at None
  all_tried : {at : ℕ} → IsFirstDoubled padding octets size 0 at None
  elsewhere : {tries at : ℕ} {found : Option ℕ} → begins_twice size (drop at octets) ≡ false
      → IsFirstDoubled padding octets size tries (at + 1) found → IsFirstDoubled padding octets size tries at found
  tried_well : {tries at : ℕ} → 0 < tries → begins_twice size (drop at octets) ≡ true
      → IsSoundWithout padding octets size at → IsFirstDoubled padding octets size tries at (Some at)
  tried_in_vain : {tries at : ℕ} {found : Option ℕ} → 0 < tries → begins_twice size (drop at octets) ≡ true
      → (IsSoundWithout padding octets size at → ⊥) → IsFirstDoubled padding octets size (tries - 1) (at + 1) found
      → IsFirstDoubled padding octets size tries at found

-- how many octets a block has that would explain this difference: the input is longer, by two octets at least
abbrev pub block_size : Option Difference → Option ℕ
block_size None = None
block_size (Some d) = if d.is_longer && nat_le 2 d.by then Some d.by else None

-- so many offsets are tried: a limit of our own
abbrev pub block_tries : ℕ
block_tries = 16

-- a block of this size at this offset
abbrev pub block_at : ℕ → ℕ → Doubled
block_at size at = record { offset = at; size = size }

pub data IsDoubledBy (padding : Bool) (octets : List ℕ) : Option ℕ → Option Doubled → Type 0 where
  no_size : IsDoubledBy padding octets None None
  not_searched : {size : ℕ} → wide_limit < length octets → IsDoubledBy padding octets (Some size) None
  searched : {size : ℕ} {found : Option ℕ} → length octets ≤ wide_limit
      → IsFirstDoubled padding octets size block_tries 0 found
      → IsDoubledBy padding octets (Some size) (option_map (block_at size) found)

-- the block that stands twice, if the input is longer by one block than its outermost open element says
abbrev pub IsDoubled : Bool → List ℕ → Facts → Option Doubled → Type 0
IsDoubled padding octets facts found = IsDoubledBy padding octets (block_size (size_difference octets facts)) found
