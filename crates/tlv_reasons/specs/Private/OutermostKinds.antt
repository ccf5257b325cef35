-- What is counted of outermost elements, one after another.
use Rattle.std.specs.Prelude.{◌≡◌, ◌<◌, ◌≤◌, ◌+◌, ◌++◌, ◌&&◌, ℕ, Bool, not, nat_le, nat_lt, if◌then◌else◌, List, [], ◌∷◌, length}
use Rattle.std.specs.Prelude.{Option, Some, None}
use Rattle.tlv_head.specs.Header.{HeaderValue}
use Rattle.tlv_reasons.specs.declared.element_kinds.Counts.{Counts}
use Rattle.tlv_reasons.specs.declared.element_kinds.Next.{Next}
use Rattle.tlv_reasons.specs.declared.element_kinds.Next.TheVariants as following
use Rattle.tlv_reasons.specs.declared.element_kinds.OutermostKinds.{OutermostKinds}
use Rattle.tlv_reasons.specs.OutermostKinds.{AreOutermost}
use Rattle.tlv_reasons.specs.Suspects.{unless_seen}

-- an element with this header begins at the offset and ends at that one, and the others follow
pub record IsElementUpTo (padding : Bool) (octets : List ℕ) (offset end : ℕ) (primitive : Bool) : Type 0 where
  pub header : HeaderValue
  pub offset_is : header.offset ≡ offset
  pub primitive_is : primitive ≡ not header.constructed
  pub further : offset < end
  pub within : end ≤ length octets
  pub on : (more : List HeaderValue) → AreOutermost padding octets end more
      → AreOutermost padding octets offset (header ∷ more)
  pub back : (all : List HeaderValue) → AreOutermost padding octets offset all
      → (more : List HeaderValue) × AreOutermost padding octets end more × (all ≡ header ∷ more)

-- what comes next from this offset on
abbrev pub IsNext : Bool → List ℕ → ℕ → Option Next → Type 0
IsNext padding octets offset None =
    (headers : List HeaderValue) → AreOutermost padding octets offset headers → ⊥
IsNext padding octets offset (Some following.Padding) =
    ((more : List HeaderValue) → AreOutermost padding octets (offset + 1) more → AreOutermost padding octets offset more)
    × ((all : List HeaderValue) → AreOutermost padding octets offset all
    → AreOutermost padding octets (offset + 1) all)
IsNext padding octets offset (Some (following.Element end primitive)) =
    IsElementUpTo padding octets offset end primitive

-- no elements are counted
abbrev pub new_counts : Counts
new_counts = record { elements = 0; primitives = 0; firsts = record { items = [] } }

-- one more is counted, which begins with this octet
abbrev pub counting_element : ℕ → Bool → Counts → Counts
counting_element first primitive c = record {
  elements = c.elements + 1;
  primitives = if primitive then c.primitives + 1 else c.primitives;
  firsts = record { items = c.firsts.items ++ unless_seen c.firsts.items first };
}

-- what was counted, if the elements begin with many different octets
abbrev pub kinds_counted : Counts → Option OutermostKinds
kinds_counted c =
    if nat_le 3 (length c.firsts.items) && nat_lt (length c.firsts.items) 64
    then Some (record { elements = c.elements; kinds = length c.firsts.items; primitives = c.primitives })
    else None
