-- What is added to what was found before, and whether the octets are sound.
use Rattle.std.specs.Prelude.{◌≡◌, ℕ, ◌+◌, ◌<◌, ◌≤◌, Bool, true, false, List, [], ◌∷◌, length, take, drop, None}
use Rattle.tlv_head.specs.declared.header.HeaderFields.{HeaderFields}
use Rattle.tlv_head.specs.Header.{announced_length}
use Rattle.tlv_head.specs.HeaderFields.{new_header}
use Rattle.tlv_head.specs.ReadHeader.{BeginsWithFields}
use Rattle.tlv_walk.specs.Place.{Place}
use Rattle.tlv_open.specs.declared.extent.Extent.{Extent}
use Rattle.tlv_open.specs.declared.spot.Spot.{Spot}
use Rattle.tlv_open.specs.Held.{inner_octets}
use Rattle.tlv_open.specs.Private.Elements.{BeginsWithElements, BeginsWithNoElements, SaysElement, place_at}
use Rattle.tlv_open.specs.Private.Finds.{AddsAll, AddsFirst, AddsPrimitive, FoundStrings, found_in_turn, spot_held}

-- what was found before is still there
pub record IsKept (old new : FoundStrings) : Type 0 where
  pub more : FoundStrings
  pub added : new ≡ found_in_turn old more

-- the place of the elements at a spot, `offset` octets further on
abbrev pub place_among : Spot → ℕ → Place
place_among s offset = record (place_at offset s.depth) { padding = s.padding }

-- an extent says whether the octets begin with sound elements, and their size in octets; where padding is allowed, an
-- extent that is not sound says nothing
pub record SaysSound (s : Spot) (offset : ℕ) (end_octets : Bool) (octets : List ℕ) (e : Extent) : Type 0 where
  pub sound : e.sound ≡ true → BeginsWithElements (place_among s offset) s.likely end_octets octets e.size
  pub unsound : s.padding ≡ false → e.sound ≡ false
      → BeginsWithNoElements (place_at offset s.depth) s.likely end_octets octets

-- what is found in the elements that the octets begin with is added to what was found before, and the extent is the
-- extent of these elements
pub record AddsElements
    (s : Spot) (offset : ℕ) (end_octets : Bool) (octets : List ℕ) (old new : FoundStrings) (e : Extent)
    : Type 0 where
  pub adds : AddsAll s offset end_octets octets old new e.size
  pub sound : SaysSound s offset end_octets octets e
  pub kept : IsKept old new
  pub within : e.size ≤ length octets

-- the same for the first element alone
pub record AddsElement
    (s : Spot) (offset : ℕ) (end_octets : Bool) (octets : List ℕ) (old new : FoundStrings) (e : Extent)
    : Type 0 where
  pub adds : AddsFirst s offset end_octets octets old new e.size
  pub sound : SaysElement (place_at offset s.depth) s.likely octets e
  pub kept : IsKept old new
  pub some : 0 < e.size
  pub within : e.size ≤ length octets

-- the octets begin with a header that has these fields and `count` octets. The element is a primitive of n octets
-- that is neither an OCTET STRING nor a BIT STRING, and nothing more is asked
pub record IsPlain (octets : List ℕ) (fields : HeaderFields) (count : ℕ) (likely : Bool) (n : ℕ) : Type 0 where
  pub unasked : likely ≡ false
  pub primitive : fields.constructed ≡ false
  pub announced : ℕ
  pub announced_is : announced ≡ announced_length fields.size
  pub within : announced ≤ length (drop count octets)
  pub size : n ≡ count + announced
  pub no_string : (contents : List ℕ) → inner_octets (new_header fields (take count octets)) contents ≡ None

-- the octets are a header and as many further octets as it announces
pub record IsAllOfPrimitive (octets : List ℕ) (offset : ℕ) : Type 0 where
  pub fields : HeaderFields
  pub count : ℕ
  pub begins : BeginsWithFields octets offset false fields count
  pub whole : announced_length fields.size ≡ length (drop count octets)

-- what is found in the primitive that these octets encode is added, whatever its header
abbrev pub AddsAt : Spot → Bool → List ℕ → ℕ → FoundStrings → FoundStrings → Type 0
AddsAt s is_value octets offset old new = (fields : HeaderFields) (count : ℕ)
    → BeginsWithFields octets offset false fields count → fields.constructed ≡ false
    → AddsPrimitive s is_value (new_header fields (take count octets)) (drop count octets) old new

-- a string at this offset, and what is found in its octets, which begin at `start`, is added
pub record AddsHeld (s : Spot) (start offset : ℕ) (octets : List ℕ) (old new : FoundStrings) : Type 0 where
  pub size : ℕ
  pub adds : AddsAll (spot_held s start) 0 false octets
      (found_in_turn old (record { opened = offset ∷ []; broken = [] })) new size

-- the same if the octets are encodings; otherwise nothing is added
abbrev pub Tries : Spot → ℕ → ℕ → List ℕ → FoundStrings → FoundStrings → Bool → Type 0
Tries s start offset octets old new true = AddsHeld s start offset octets old new
Tries s start offset octets old new false = new ≡ old
