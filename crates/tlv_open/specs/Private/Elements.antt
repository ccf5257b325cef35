-- Sound elements that octets begin with.
use Rattle.std.specs.Prelude.{◌≡◌, ℕ, Bool, true, false, eqb, ◌&&◌, List, [], ◌∷◌, ◌++◌, length}
use Rattle.tlv_walk.specs.Forest.{Forest, Holder, NoMore, Primitive, spelling}
use Rattle.tlv_walk.specs.Place.{Place}
use Rattle.tlv_walk.specs.Reading.{IsSound}
use Rattle.tlv_open.specs.declared.extent.Extent.{Extent}
use Rattle.tlv_open.specs.Held.{AreLikely, place_by_itself}

-- the place `offset` octets further on among elements that are read by themselves
abbrev pub place_at : ℕ → ℕ → Place
place_at offset depth = record (place_by_itself depth) { offset = offset }

-- one element, and nothing else
abbrev pub is_one_element : Forest → Bool
is_one_element (Primitive h contents NoMore) = true
is_one_element (Holder h children NoMore) = true
is_one_element f = false

-- if `likely`, the outermost elements are likely to be encodings
abbrev pub AreLikelyIf : Bool → Forest → Type 0
AreLikelyIf likely f = likely ≡ true → AreLikely f

-- the octets begin with a sound element of n octets
pub record BeginsWithElement (p : Place) (likely : Bool) (octets : List ℕ) (n : ℕ) : Type 0 where
  pub element : Forest
  pub is_one : is_one_element element ≡ true
  pub sound : IsSound p element
  pub probable : AreLikelyIf likely element
  pub rest : List ℕ
  pub spelled : spelling element ++ rest ≡ octets
  pub size : length (spelling element) ≡ n

-- the octets begin with no such element
abbrev pub BeginsWithNoElement : Place → Bool → List ℕ → Type 0
BeginsWithNoElement p likely octets = (n : ℕ) → BeginsWithElement p likely octets n → ⊥

-- 8.1.5: elements may end before these octets: before end-of-contents octets, or where there are no more octets
abbrev pub is_elements_end : Bool → List ℕ → Bool
is_elements_end true (x ∷ y ∷ more) = eqb x 0 && eqb y 0
is_elements_end true octets = false
is_elements_end false [] = true
is_elements_end false octets = false

-- the octets begin with sound elements of n octets in all, which end there
pub record BeginsWithElements (p : Place) (likely end_octets : Bool) (octets : List ℕ) (n : ℕ) : Type 0 where
  pub elements : Forest
  pub sound : IsSound p elements
  pub probable : AreLikelyIf likely elements
  pub rest : List ℕ
  pub end : is_elements_end end_octets rest ≡ true
  pub spelled : spelling elements ++ rest ≡ octets
  pub size : length (spelling elements) ≡ n

-- the octets begin with no such elements
abbrev pub BeginsWithNoElements : Place → Bool → Bool → List ℕ → Type 0
BeginsWithNoElements p likely end_octets octets = (n : ℕ) → BeginsWithElements p likely end_octets octets n → ⊥

-- the first if sound, otherwise the second
abbrev pub IfSound : Bool → Type 0 → Type 0 → Type 0
IfSound true this other = this
IfSound false this other = other

-- an extent says whether the octets begin with a sound element, and its size in octets
abbrev pub SaysElement : Place → Bool → List ℕ → Extent → Type 0
SaysElement p likely octets e =
    IfSound e.sound (BeginsWithElement p likely octets e.size) (BeginsWithNoElement p likely octets)
