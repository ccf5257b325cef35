-- One element further among elements that are gone over, or one octet of padding.
use Rattle.std.proofs.Common.{◌≡◌, ◌≢◌, ℕ, ◌+◌, ◌<◌, ◌≤◌, Bool, false, ◌&&◌, List, length, drop, get_or, arith, ap}
use Rattle.std.proofs.Common.{length-drop, subst}
use Rattle.tlv_open.specs.declared.extent.Extent.{Extent}
use Rattle.tlv_open.specs.declared.spot.Spot.{Spot}
use Rattle.tlv_open.specs.Private.Adds.{IsKept}
use Rattle.tlv_open.specs.Private.Elements.{SaysElement, place_at}
use Rattle.tlv_open.specs.Private.Finds.{AddsFirst, FoundStrings}
use Rattle.tlv_open.proofs.FinderLemmas.Found.{adds-first-at, adds-more, adds-padding}
use Rattle.tlv_open.proofs.FinderLemmas.Kept.{kept-then}
use Rattle.tlv_open.proofs.FinderLemmas.Sounds.{SaysSoFar, so_far-element, so_far-zero}

-- as far as the octets were gone over, what was found and whether all was sound
pub record GoneOver
    (s : Spot) (offset : ℕ) (ends : Bool) (octets : List ℕ) (old new : FoundStrings) (at : ℕ) (sound : Bool)
    : Type 0 where
  pub within : at ≤ length octets
  pub adds : AddsFirst s offset ends octets old new at
  pub far : SaysSoFar s offset ends octets at sound
  pub kept : IsKept old new

module _ (s : Spot) (offset : ℕ) (ends : Bool) (octets : List ℕ) (old mid : FoundStrings) (at : ℕ) (sound : Bool)
    (less : at < length octets) (before : GoneOver s offset ends octets old mid at sound) where
  pub gone-element : (e : Extent) (new : FoundStrings) (rest : List ℕ) → rest ≡ drop at octets → get_or octets at 0 ≢ 0
      → e.size ≤ length rest → AddsFirst s (offset + at) ends rest mid new e.size
      → SaysElement (place_at (offset + at) s.depth) s.likely rest e → IsKept mid new
      → GoneOver s offset ends octets old new (at + e.size) (sound && e.sound)
  gone-element e new rest tail begun few adds says kept = record {
    within = omega (arith, few, ap length tail, length-drop at octets, less);
    adds =
        adds-more s offset ends octets old mid new at e.size less before.adds
        (adds-first-at _ _ _ _ _ _ _ _ tail adds);
    far =
        so_far-element s offset ends octets at sound less before.far e.size e.sound begun
        (subst (λ (o : List ℕ). SaysElement (place_at (offset + at) s.depth) s.likely o e) tail says);
    kept = kept-then _ _ _ before.kept kept;
  }

  pub gone-padding : get_or octets at 0 ≡ 0 → ends ≡ false
      → GoneOver s offset ends octets old mid (at + 1) (sound && s.padding)
  gone-padding zero none = record {
    within = omega (arith, less);
    adds = adds-padding s offset ends octets _ _ at less zero none before.adds;
    far = so_far-zero s offset ends octets at sound less before.far zero none;
    kept = before.kept;
  }
