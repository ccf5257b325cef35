-- Primitives in which no strings are.
use Rattle.std.proofs.Common.{◌≡◌, ◌↔◌, ℕ, ◌+◌, ◌≤◌, Bool, IsTrue, length, true, false, ◌&&◌, ◌||◌, List, take, drop}
use Rattle.std.proofs.Common.{Option, None, Some}
use Rattle.std.proofs.Common.{if◌then◌else◌, refl, sym, subst, ◌∙◌}
use Rattle.tlv_head.specs.declared.header.HeaderFields.{HeaderFields}
use Rattle.tlv_head.specs.Header.{HeaderValue, announced_length}
use Rattle.tlv_head.specs.HeaderFields.{new_header}
use Rattle.tlv_head.specs.ReadHeader.{BeginsWithFields}
use Rattle.tlv_head.specs.UniversalTypes as universal
use Rattle.tlv_value.specs.Types.{is_a}
use Rattle.tlv_open.specs.declared.spot.Spot.{Spot}
use Rattle.tlv_open.specs.Held.{IsClearPrimitive, after_unused_bits, inner_octets}
use Rattle.tlv_open.specs.Private.Adds.{IsPlain}
use Rattle.tlv_open.specs.Private.Elements.{BeginsWithElement, SaysElement, is_elements_end, place_at}
use Rattle.tlv_open.specs.Private.Finds.{AddsFirst, FoundStrings}
use Rattle.tlv_open.proofs.ElementLemmas.Extents.{says-primitive}
use Rattle.tlv_open.proofs.FinderLemmas.FirstFound.{adds-primitive}
use Rattle.tlv_open.proofs.FinderLemmas.Strings.{adds-no_octets, begins-taken, clear-taken}

-- what is no OCTET STRING and no BIT STRING holds nothing
pub no-inner : (h : HeaderValue) (contents : List ℕ)
    → (is_a universal.octet_string h || is_a universal.bit_string h) ≡ false → inner_octets h contents ≡ None
no-inner h contents e =
    neither (is_a universal.octet_string h) (is_a universal.bit_string h) (Some contents) (after_unused_bits contents) e
  where
    neither : (a b : Bool) (x y : Option (List ℕ)) → (a || b) ≡ false
        → (if a then x else (if b then y else None)) ≡ None
    neither true b x y t = absurd (cc (t))
    neither false true x y t = absurd (cc (t))
    neither false false x y t = refl

module _ (octets : List ℕ) (offset : ℕ) (f : HeaderFields) (count n : ℕ)
    (b : BeginsWithFields octets offset false f count) where
  pub adds-plain : (w : Spot) (ends : Bool) (old : FoundStrings) → IsPlain octets f count w.likely n
      → AddsFirst w offset ends octets old old n
  adds-plain w ends old p =
      subst (λ (k : ℕ). AddsFirst w offset ends octets old old k) (sym p.size)
      (adds-primitive octets offset f count b w old old p.announced
      (w.in_extension && is_elements_end ends (drop (count + p.announced) octets)) ends p.primitive p.announced_is
      p.within refl
      (adds-no_octets w (w.in_extension && is_elements_end ends (drop (count + p.announced) octets))
      (new_header f (take count octets)) (take p.announced (drop count octets)) old
      (p.no_string (take p.announced (drop count octets)))))

  pub plain-sound : (depth : ℕ) (likely : Bool) → IsPlain octets f count likely n
      → BeginsWithElement (place_at offset depth) likely octets n
  plain-sound depth likely p =
      subst (λ (k : ℕ). BeginsWithElement (place_at offset depth) likely octets k) (sym p.size)
      (says-primitive octets offset depth likely f count b p.announced true p.primitive p.announced_is
      p.within (λ t. refl) (λ t. let u : true ≡ false = sym t ∙ p.unasked in absurd (cc (u))))

-- a primitive that may have to be likely, by its octets alone
pub says-alone : (octets : List ℕ) (offset depth : ℕ) (likely : Bool) (f : HeaderFields) (count m : ℕ) (clear : Bool)
    → BeginsWithFields octets offset false f count → f.constructed ≡ false → m ≡ announced_length f.size
    → m ≤ length (drop count octets) → count + m ≤ length octets → (likely ≡ false → clear ≡ true)
    → (likely ≡ true → (g : HeaderFields) (k : ℕ) → BeginsWithFields (take (count + m) octets) offset false g k
    → IsTrue clear
    ↔ IsClearPrimitive (new_header g (take k (take (count + m) octets))) (drop k (take (count + m) octets)))
    → SaysElement (place_at offset depth) likely octets (record { size = count + m; sound = clear })
says-alone octets offset depth likely f count m clear b primitive all few within unasked asked =
    says-primitive octets offset depth likely f count b m clear primitive all few unasked
    (λ l. clear-taken octets f count m clear (asked l f count (begins-taken octets offset f count m b within)))
