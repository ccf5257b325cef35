-- Octets begin with one header.
use Rattle.std.proofs.Common.{◌≡◌, ◌≢◌, ◌↔◌, ◌<◌, ℕ, suc, Bool, false, List, length, take, drop, get_or, drop-cons}
use Rattle.std.proofs.Common.{IsTrue, [], ◌∷◌, slice_index, refl, arith, sym, ap, ◌∙◌, subst}
use Rattle.std.proofs.lemmas.List.{length-take-le, take-append-drop}
use Rattle.tlv_head.specs.declared.header.HeaderFields.{HeaderFields}
use Rattle.tlv_head.specs.Header.{HeaderValue, announced_length, octets_of}
use Rattle.tlv_head.specs.HeaderFields.{new_header}
use Rattle.tlv_head.specs.ReadHeader.{BeginsWithFields}
use Rattle.tlv_head.specs.Refusal.{BeginsWithNoHeader}
use Rattle.tlv_head.proofs.GrammarLemmas.Headers.{one-header}
use Rattle.tlv_open.specs.Held.{IsClearPrimitive}
use Rattle.tlv_open.specs.Private.Adds.{AddsAt}
use Rattle.tlv_open.specs.Private.Finds.{AddsPrimitive, FoundStrings}
use Rattle.tlv_open.specs.declared.spot.Spot.{Spot}
use Rattle.tlv_open.proofs.ElementLemmas.OneElement.{zero-no_header}

-- if a header is there, it is not so that none is
pub header-there : (octets : List ℕ) (offset : ℕ) (f : HeaderFields) (n : ℕ) → BeginsWithFields octets offset false f n
    → BeginsWithNoHeader octets → ⊥
header-there octets offset f n a none =
    none (new_header f (take n octets)) a.begins.rest a.begins.valid a.begins.octets_are

-- and the first octet is not 00
pub begins-nonzero : (octets : List ℕ) (at offset : ℕ) (f : HeaderFields) (n : ℕ) → at < length octets
    → BeginsWithFields (drop at octets) offset false f n → get_or octets at 0 ≢ 0
begins-nonzero octets at offset f n less b z =
    zero-no_header (new_header f (take n (drop at octets))) (get_or octets at 0) b.begins.rest (drop (suc at) octets)
    b.begins.valid (sym b.begins.octets_are ∙ drop-cons octets at 0 less) z

module _ (octets : List ℕ) (offset : ℕ) (f g : HeaderFields) (n m : ℕ) (a : BeginsWithFields octets offset false f n)
    (b : BeginsWithFields octets offset false g m) where
  pub fields-one : new_header f (take n octets) ≡ new_header g (take m octets)
  fields-one =
      (one-header (new_header f (take n octets)) (new_header g (take m octets)) a.begins.rest b.begins.rest
      a.begins.valid
      b.begins.valid
      (λ t. record {
        offset = (a.begins.offset ∙ sym b.begins.offset) t;
        named = (a.begins.named ∙ sym b.begins.named) t;
      })
      (sym a.begins.octets_are ∙ b.begins.octets_are)).0

  count-of : (k : HeaderFields) (l : ℕ) → BeginsWithFields octets offset false k l
      → length (octets_of (new_header k (take l octets))) ≡ l
  count-of k l c = ap length (take-append-drop k.id_len (take l octets)) ∙ length-take-le l octets c.within

  pub counts-one : n ≡ m
  counts-one = sym (count-of f n a) ∙ (ap (λ (h : HeaderValue). length (octets_of h)) fields-one ∙ count-of g m b)

  sizes-one : f.size ≡ g.size
  sizes-one = ap (λ (h : HeaderValue). h.size) fields-one

  pub forms-one : f.constructed ≡ g.constructed
  forms-one = ap (λ (h : HeaderValue). h.constructed) fields-one

  -- what is so of one of them is so of the other
  pub whole-one : announced_length f.size ≡ length (drop n octets) → announced_length g.size ≡ length (drop m octets)
  whole-one e =
      sym (ap announced_length sizes-one) ∙ (e ∙ ap (λ (k : ℕ). length (drop k octets)) counts-one)

  pub clear-one : (k : Bool) → (IsTrue k ↔ IsClearPrimitive (new_header f (take n octets)) (drop n octets))
      → IsTrue k ↔ IsClearPrimitive (new_header g (take m octets)) (drop m octets)
  clear-one k e =
      subst (λ (h : HeaderValue). IsTrue k ↔ IsClearPrimitive h (drop m octets)) fields-one
      (subst (λ (l : ℕ). IsTrue k ↔ IsClearPrimitive (new_header f (take n octets)) (drop l octets)) counts-one e)

-- what is added for the header that is read again
pub adds-at : (s : Spot) (v : Bool) (octets : List ℕ) (offset : ℕ) (f : HeaderFields) (n : ℕ) (old new : FoundStrings)
    → BeginsWithFields octets offset false f n
    → (f.constructed ≡ false → AddsPrimitive s v (new_header f (take n octets)) (drop n octets) old new)
    → AddsAt s v octets offset old new
adds-at s v octets offset f n old new a e g m b c =
    subst (λ (h : HeaderValue). AddsPrimitive s v h (drop m octets) old new) (fields-one octets offset f g n m a b)
    (subst (λ (l : ℕ). AddsPrimitive s v (new_header f (take n octets)) (drop l octets) old new)
    (counts-one octets offset f g n m a b) (e (forms-one octets offset f g n m a b ∙ c)))

-- octets of which the first is not 0 are some
pub some-octets : (octets : List ℕ) → slice_index octets 0 ≢ 0 → 0 < length octets
some-octets [] begun = absurd (begun refl)
some-octets (x ∷ octets) begun = omega arith
