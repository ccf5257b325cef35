-- Elements alike whose headers are as short as they can be, and whose lengths are of one form, have one spelling.
use Rattle.std.proofs.Common.{◌≡◌, ℕ, ◌+◌, Bool, List, ◌∷◌, ◌++◌, length, refl, sym, ap, ap₂, ◌∙◌}
use Rattle.tlv_head.specs.declared.header.Size.{Size}
use Rattle.tlv_head.specs.declared.header.Size.TheVariants.{Definite, Indefinite}
use Rattle.tlv_head.specs.Header.{HeaderValue, IsHeader, octets_of}
use Rattle.tlv_head.specs.ShortestHeaders.{HaveOneTagAndForm, IsShortest}
use Rattle.tlv_head.proofs.ShortestLemmas.OneShortest.{shortest_are_one}
use Rattle.tlv_walk.specs.AlikeElements.{AreAlike, holders, nothing, padding, primitives}
use Rattle.tlv_walk.specs.Forest.{Forest, Holder, NoMore, OpenBitString, OpenEndOctets, OpenHeader, OpenHolder}
use Rattle.tlv_walk.specs.Forest.{OpenPrimitive, PaddingOctet, Primitive, contents_length, end_octets, holder_extent, lead}
use Rattle.tlv_walk.specs.Forest.{opening, spelling}
use Rattle.tlv_walk.specs.Place.{Place, is_indefinite, place_after, place_of_children}
use Rattle.tlv_walk.proofs.GrammarLemmas.Lengths.{HasLength}
use Rattle.tlv_walk.specs.Reading.{IsSound}

-- a header as short as it can be, whose length is indefinite or not as the form of the element says
pub record IsRegular (form : Bool → Bool) (h : HeaderValue) : Type 0 where
  pub shortest : IsShortest h
  pub by_form : is_indefinite h.size ≡ form h.constructed

-- each header of the elements is
abbrev pub AreRegular : (Bool → Bool) → Forest → Type 0
AreRegular form NoMore = Unit {0}
AreRegular form (PaddingOctet rest) = AreRegular form rest
AreRegular form (Primitive h c rest) = IsRegular form h × AreRegular form rest
AreRegular form (Holder h inside rest) = IsRegular form h × AreRegular form inside × AreRegular form rest
AreRegular form (OpenPrimitive h c) = IsRegular form h
AreRegular form (OpenHolder h inside) = IsRegular form h × AreRegular form inside
AreRegular form (OpenBitString h) = IsRegular form h
AreRegular form (OpenHeader octets) = Unit {0}
AreRegular form OpenEndOctets = Unit {0}

-- lengths of one form that are those of as many contents octets
same-size : (s t : Size) (m : ℕ) → is_indefinite s ≡ is_indefinite t → HasLength s m → HasLength t m → s ≡ t
same-size (Definite a) (Definite b) m e u v = ap Definite (sym u ∙ v)
same-size (Definite a) Indefinite m e u v = absurd (cc (e))
same-size Indefinite (Definite b) m e u v = absurd (cc (e))
same-size Indefinite Indefinite m e u v = refl

same-octets : (h k : HeaderValue) → IsHeader h → IsHeader k → HaveOneTagAndForm h k → h.size ≡ k.size → IsShortest h
    → IsShortest k → octets_of h ≡ octets_of k
same-octets h k u v tag size s t =
    let both : (h.identifier_octets ≡ k.identifier_octets) × (h.length_octets ≡ k.length_octets) = shortest_are_one h k u v tag size s t in
    ap₂ (λ (a b : List ℕ). a ++ b) both.0 both.1

same-lead : (h k : HeaderValue) → HaveOneTagAndForm h k → lead h ≡ lead k
same-lead h k tag = rw (tag.constructed, tag.number) refl

same-form : (form : Bool → Bool) (h k : HeaderValue) → HaveOneTagAndForm h k → IsRegular form h → IsRegular form k
    → is_indefinite h.size ≡ is_indefinite k.size
same-form form h k tag r s = r.by_form ∙ ap form tag.constructed ∙ sym s.by_form

module _ (form : Bool → Bool) where
  pub one_spelling : (p q : Place) (f g : Forest) → AreAlike f g → IsSound p f → IsSound q g → AreRegular form f
      → AreRegular form g → spelling f ≡ spelling g
  one_spelling p q f g nothing u v r s = refl
  one_spelling p q f g (padding a b rest) u v r s =
      ap (λ (l : List ℕ). 0 ∷ l) (one_spelling (place_after p 1) (place_after q 1) a b rest u.1 v.1 r s)
  one_spelling p q f g (primitives h k c a b tag rest) u v r s =
      let size : h.size ≡ k.size = u.0.2 ∙ sym v.0.2 in
      let header : octets_of h ≡ octets_of k =
      same-octets h k u.0.0.valid v.0.0.valid tag size r.0.shortest s.0.shortest in
      let others : spelling a ≡ spelling b =
      one_spelling (place_after p (length (octets_of h) + length c)) (place_after q (length (octets_of k) + length c))
      a b rest u.1 v.1 r.1 s.1 in
      ap₂ (λ (x y : List ℕ). x ++ (c ++ y)) header others
  one_spelling p q f g (holders h k inside within a b tag held rest) u v r s =
      let contents : spelling inside ≡ spelling within =
      one_spelling (place_of_children p h) (place_of_children q k) inside within held u.1 v.1 r.1 s.1 in
      let others : spelling a ≡ spelling b =
      one_spelling (place_after p (holder_extent h inside)) (place_after q (holder_extent k within)) a b rest u.2 v.2 r.2 s.2 in
      let count : contents_length h inside ≡ contents_length k within =
      ap₂ (λ (x y : List ℕ). length x + length y) (same-lead h k tag) contents in
      let size : h.size ≡ k.size =
      same-size h.size k.size (contents_length h inside) (same-form form h k tag r.0 s.0) u.0.3 (rw count v.0.3) in
      let header : octets_of h ≡ octets_of k =
      same-octets h k u.0.0.valid v.0.0.valid tag size r.0.shortest s.0.shortest in
      let begins : opening h ≡ opening k = ap₂ (λ (x y : List ℕ). x ++ y) header (same-lead h k tag) in
      let ends : end_octets h.size ++ spelling a ≡ end_octets k.size ++ spelling b =
      ap₂ (λ (z : Size) (y : List ℕ). end_octets z ++ y) size others in
      ap₂ (λ (x y : List ℕ). x ++ y) begins (ap₂ (λ (x y : List ℕ). x ++ y) contents ends)
