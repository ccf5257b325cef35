-- Whether octets are read as one primitive and nothing else.
use Rattle.std.proofs.Common.{◌≡◌, ◌≢◌, ◌⊎◌, inl, inr, ℕ, ◌<◌, ◌≤◌, Bool, true, false, ◌&&◌, eqb, List, [], ◌∷◌}
use Rattle.std.proofs.Common.{◌++◌, length, take, drop, refl, sym, ap, ap₂, ◌∙◌, arith, append_assoc}
use Rattle.std.proofs.Common.{length-append, eqb-true}
use Rattle.std.proofs.lemmas.Bool.{and_parts}
use Rattle.std.proofs.Math.Seq.{drop-append_seam}
use Rattle.tlv_head.specs.declared.header.HeaderFields.{HeaderFields}
use Rattle.tlv_head.specs.Header.{HeaderValue, IsHeader, announced_length, octets_of}
use Rattle.tlv_head.specs.HeaderFields.{new_header}
use Rattle.tlv_head.specs.ReadHeader.{BeginsWithFields}
use Rattle.tlv_walk.specs.Forest.{Forest, Holder, NoMore, OpenBitString, OpenEndOctets, OpenHeader, OpenHolder}
use Rattle.tlv_walk.specs.Forest.{OpenPrimitive, PaddingOctet, Primitive, end_octets, lead, opening, primitive_extent}
use Rattle.tlv_walk.specs.Forest.{spelling}
use Rattle.tlv_walk.specs.Place.{ObeysGrammar, Place, place_after}
use Rattle.tlv_open.specs.Opens.{is_one_primitive}
use Rattle.tlv_open.specs.Private.Elements.{is_elements_end}
use Rattle.tlv_open.specs.Private.Finds.{EndsBefore, IsReadAt}
use Rattle.tlv_open.proofs.ElementLemmas.OneElement.{end-no_header, regroup-3, regroup-4}
use Rattle.tlv_open.proofs.FinderLemmas.FirstRead.{IsReadFirst, first_holder, first_open_holder, first_open_primitive}
use Rattle.tlv_open.proofs.FinderLemmas.FirstRead.{first_primitive, first-read}
use Rattle.tlv_open.proofs.FinderLemmas.Found.{prefix-no_zero}

untrue : (b : Bool) → (b ≡ true → ⊥) → b ≡ false
untrue true n = absurd (n refl)
untrue false n = refl

-- elements do not end before a header
header-no_end : (ends : Bool) (h : HeaderValue) (r octets : List ℕ) → IsHeader h → octets_of h ++ r ≡ octets
    → is_elements_end ends octets ≡ false
header-no_end ends h r octets v e = untrue (is_elements_end ends octets) (λ t. end-no_header ends octets r h t v e)

prefix-no_end : (ends : Bool) (o rest : List ℕ) → o ≢ [] → ((more : List ℕ) → o ++ rest ≡ 0 ∷ more → ⊥)
    → is_elements_end ends (o ++ rest) ≡ false
prefix-no_end ends [] rest some n = absurd (some refl)
prefix-no_end false (x ∷ o) rest some n = refl
prefix-no_end true (x ∷ []) [] some n = refl
prefix-no_end true (x ∷ []) (y ∷ rest) some n = untrue _ (λ t.
    n (y ∷ rest) (ap (λ (z : ℕ). z ∷ (y ∷ rest)) (eqb-true x 0 (and_parts (eqb x 0) (eqb y 0) t).0)))
prefix-no_end true (x ∷ (y ∷ o)) rest some n = untrue _ (λ t.
    n (y ∷ (o ++ rest)) (ap (λ (z : ℕ). z ∷ (y ∷ (o ++ rest))) (eqb-true x 0 (and_parts (eqb x 0) (eqb y 0) t).0)))

zero-no_end : (ends : Bool) (rest : List ℕ) → rest ≡ [] → is_elements_end ends (0 ∷ rest) ≡ false
zero-no_end true [] e = refl
zero-no_end true (x ∷ rest) e = absurd (cc (e))
zero-no_end false rest e = refl

-- after a primitive elements end exactly if nothing more is read, and they may end there
pub after-primitive : (h : HeaderValue) (c : List ℕ) (q : Place) (g : Forest) (ends : Bool) (rest : List ℕ)
    → ObeysGrammar q g → q.indefinite ≡ ends → (rest ≡ []) ⊎ EndsBefore ends g rest
    → is_elements_end ends (spelling g ++ rest) ≡ (is_one_primitive (Primitive h c g) && is_elements_end ends rest)
after-primitive h c q NoMore ends rest o i e = refl
after-primitive h c q (PaddingOctet g) ends rest o i e =
    let no : ends ≡ false = sym i ∙ o.0.1 in
    ap (λ (k : Bool). is_elements_end k (0 ∷ (spelling g ++ rest))) no
after-primitive h c q (Primitive k d g) ends rest o i e =
    header-no_end ends k (d ++ (spelling g ++ rest)) _ o.0.0.header.valid
    (sym (regroup-3 (octets_of k) d (spelling g) rest))
after-primitive h c q (Holder k inside g) ends rest o i e =
    header-no_end ends k _ _ o.0.0.header.valid
    (sym (append_assoc (octets_of k) (lead k) _)
    ∙ sym (regroup-4 (opening k) (spelling inside) (end_octets k.size) (spelling g) rest))
after-primitive h c q (OpenPrimitive k d) ends rest o i e =
    header-no_end ends k (d ++ rest) _ o.0.header.valid (sym (append_assoc (octets_of k) d rest))
after-primitive h c q (OpenHolder k inside) ends rest o i e =
    header-no_end ends k _ _ o.0.0.header.valid
    (sym (append_assoc (octets_of k) (lead k) _) ∙ sym (append_assoc (opening k) (spelling inside) rest))
after-primitive h c q (OpenBitString k) ends rest o i e = header-no_end ends k rest _ o.0.header.valid refl
after-primitive h c q (OpenHeader x) ends rest o i e =
    prefix-no_end ends x rest o.0 (λ more t. prefix-no_zero x rest more o.1 o.0 t)
after-primitive h c q OpenEndOctets ends rest o i e = elim e [
  | inl t ↦ zero-no_end ends rest t
  | inr t ↦ let u : false ≡ true = t.whole in absurd (cc (u))
]

module _ (octets : List ℕ) (offset : ℕ) (f : HeaderFields) (count : ℕ)
    (b : BeginsWithFields octets offset false f count) where
  abbrev h : HeaderValue
  h = new_header f (take count octets)

  abbrev after : List ℕ
  after = drop count octets

  -- it is constructed, or lacks octets
  pub not-one : (p : Place) (g : Forest) (depth : ℕ) (ends : Bool) (rest : List ℕ)
      → IsReadAt p g depth offset ends octets rest
      → (f.constructed ≡ true) ⊎ (length after < announced_length f.size) → is_one_primitive g ≡ false
  not-one p g depth ends rest r why = first_not g (first-read octets offset f count b p g depth ends rest r)
    where
      first_not : (g : Forest) → IsReadFirst p h after rest g → is_one_primitive g ≡ false
      first_not _ (first_primitive {c = c} {g = g} t size spelled obeys) = elim why [
        | inl k ↦ let u : true ≡ false = sym k ∙ t in absurd (cc (u))
        | inr less ↦
            absurd (omega (arith, ap announced_length size, ap length spelled, length-append c (spelling g ++ rest)))
      ]
      first_not _ (first_holder c few s closed obeys spelled more) = refl
      first_not _ (first_open_primitive c i s l spelled none) = refl
      first_not _ (first_open_holder c few within l obeys spelled none) = refl

  -- it is a primitive with all its octets
  pub is-one : (p : Place) (g : Forest) (depth : ℕ) (ends : Bool) (rest : List ℕ) (m : ℕ)
      → IsReadAt p g depth offset ends octets rest → f.constructed ≡ false → m ≡ announced_length f.size
      → m ≤ length after → is_elements_end ends (drop m after) ≡ (is_one_primitive g && is_elements_end ends rest)
  is-one p g depth ends rest m r k all few =
      first_one g r (first-read octets offset f count b p g depth ends rest r)
    where
      first_one : (g : Forest) → IsReadAt p g depth offset ends octets rest → IsReadFirst p h after rest g
          → is_elements_end ends (drop m after) ≡ (is_one_primitive g && is_elements_end ends rest)
      first_one _ r (first_primitive {c = c} {g = g} t size spelled obeys) =
          let same : m ≡ length c = all ∙ ap announced_length size in
          ap (is_elements_end ends) (ap₂ drop same (sym spelled) ∙ drop-append_seam c (spelling g ++ rest))
          ∙ after-primitive h c (place_after p (primitive_extent h c)) g ends rest obeys r.indefinite (elim r.end [
            | inl e ↦ inl e
            | inr e ↦ inr (record { asked = e.asked; whole = e.whole; end = e.end })
          ])
      first_one _ r (first_holder c few s closed obeys spelled more) =
          let t : false ≡ true = sym k ∙ c in absurd (cc (t))
      first_one _ r (first_open_primitive {c = c} t n size less spelled none) =
          absurd (omega (arith, all, ap announced_length size, ap length spelled, less))
      first_one _ r (first_open_holder c few within l obeys spelled none) =
          let t : false ≡ true = sym k ∙ c in absurd (cc (t))
