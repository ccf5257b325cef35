-- Octets begin with one sound element, and with one list of them.
use Rattle.std.proofs.Common.{◌≡◌, ℕ, ◌+◌, Bool, true, false, eqb, List, [], ◌∷◌, ◌++◌, length, IfSome}
use Rattle.std.proofs.Common.{refl, sym, ap, ap₂, ◌∙◌, arith, subst, append_assoc, eqb-true, length-append}
use Rattle.std.proofs.lemmas.Bool.{and_parts}
use Rattle.tlv_head.specs.declared.header.Size.{Size}
use Rattle.tlv_head.specs.declared.header.Size.TheVariants.{Definite, Indefinite}
use Rattle.tlv_head.specs.declared.fault.FaultCode.TheVariants.{StrayEnd}
use Rattle.tlv_head.specs.Header.{HeaderValue, IsHeader, definite_length, holds, octets_of}
use Rattle.tlv_head.proofs.GrammarLemmas.Headers.{one-header}
use Rattle.tlv_head.proofs.GrammarLemmas.Scan.{origin_of, scan, Ready, Stuck, scan-header, scan_from-past}
use Rattle.tlv_head.proofs.ReaderLemmas.Prefix.{header-two}
use Rattle.tlv_walk.specs.Forest.{Forest, Holder, NoMore, OpenBitString, OpenEndOctets, OpenHeader, OpenHolder}
use Rattle.tlv_walk.specs.Forest.{OpenPrimitive, PaddingOctet, Primitive, end_octets, holder_extent, lead}
use Rattle.tlv_walk.specs.Forest.{opening, primitive_extent, spelling}
use Rattle.tlv_walk.specs.Place.{HasItsLength, IsHeaderAt, Place, place_after, place_of_children}
use Rattle.tlv_walk.specs.Reading.{IsSound}
use Rattle.tlv_open.specs.Private.Elements.{is_elements_end}
use Rattle.tlv_open.proofs.ElementLemmas.Places.{AreAlikePlaces, alike-back, header-alike}

-- no header begins with 00
pub zero-no_header : (h : HeaderValue) (x : ℕ) (r s : List ℕ) → IsHeader h → octets_of h ++ r ≡ x ∷ s → x ≡ 0 → ⊥
zero-no_header h x r s v e z = first (octets_of h) refl e
  where
    first : (o : List ℕ) → octets_of h ≡ o → o ++ r ≡ x ∷ s → ⊥
    first [] same e = omega (arith, ap length same, header-two h v)
    first (y ∷ o) same e =
        let begins : octets_of h ≡ 0 ∷ o = let zero : y ≡ x = cc in same ∙ ap (λ (n : ℕ). n ∷ o) (zero ∙ z) in
        let ready : scan (origin_of h) (0 ∷ o) ≡ Ready h = rw begins at (scan-header h v) in
        scan_from-past (origin_of h) (Stuck StrayEnd) o h refl
        (λ n. omega (arith, ap length begins, ap length n, header-two h v)) ready

-- where elements may end no header begins
pub end-no_header : (ends : Bool) (octets r : List ℕ) (h : HeaderValue) → is_elements_end ends octets ≡ true
    → IsHeader h
    → octets_of h ++ r ≡ octets → ⊥
end-no_header true [] r h e v s = absurd (cc)
end-no_header true (x ∷ []) r h e v s = absurd (cc)
end-no_header true (x ∷ y ∷ more) r h e v s =
    zero-no_header h x r (y ∷ more) v s (eqb-true x 0 (and_parts (eqb x 0) (eqb y 0) e).0)
end-no_header false [] r h e v s =
    omega (arith, ap length s, length-append (octets_of h) r, header-two h v)
end-no_header false (x ∷ more) r h e v s = absurd (cc)

-- two lists that are as long as each other and begin one list
pub append-split : (a b x y : List ℕ) → length a ≡ length b → a ++ x ≡ b ++ y → (a ≡ b) × (x ≡ y)
append-split [] [] x y l e = (refl, e)
append-split [] (d ∷ b) x y l e = absurd (omega arith)
append-split (c ∷ a) [] x y l e = absurd (omega arith)
append-split (c ∷ a) (d ∷ b) x y l e =
    let same : c ≡ d = cc in
    let r : (a ≡ b) × (x ≡ y) = append-split a b x y (omega arith) (cc) in
    (ap₂ (λ (k : ℕ) (o : List ℕ). k ∷ o) same r.0, r.1)

-- two headers at one place with which octets begin
pub header-one : (p : Place) (h k : HeaderValue) (x y : List ℕ) → IsHeaderAt p h → IsHeaderAt p k
    → octets_of h ++ x ≡ octets_of k ++ y → (h ≡ k) × (x ≡ y)
header-one p h k x y i j e =
    let origin : origin_of h ≡ origin_of k =
    (λ t. record { offset = (i.offset ∙ sym j.offset) t; named = (i.named ∙ sym j.named) t }) in
    one-header h k x y i.valid j.valid origin e

-- two primitives
pub primitive-one : (p : Place) (h k : HeaderValue) (c d x y : List ℕ) → IsHeaderAt p h → IsHeaderAt p k
    → h.size ≡ Definite (length c) → k.size ≡ Definite (length d)
    → octets_of h ++ (c ++ x) ≡ octets_of k ++ (d ++ y) → (h ≡ k) × (c ≡ d) × (x ≡ y)
primitive-one p h k c d x y i j m n e =
    let r : (h ≡ k) × (c ++ x ≡ d ++ y) = header-one p h k (c ++ x) (d ++ y) i j e in
    let sizes : h.size ≡ k.size = ap (λ (z : HeaderValue). z.size) r.0 in
    let definite : Definite (length c) ≡ Definite (length d) = sym m ∙ (sizes ∙ n) in
    let same : length c ≡ length d = cc (definite) in
    let s : (c ≡ d) × (x ≡ y) = append-split c d x y same r.1 in
    (r.0, s.0, s.1)

-- an element is either a primitive or holds others
pub not-both : (p : Place) (h k : HeaderValue) (x y : List ℕ) → IsHeaderAt p h × (holds h ≡ false)
    → IsHeaderAt p k × (holds k ≡ true) → octets_of h ++ x ≡ octets_of k ++ y → ⊥
not-both p h k x y i j e =
    let same : h ≡ k = (header-one p h k x y i.0 j.0 e).0 in
    let form : holds h ≡ holds k = ap holds same in
    let apart : false ≡ true = sym i.1 ∙ (form ∙ j.1) in
    absurd (cc (apart))

-- what follows the opening
pub opening-one : (p : Place) (h k : HeaderValue) (x y : List ℕ) → IsHeaderAt p h → IsHeaderAt p k
    → opening h ++ x ≡ opening k ++ y → (h ≡ k) × (x ≡ y)
opening-one p h k x y i j e =
    let e' : octets_of h ++ (lead h ++ x) ≡ octets_of k ++ (lead k ++ y) =
    sym (append_assoc (octets_of h) (lead h) x) ∙ (e ∙ append_assoc (octets_of k) (lead k) y) in
    let r : (h ≡ k) × (lead h ++ x ≡ lead k ++ y) = header-one p h k (lead h ++ x) (lead k ++ y) i j e' in
    let s : (lead h ≡ lead k) × (x ≡ y) =
    append-split (lead h) (lead k) x y (ap (λ (z : HeaderValue). length (lead z)) r.0) r.1 in
    (r.0, s.1)

-- what is said of two lists of elements
abbrev pub AreOne : List ℕ → List ℕ → List ℕ → List ℕ → Type 0
AreOne a b x y = (a ≡ b) × (x ≡ y)

-- what two elements with one header hold, up to the end of the first
inside-one : (s : Size) (l : ℕ) (a b x y : List ℕ)
    → IfSome (definite_length s) (λ n. l + length a ≡ n) → IfSome (definite_length s) (λ n. l + length b ≡ n)
    → ((u v : List ℕ) → is_elements_end true u ≡ true → is_elements_end true v ≡ true → a ++ u ≡ b ++ v
    → AreOne a b u v)
    → a ++ (end_octets s ++ x) ≡ b ++ (end_octets s ++ y) → AreOne a b x y
inside-one (Definite n) l a b x y m k one e = append-split a b x y (omega arith) e
inside-one Indefinite l a b x y m k one e =
    let r : AreOne a b (0 ∷ 0 ∷ x) (0 ∷ 0 ∷ y) = one (0 ∷ 0 ∷ x) (0 ∷ 0 ∷ y) refl refl e in
    let rest : 0 ∷ 0 ∷ x ≡ 0 ∷ 0 ∷ y = r.1 in
    (r.0, cc (rest))

pub holder-one : (p : Place) (h k : HeaderValue) (f g : Forest) (x y : List ℕ) → IsHeaderAt p h
    → IsHeaderAt p k → HasItsLength h f → HasItsLength k g
    → ((u v : List ℕ) → is_elements_end true u ≡ true → is_elements_end true v ≡ true
    → spelling f ++ u ≡ spelling g ++ v
    → AreOne (spelling f) (spelling g) u v)
    → opening h ++ (spelling f ++ (end_octets h.size ++ x)) ≡ opening k ++ (spelling g ++ (end_octets k.size ++ y))
    → (h ≡ k) × AreOne (spelling f) (spelling g) x y
holder-one p h k f g x y i j m n one e =
    let r : (h ≡ k) × (spelling f ++ (end_octets h.size ++ x) ≡ spelling g ++ (end_octets k.size ++ y)) =
    opening-one p h k _ _ i j e in
    let n' : HasItsLength h g = subst (λ (z : HeaderValue). HasItsLength z g) (sym r.0) n in
    let e' : spelling f ++ (end_octets h.size ++ x) ≡ spelling g ++ (end_octets h.size ++ y) =
    r.1 ∙ ap (λ (z : HeaderValue). spelling g ++ (end_octets z.size ++ y)) (sym r.0) in
    (r.0, inside-one h.size (length (lead h)) (spelling f) (spelling g) x y m n' one e')

pub regroup-4 : (a b c d x : List ℕ) → (a ++ (b ++ (c ++ d))) ++ x ≡ a ++ (b ++ (c ++ (d ++ x)))
regroup-4 a b c d x =
    append_assoc a (b ++ (c ++ d)) x
    ∙ (ap (λ (o : List ℕ). a ++ o) (append_assoc b (c ++ d) x)
    ∙ ap (λ (o : List ℕ). a ++ (b ++ o)) (append_assoc c d x))

pub regroup-3 : (a b c x : List ℕ) → (a ++ (b ++ c)) ++ x ≡ a ++ (b ++ (c ++ x))
regroup-3 a b c x = append_assoc a (b ++ c) x ∙ ap (λ (o : List ℕ). a ++ o) (append_assoc b c x)

-- further on, and inside, the places of two elements with one header are alike
after-alike : (p q : Place) (m n : ℕ) → AreAlikePlaces p q → m ≡ n → AreAlikePlaces (place_after p m) (place_after q n)
after-alike p q m n a e = record {
  offset = omega (arith, a.offset);
  depth = a.depth;
  padding = a.padding;
  inside = a.inside;
}

pub inside-alike : (p q : Place) (h k : HeaderValue) → AreAlikePlaces p q → h ≡ k
    → AreAlikePlaces (place_of_children p h) (place_of_children q k)
inside-alike p q h k a e = record {
  offset = ap₂ (λ (o : ℕ) (z : HeaderValue). o + length (opening z)) a.offset e;
  depth = ap (λ (o : ℕ). o + 1) a.depth;
  padding = refl;
  inside = a.inside;
}

extents : (h k : HeaderValue) (f g : Forest) → h ≡ k → spelling f ≡ spelling g → holder_extent h f ≡ holder_extent k g
extents h k f g e s =
    ap₂ (λ (z : HeaderValue) (o : List ℕ). length (opening z) + (length o + length (end_octets z.size))) e s

-- two lists of sound elements with which octets begin, each up to where elements may end
pub one-list : (p q : Place) (ends : Bool) (f g : Forest) (x y : List ℕ) → AreAlikePlaces p q → p.padding ≡ false
    → IsSound p f → IsSound q g → is_elements_end ends x ≡ true → is_elements_end ends y ≡ true
    → spelling f ++ x ≡ spelling g ++ y
    → AreOne (spelling f) (spelling g) x y
one-list p q ends (PaddingOctet rest) g x y a z s t m n e = let w : true ≡ false = sym s.0 ∙ z in absurd (cc (w))
one-list p q ends (OpenPrimitive h c) g x y a z s t m n e = absurd s
one-list p q ends (OpenHolder h inside) g x y a z s t m n e = absurd s
one-list p q ends (OpenBitString h) g x y a z s t m n e = absurd s
one-list p q ends (OpenHeader octets) g x y a z s t m n e = absurd s
one-list p q ends OpenEndOctets g x y a z s t m n e = absurd s
one-list p q ends f (PaddingOctet rest) x y a z s t m n e =
    let w : true ≡ false = sym t.0 ∙ (sym a.padding ∙ z) in absurd (cc (w))
one-list p q ends f (OpenPrimitive h c) x y a z s t m n e = absurd t
one-list p q ends f (OpenHolder h inside) x y a z s t m n e = absurd t
one-list p q ends f (OpenBitString h) x y a z s t m n e = absurd t
one-list p q ends f (OpenHeader octets) x y a z s t m n e = absurd t
one-list p q ends f OpenEndOctets x y a z s t m n e = absurd t
one-list p q ends NoMore NoMore x y a z s t m n e = (refl, e)
one-list p q ends NoMore (Primitive k d rest) x y a z s t m n e = absurd
    (end-no_header ends x ((d ++ spelling rest) ++ y) k m t.0.0.valid
    (sym (append_assoc (octets_of k) (d ++ spelling rest) y) ∙ sym e))
one-list p q ends NoMore (Holder k inside rest) x y a z s t m n e = absurd
    (end-no_header ends x (lead k ++ ((spelling inside ++ (end_octets k.size ++ spelling rest)) ++ y)) k m t.0.0.valid
    (sym (append_assoc (octets_of k) (lead k) _) ∙ (sym (append_assoc (opening k) _ y) ∙ sym e)))
one-list p q ends (Primitive h c rest) NoMore x y a z s t m n e = absurd
    (end-no_header ends y ((c ++ spelling rest) ++ x) h n s.0.0.valid
    (sym (append_assoc (octets_of h) (c ++ spelling rest) x) ∙ e))
one-list p q ends (Primitive h c rest) (Primitive k d rest2) x y a z s t m n e =
    let j : IsHeaderAt p k = header-alike q p k (alike-back p q a) t.0.0 in
    let r : (h ≡ k) × (c ≡ d) × (spelling rest ++ x ≡ spelling rest2 ++ y) =
    primitive-one p h k c d (spelling rest ++ x) (spelling rest2 ++ y) s.0.0 j s.0.2 t.0.2
    (sym (regroup-3 (octets_of h) c (spelling rest) x) ∙ (e ∙ regroup-3 (octets_of k) d (spelling rest2) y)) in
    let same : primitive_extent h c ≡ primitive_extent k d =
    ap₂ (λ (z : HeaderValue) (o : List ℕ). length (octets_of z) + length o) r.0 r.1 in
    let i : AreOne (spelling rest) (spelling rest2) x y =
    one-list (place_after p (primitive_extent h c)) (place_after q (primitive_extent k d)) ends rest rest2 x y
    (after-alike p q _ _ a same) z s.1 t.1 m n r.2 in (
      ap (λ (z : HeaderValue). octets_of z ++ (c ++ spelling rest)) r.0
          ∙ ap₂ (λ (u v : List ℕ). octets_of k ++ (u ++ v)) r.1 i.0,
      i.1,
    )
one-list p q ends (Primitive h c rest) (Holder k inside rest2) x y a z s t m n e = absurd
    (not-both p h k ((c ++ spelling rest) ++ x)
    (lead k ++ ((spelling inside ++ (end_octets k.size ++ spelling rest2)) ++ y)) (s.0.0, s.0.1)
    (header-alike q p k (alike-back p q a) t.0.0, t.0.1)
    (sym (append_assoc (octets_of h) (c ++ spelling rest) x)
    ∙ (e ∙ (append_assoc (opening k) _ y ∙ append_assoc (octets_of k) (lead k) _))))
one-list p q ends (Holder h inside rest) NoMore x y a z s t m n e = absurd
    (end-no_header ends y (lead h ++ ((spelling inside ++ (end_octets h.size ++ spelling rest)) ++ x)) h n s.0.0.valid
    (sym (append_assoc (octets_of h) (lead h) _) ∙ (sym (append_assoc (opening h) _ x) ∙ e)))
one-list p q ends (Holder h inside rest) (Primitive k d rest2) x y a z s t m n e = absurd
    (not-both p k h ((d ++ spelling rest2) ++ y)
    (lead h ++ ((spelling inside ++ (end_octets h.size ++ spelling rest)) ++ x))
    (header-alike q p k (alike-back p q a) t.0.0, t.0.1) (s.0.0, s.0.1)
    (sym (append_assoc (octets_of k) (d ++ spelling rest2) y)
    ∙ (sym e ∙ (append_assoc (opening h) _ x ∙ append_assoc (octets_of h) (lead h) _))))
one-list p q ends (Holder h inside rest) (Holder k inside2 rest2) x y a z s t m n e =
    let j : IsHeaderAt p k = header-alike q p k (alike-back p q a) t.0.0 in
    let e' : opening h ++ (spelling inside ++ (end_octets h.size ++ (spelling rest ++ x)))
    ≡ opening k ++ (spelling inside2 ++ (end_octets k.size ++ (spelling rest2 ++ y))) =
    sym (regroup-4 (opening h) (spelling inside) (end_octets h.size) (spelling rest) x)
    ∙ (e ∙ regroup-4 (opening k) (spelling inside2) (end_octets k.size) (spelling rest2) y) in
    let same : h ≡ k = (opening-one p h k _ _ s.0.0 j e').0 in
    let r : (h ≡ k) × AreOne (spelling inside) (spelling inside2) (spelling rest ++ x) (spelling rest2 ++ y) =
    holder-one p h k inside inside2 (spelling rest ++ x) (spelling rest2 ++ y) s.0.0 j s.0.3 t.0.3
    (λ u v m' n' e''.
    one-list (place_of_children p h) (place_of_children q k) true inside inside2 u v (inside-alike p q h k a same)
    refl s.1 t.1 m' n' e'')
    e' in
    let i : AreOne (spelling rest) (spelling rest2) x y =
    one-list (place_after p (holder_extent h inside)) (place_after q (holder_extent k inside2)) ends rest rest2 x y
    (after-alike p q _ _ a (extents h k inside inside2 same r.1.0)) z s.2 t.2 m n r.1.1 in (
      ap (λ (z : HeaderValue). opening z ++ (spelling inside ++ (end_octets z.size ++ spelling rest))) same
          ∙ ap₂ (λ (u v : List ℕ). opening k ++ (u ++ (end_octets k.size ++ v))) r.1.0 i.0,
      i.1,
    )
