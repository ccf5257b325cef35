-- An element and what follows it, and a list of elements.
use Rattle.std.proofs.Common.{◌≡◌, ◌≢◌, ℕ, ◌+◌, ◌≤◌, Bool, true, false, eqb, List, [], ◌∷◌, ◌++◌, length, take, drop}
use Rattle.std.proofs.Common.{refl, sym, ap, ap₂, ◌∙◌, arith, subst, append_assoc, append-nil, length-append}
use Rattle.std.proofs.Common.{◌<◌, suc, get_or, drop-cons, eqb-true, ne_eqb}
use Rattle.std.proofs.lemmas.Bool.{and_parts}
use Rattle.std.proofs.Math.Seq.{drop-append_seam}
use Rattle.std.proofs.Common.{◌-◌, length-drop}
use Rattle.std.proofs.lemmas.List.{drop-drop, take_all}
use Rattle.tlv_head.specs.Header.{HeaderValue, octets_of}
use Rattle.tlv_head.proofs.ReaderLemmas.Prefix.{header-two}
use Rattle.tlv_walk.specs.Forest.{Forest, Holder, NoMore, OpenBitString, OpenEndOctets, OpenHeader, OpenHolder}
use Rattle.tlv_walk.specs.Forest.{OpenPrimitive, PaddingOctet, Primitive, end_octets, holder_extent, lead, opening}
use Rattle.tlv_walk.specs.Forest.{primitive_extent, spelling}
use Rattle.tlv_walk.specs.Place.{Place, place_after, place_of_children}
use Rattle.tlv_walk.specs.Reading.{IsSound}
use Rattle.tlv_walk.proofs.GrammarLemmas.Spellings.{length-holder, length-opening, length-primitive}
use Rattle.tlv_open.specs.Private.Elements.{AreLikelyIf, BeginsWithElement, BeginsWithElements, BeginsWithNoElement}
use Rattle.tlv_open.specs.Private.Elements.{is_elements_end, is_one_element, place_at}
use Rattle.tlv_open.proofs.ElementLemmas.OneElement.{AreOne, holder-one, inside-alike, not-both, one-list, opening-one}
use Rattle.tlv_open.proofs.ElementLemmas.OneElement.{zero-no_header}
use Rattle.tlv_open.proofs.ElementLemmas.OneElement.{primitive-one, regroup-3, regroup-4}
use Rattle.tlv_open.proofs.ElementLemmas.Places.{AreAlikePlaces}

-- an element, and others after it
abbrev pub then : Forest → Forest → Forest
then (Primitive h c rest) g = Primitive h c g
then (Holder h inside rest) g = Holder h inside g
then f g = g

-- what is said of an element and others after it
pub record IsThen (p : Place) (f g : Forest) (likely : Bool) : Type 0 where
  pub sound : IsSound p (then f g)
  pub probable : AreLikelyIf likely (then f g)
  pub spelled : spelling (then f g) ≡ spelling f ++ spelling g

pub then-sound : (p : Place) (f g : Forest) (likely : Bool) → is_one_element f ≡ true → IsSound p f
    → AreLikelyIf likely f → IsSound (place_after p (length (spelling f))) g → AreLikelyIf likely g
    → IsThen p f g likely
then-sound p (Primitive h c NoMore) g likely o s k t l =
    let size : length (octets_of h ++ (c ++ [])) ≡ primitive_extent h c =
    omega (arith, length-append (octets_of h) (c ++ []), length-append c []) in
    record {
      sound = (s.0, subst (λ (n : ℕ). IsSound (place_after p n) g) size t);
      probable = λ e. ((k e).0, l e);
      spelled =
          sym (append_assoc (octets_of h) (c ++ []) (spelling g)
          ∙ ap (λ (x : List ℕ). octets_of h ++ (x ++ spelling g)) (append-nil c));
    }
then-sound p (Holder h inside NoMore) g likely o s k t l =
    let size : length (spelling (Holder h inside NoMore)) ≡ holder_extent h inside =
    omega (arith, length-holder h inside NoMore) in
    record {
      sound = (s.0, s.1, subst (λ (n : ℕ). IsSound (place_after p n) g) size t);
      probable = λ e. l e;
      spelled =
          sym (append_assoc (opening h) (spelling inside ++ (end_octets h.size ++ [])) (spelling g)
          ∙ ap (λ (x : List ℕ). opening h ++ x)
          (append_assoc (spelling inside) (end_octets h.size ++ []) (spelling g)
          ∙ ap (λ (x : List ℕ). spelling inside ++ (x ++ spelling g)) (append-nil (end_octets h.size))));
    }
then-sound p f g likely o s k t l = absurd (cc)

-- an element has octets, and no more than there are
pub element-some : (p : Place) (likely : Bool) (octets : List ℕ) (n : ℕ) → BeginsWithElement p likely octets n → 2 ≤ n
element-some p likely octets n b = omega (arith, size-some p b.element b.is_one b.sound, b.size)
  where
    size-some : (p : Place) (f : Forest) → is_one_element f ≡ true → IsSound p f → 2 ≤ length (spelling f)
    size-some p (Primitive h c NoMore) o s =
        omega (arith, header-two h s.0.0.valid, length-primitive h c NoMore)
    size-some p (Holder h inside NoMore) o s =
        omega (arith, header-two h s.0.0.valid, length-holder h inside NoMore, length-opening h)
    size-some p f o s = absurd (cc)

pub element-within : (p : Place) (likely : Bool) (octets : List ℕ) (n : ℕ) → BeginsWithElement p likely octets n
    → n ≤ length octets
element-within p likely octets n b =
    omega (arith, ap length b.spelled, length-append (spelling b.element) b.rest, b.size)

-- an element, and a list of elements after it
pub elements-cons : (p : Place) (likely ends : Bool) (octets : List ℕ) (n m : ℕ) → BeginsWithElement p likely octets n
    → BeginsWithElements (place_after p n) likely ends (drop n octets) m
    → BeginsWithElements p likely ends octets (n + m)
elements-cons p likely ends octets n m b r =
    let after : drop n octets ≡ b.rest =
    rw (← b.spelled, ← b.size) (drop-append_seam (spelling b.element) b.rest) in
    let t : IsThen p b.element r.elements likely =
    then-sound p b.element r.elements likely b.is_one b.sound b.probable
    (subst (λ (k : ℕ). IsSound (place_after p k) r.elements) (sym b.size) r.sound) r.probable in
    record {
      elements = then b.element r.elements;
      sound = t.sound;
      probable = t.probable;
      rest = r.rest;
      end = r.end;
      spelled =
          ap (λ (x : List ℕ). x ++ r.rest) t.spelled
          ∙ (append_assoc (spelling b.element) (spelling r.elements) r.rest
          ∙ (ap (λ (x : List ℕ). spelling b.element ++ x) (r.spelled ∙ after) ∙ b.spelled));
      size =
          omega (arith, ap length t.spelled, length-append (spelling b.element) (spelling r.elements), b.size, r.size);
    }

-- a list of elements: one, and a list after it, or none
pub data IsElements (p : Place) (likely ends : Bool) (octets : List ℕ) : Type 0 where
  none : is_elements_end ends octets ≡ true → IsElements p likely ends octets
  some : (n m : ℕ) → BeginsWithElement p likely octets n
      → BeginsWithElements (place_after p n) likely ends (drop n octets) m → IsElements p likely ends octets

elements-cases : (p : Place) (likely ends : Bool) (f : Forest) (rest octets : List ℕ) → p.padding ≡ false → IsSound p f
    → AreLikelyIf likely f → is_elements_end ends rest ≡ true → spelling f ++ rest ≡ octets
    → IsElements p likely ends octets
elements-cases p likely ends NoMore rest octets z s k e g =
    none (subst (λ (x : List ℕ). is_elements_end ends x ≡ true) g e)
elements-cases p likely ends (Primitive h c f) rest octets z s k e g =
    let size : length (octets_of h ++ (c ++ [])) ≡ primitive_extent h c =
    omega (arith, length-append (octets_of h) (c ++ []), length-append c []) in
    let whole : (octets_of h ++ (c ++ [])) ++ (spelling f ++ rest) ≡ octets =
    regroup-3 (octets_of h) c [] (spelling f ++ rest) ∙ (sym (regroup-3 (octets_of h) c (spelling f) rest) ∙ g) in
    some (primitive_extent h c) (length (spelling f))
    (record {
      element = Primitive h c NoMore;
      is_one = refl;
      sound = (s.0, tt);
      probable = λ e. ((k e).0, tt);
      rest = spelling f ++ rest;
      spelled = whole;
      size = size;
    })
    (record {
      elements = f;
      sound = s.1;
      probable = λ e. (k e).1;
      rest = rest;
      end = e;
      spelled = rw (← whole, ← size) (sym (drop-append_seam (octets_of h ++ (c ++ [])) (spelling f ++ rest)));
      size = refl;
    })
elements-cases p likely ends (Holder h inside f) rest octets z s k e g =
    let size : length (spelling (Holder h inside NoMore)) ≡ holder_extent h inside =
    omega (arith, length-holder h inside NoMore) in
    let whole : spelling (Holder h inside NoMore) ++ (spelling f ++ rest) ≡ octets =
    regroup-4 (opening h) (spelling inside) (end_octets h.size) [] (spelling f ++ rest)
    ∙ (sym (regroup-4 (opening h) (spelling inside) (end_octets h.size) (spelling f) rest) ∙ g) in
    some (holder_extent h inside) (length (spelling f))
    (record {
      element = Holder h inside NoMore;
      is_one = refl;
      sound = (s.0, s.1, tt);
      probable = λ e. tt;
      rest = spelling f ++ rest;
      spelled = whole;
      size = size;
    })
    (record {
      elements = f;
      sound = s.2;
      probable = λ e. k e;
      rest = rest;
      end = e;
      spelled = rw (← whole, ← size) (sym (drop-append_seam (spelling (Holder h inside NoMore)) (spelling f ++ rest)));
      size = refl;
    })
elements-cases p likely ends (PaddingOctet f) rest octets z s k e g =
    let w : true ≡ false = sym s.0 ∙ z in absurd (cc (w))
elements-cases p likely ends (OpenPrimitive h c) rest octets z s k e g = absurd s
elements-cases p likely ends (OpenHolder h inside) rest octets z s k e g = absurd s
elements-cases p likely ends (OpenBitString h) rest octets z s k e g = absurd s
elements-cases p likely ends (OpenHeader o) rest octets z s k e g = absurd s
elements-cases p likely ends OpenEndOctets rest octets z s k e g = absurd s

pub elements-split : (p : Place) (likely ends : Bool) (octets : List ℕ) (n : ℕ) → p.padding ≡ false
    → BeginsWithElements p likely ends octets n → IsElements p likely ends octets
elements-split p likely ends octets n z b =
    elements-cases p likely ends b.elements b.rest octets z b.sound b.probable b.end b.spelled

-- octets begin with one element
one-size : (p : Place) (f g : Forest) (x y : List ℕ) → p.padding ≡ false → is_one_element f ≡ true
    → is_one_element g ≡ true → IsSound p f → IsSound p g → spelling f ++ x ≡ spelling g ++ y
    → length (spelling f) ≡ length (spelling g)
one-size p (Primitive h c NoMore) (Primitive k d NoMore) x y z o q s t e =
    let r : (h ≡ k) × (c ≡ d) × (x ≡ y) =
    primitive-one p h k c d x y s.0.0 t.0.0 s.0.2 t.0.2
    (sym (regroup-3 (octets_of h) c [] x) ∙ (e ∙ regroup-3 (octets_of k) d [] y)) in
    ap₂ (λ (u : HeaderValue) (v : List ℕ). length (octets_of u ++ (v ++ []))) r.0 r.1
one-size p (Primitive h c NoMore) (Holder k inside NoMore) x y z o q s t e = absurd
    (not-both p h k ((c ++ []) ++ x) (lead k ++ ((spelling inside ++ (end_octets k.size ++ [])) ++ y)) (s.0.0, s.0.1) (t.0.0, t.0.1)
    (sym (append_assoc (octets_of h) (c ++ []) x)
    ∙ (e ∙ (append_assoc (opening k) _ y ∙ append_assoc (octets_of k) (lead k) _))))
one-size p (Holder h inside NoMore) (Primitive k d NoMore) x y z o q s t e = absurd
    (not-both p k h ((d ++ []) ++ y) (lead h ++ ((spelling inside ++ (end_octets h.size ++ [])) ++ x)) (t.0.0, t.0.1) (s.0.0, s.0.1)
    (sym (append_assoc (octets_of k) (d ++ []) y)
    ∙ (sym e ∙ (append_assoc (opening h) _ x ∙ append_assoc (octets_of h) (lead h) _))))
one-size p (Holder h inside NoMore) (Holder k inside2 NoMore) x y z o q s t e =
    let e' : opening h ++ (spelling inside ++ (end_octets h.size ++ x))
    ≡ opening k ++ (spelling inside2 ++ (end_octets k.size ++ y)) =
    sym (regroup-4 (opening h) (spelling inside) (end_octets h.size) [] x)
    ∙ (e ∙ regroup-4 (opening k) (spelling inside2) (end_octets k.size) [] y) in
    let same : h ≡ k = (opening-one p h k _ _ s.0.0 t.0.0 e').0 in
    let alike : AreAlikePlaces p p = record { offset = refl; depth = refl; padding = refl; inside = refl } in
    let r : (h ≡ k) × AreOne (spelling inside) (spelling inside2) x y =
    holder-one p h k inside inside2 x y s.0.0 t.0.0 s.0.3 t.0.3
    (λ u v m n e''.
    one-list (place_of_children p h) (place_of_children p k) true inside inside2 u v (inside-alike p p h k alike same)
    refl s.1 t.1 m n e'')
    e' in
    ap₂ (λ (u : HeaderValue) (v : List ℕ). length (opening u ++ (v ++ (end_octets u.size ++ [])))) same r.1.0
one-size p f g x y z o q s t e = absurd (cc)

pub element-one : (p : Place) (likely : Bool) (octets : List ℕ) (n m : ℕ) → p.padding ≡ false
    → BeginsWithElement p likely octets n
    → BeginsWithElement p likely octets m → n ≡ m
element-one p likely octets n m z b d =
    let same : length (spelling b.element) ≡ length (spelling d.element) =
    one-size p b.element d.element b.rest d.rest z b.is_one d.is_one b.sound d.sound (b.spelled ∙ sym d.spelled) in
    omega (arith, b.size, d.size)

-- a list, at its start
pub elements-start : (offset depth : ℕ) (likely ends : Bool) (octets : List ℕ) (n : ℕ)
    → BeginsWithElements (place_at (offset + 0) depth) likely ends octets n
    → BeginsWithElements (place_at offset depth) likely ends octets (0 + n)
elements-start offset depth likely ends octets n e =
    let same : offset + 0 ≡ offset = omega arith in
    let size : n ≡ 0 + n = omega arith in
    subst (λ (m : ℕ). BeginsWithElements (place_at offset depth) likely ends octets m) size
    (subst (λ (o : ℕ). BeginsWithElements (place_at o depth) likely ends octets n) same e)

pub elements-started : (offset depth : ℕ) (likely ends : Bool) (octets : List ℕ) (n : ℕ)
    → BeginsWithElements (place_at offset depth) likely ends octets n
    → (m : ℕ) × BeginsWithElements (place_at (offset + 0) depth) likely ends octets m
elements-started offset depth likely ends octets n e =
    let same : offset ≡ offset + 0 = omega arith in
    (n, subst (λ (o : ℕ). BeginsWithElements (place_at o depth) likely ends octets n) same e)

-- elements do not end before an octet other than 00
goes-on : (ends : Bool) (x : ℕ) (more : List ℕ) → x ≢ 0 → is_elements_end ends (x ∷ more) ≡ true → ⊥
goes-on true x [] n e = absurd (cc (e))
goes-on true x (y ∷ more) n e = n (eqb-true x 0 (and_parts (eqb x 0) (eqb y 0) e).0)
goes-on false x more n e = absurd (cc (e))

pub no_end-there : (ends : Bool) (octets : List ℕ) (at : ℕ) → at < length octets → get_or octets at 0 ≢ 0
    → is_elements_end ends (drop at octets) ≡ true → ⊥
no_end-there ends octets at h n e =
    goes-on ends (get_or octets at 0) (drop (suc at) octets) n
    (subst (λ (o : List ℕ). is_elements_end ends o ≡ true) (drop-cons octets at 0 h) e)

-- one element more of a list that begins at the offset
pub elements-next : (offset depth : ℕ) (likely ends : Bool) (octets : List ℕ) (at n : ℕ) → at ≤ length octets
    → BeginsWithElement (place_at (offset + at) depth) likely (drop at octets) n → (m : ℕ)
    → BeginsWithElements (place_at (offset + (at + n)) depth) likely ends (drop (at + n) octets) m
    → BeginsWithElements (place_at (offset + at) depth) likely ends (drop at octets) (n + m)
elements-next offset depth likely ends octets at n h b m r =
    let place : offset + (at + n) ≡ (offset + at) + n = omega arith in
    elements-cons (place_at (offset + at) depth) likely ends (drop at octets) n m b
    (subst (λ (o : ℕ). BeginsWithElements (place_at o depth) likely ends (drop n (drop at octets)) m) place
    (subst (λ (o : List ℕ). BeginsWithElements (place_at (offset + (at + n)) depth) likely ends o m)
    (sym (drop-drop n at octets)) r))

-- the list after that element
pub elements-rest : (offset depth : ℕ) (likely ends : Bool) (octets : List ℕ) (at n : ℕ) → at < length octets
    → get_or octets at 0 ≢ 0
    → BeginsWithElement (place_at (offset + at) depth) likely (drop at octets) n
    → (k : ℕ) × BeginsWithElements (place_at (offset + at) depth) likely ends (drop at octets) k
    → (m : ℕ) × BeginsWithElements (place_at (offset + (at + n)) depth) likely ends (drop (at + n) octets) m
elements-rest offset depth likely ends octets at n h nonzero b r =
    elim (elements-split (place_at (offset + at) depth) likely ends (drop at octets) r.0 refl r.1) [
      | none e ↦ absurd (no_end-there ends octets at h nonzero e)
      | some k m d t ↦
          let same : k ≡ n = element-one (place_at (offset + at) depth) likely (drop at octets) k n refl d b in
          let place : (offset + at) + k ≡ offset + (at + n) = omega arith in
          let front : drop k (drop at octets) ≡ drop (at + n) octets =
          drop-drop k at octets ∙ ap (λ (j : ℕ). drop (at + j) octets) same in (
            m,
            subst (λ (o : ℕ). BeginsWithElements (place_at o depth) likely ends (drop (at + n) octets) m) place
                (subst (λ (o : List ℕ). BeginsWithElements (place_at ((offset + at) + k) depth) likely ends o m) front
                t),
          )
    ]

-- no list, if no element begins there
pub elements-none : (offset depth : ℕ) (likely ends : Bool) (octets : List ℕ) (at : ℕ) → at < length octets
    → get_or octets at 0 ≢ 0
    → BeginsWithNoElement (place_at (offset + at) depth) likely (drop at octets)
    → (k : ℕ) × BeginsWithElements (place_at (offset + at) depth) likely ends (drop at octets) k → ⊥
elements-none offset depth likely ends octets at h nonzero absent r =
    elim (elements-split (place_at (offset + at) depth) likely ends (drop at octets) r.0 refl r.1) [
      | none e ↦ no_end-there ends octets at h nonzero e
      | some k m d t ↦ absent k d
    ]

-- no elements
pub elements-nil : (p : Place) (likely ends : Bool) (octets : List ℕ) → is_elements_end ends octets ≡ true
    → BeginsWithElements p likely ends octets 0
elements-nil p likely ends octets e = record {
  elements = NoMore;
  sound = tt;
  probable = λ w. tt;
  rest = octets;
  end = e;
  spelled = refl;
  size = refl;
}

-- no list, where no header begins and elements do not end
pub elements-stop : (p : Place) (likely ends : Bool) (octets : List ℕ) (n : ℕ) → p.padding ≡ false
    → is_elements_end ends octets ≡ false → ((k : ℕ) → BeginsWithElement p likely octets k → ⊥)
    → BeginsWithElements p likely ends octets n → ⊥
elements-stop p likely ends octets n z e absent r = elim (elements-split p likely ends octets n z r) [
  | none t ↦ absurd (cc (e, t))
  | some k m d t ↦ absent k d
]

-- no element begins with 00, or where there are no octets
pub element-zero : (p : Place) (likely : Bool) (octets : List ℕ) (x : ℕ) (more : List ℕ) (n : ℕ) → octets ≡ x ∷ more
    → x ≡ 0
    → BeginsWithElement p likely octets n → ⊥
element-zero p likely octets x more n e z b = zero-begins b.element b.is_one b.sound (b.spelled ∙ e)
  where
    zero-begins : (f : Forest) → is_one_element f ≡ true → IsSound p f → spelling f ++ b.rest ≡ x ∷ more → ⊥
    zero-begins (Primitive h c NoMore) o s g =
        zero-no_header h x ((c ++ []) ++ b.rest) more s.0.0.valid
        (sym (append_assoc (octets_of h) (c ++ []) b.rest) ∙ g) z
    zero-begins (Holder h inside NoMore) o s g =
        zero-no_header h x (lead h ++ ((spelling inside ++ (end_octets h.size ++ [])) ++ b.rest)) more s.0.0.valid
        (sym (append_assoc (octets_of h) (lead h) _) ∙ (sym (append_assoc (opening h) _ b.rest) ∙ g)) z
    zero-begins f o s g = absurd (cc)

-- what is left after some octets, as a slice
pub tail-all : (octets : List ℕ) (at : ℕ) → take (length octets - at) (drop at octets) ≡ drop at octets
tail-all octets at = take_all (length octets - at) (drop at octets) (omega (arith, length-drop at octets))

-- no element begins at 00, and none at the end of the octets
pub no_element-at_zero : (p : Place) (likely : Bool) (octets : List ℕ) (at : ℕ) → at < length octets
    → get_or octets at 0 ≡ 0 → BeginsWithNoElement p likely (drop at octets)
no_element-at_zero p likely octets at h z n b =
    element-zero p likely (drop at octets) (get_or octets at 0) (drop (suc at) octets) n (drop-cons octets at 0 h) z b

pub no_element-at_end : (p : Place) (likely : Bool) (octets : List ℕ) (at : ℕ) → length octets ≤ at
    → BeginsWithNoElement p likely (drop at octets)
no_element-at_end p likely octets at h n b =
    omega (
      arith,
      element-some p likely (drop at octets) n b,
      element-within p likely (drop at octets) n b,
      length-drop at octets,
    )

-- and what is left of that after some octets more
pub tail-of_tail : (octets : List ℕ) (at m : ℕ)
    → take (length (take (length octets - at) (drop at octets)) - m)
    (drop m (take (length octets - at) (drop at octets)))
    ≡ drop m (drop at octets)
tail-of_tail octets at m =
    tail-all (take (length octets - at) (drop at octets)) m ∙ ap (drop m) (tail-all octets at)

-- elements end where there are no more octets
pub empty-end : (octets : List ℕ) → eqb (length octets) 0 ≡ is_elements_end false octets
empty-end [] = refl
empty-end (x ∷ octets) = ne_eqb (length (x ∷ octets)) 0 (λ e. omega (arith, e))
