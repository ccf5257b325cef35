-- The element with which octets begin, by its header.
use Rattle.std.proofs.Common.{◌≡◌, ℕ, ◌+◌, ◌<◌, ◌≤◌, Bool, true, false, ◌||◌, List, [], ◌∷◌, ◌++◌, length, take, drop}
use Rattle.std.proofs.Common.{IfSome, refl, sym, ap, ap₂, ◌∙◌, arith, subst, append_assoc, append-nil, length-append}
use Rattle.std.proofs.Common.{eqb, eqb-true}
use Rattle.std.proofs.lemmas.Bool.{and_parts}
use Rattle.std.proofs.lemmas.List.{length-take-le, take-append-drop}
use Rattle.std.proofs.Math.Seq.{take-append_seam}
use Rattle.tlv_head.specs.declared.header.Class.{Class}
use Rattle.tlv_head.specs.declared.header.HeaderFields.{HeaderFields}
use Rattle.tlv_head.specs.declared.header.Size.{Size}
use Rattle.tlv_head.specs.declared.header.Size.TheVariants.{Definite, Indefinite}
use Rattle.tlv_head.specs.Header.{HeaderValue, IsHeader, definite_length, holds, octets_of}
use Rattle.tlv_head.proofs.Wraps.{is_wrapper}
use Rattle.tlv_head.specs.HeaderFields.{new_header}
use Rattle.tlv_head.specs.ReadHeader.{BeginsWithFields}
use Rattle.tlv_head.specs.Refusal.{BeginsWithNoHeader}
use Rattle.tlv_walk.specs.Forest.{Forest, Holder, NoMore, Primitive, end_octets, lead, opening, spelling}
use Rattle.tlv_walk.specs.Place.{IsHeaderAt, Place, place_of_children}
use Rattle.tlv_walk.specs.Reading.{IsSound}
use Rattle.tlv_walk.proofs.GrammarLemmas.Spellings.{length-holder, length-opening, length-primitive}
use Rattle.tlv_open.specs.Held.{IsClearPrimitive}
use Rattle.tlv_open.specs.Private.Elements.{AreLikelyIf, BeginsWithElement, BeginsWithElements, BeginsWithNoElement}
use Rattle.tlv_open.specs.Private.Elements.{BeginsWithNoElements, is_elements_end, is_one_element, place_at}
use Rattle.tlv_open.proofs.ElementLemmas.OneElement.{header-one, regroup-3, regroup-4}
use Rattle.tlv_open.proofs.ElementLemmas.Places.{AreAlikePlaces, alike-back, sound-alike}

-- an element that is not named holds others exactly if it is constructed
pub unnamed-holds : (constructed named : Bool) (class : Class) (number : ℕ) (size : Size) → named ≡ false
    → (constructed || is_wrapper named class constructed number size) ≡ constructed
unnamed-holds true named class number size e = refl
unnamed-holds false named class number size e = rw e refl

pub lead-none : (h : HeaderValue) → h.constructed ≡ true → lead h ≡ []
lead-none h e = rw e refl

-- a definite length, if nothing is before what is held
pub length-led : (s : Size) (l m : ℕ) → l ≡ 0 → IfSome (definite_length s) (λ n. l + m ≡ n)
    → IfSome (definite_length s) (λ n. m ≡ n)
length-led (Definite n) l m e same = omega arith
length-led Indefinite l m e same = tt

-- an element begins with a header
first-header : (f : Forest) (p : Place) (x octets : List ℕ) → is_one_element f ≡ true → IsSound p f
    → spelling f ++ x ≡ octets → (h : HeaderValue) × (rest : List ℕ) × IsHeader h × (octets ≡ octets_of h ++ rest)
first-header (Primitive h c NoMore) p x octets o s e =
    (h, (c ++ []) ++ x, s.0.0.valid, sym e ∙ append_assoc (octets_of h) (c ++ []) x)
first-header (Holder h inside NoMore) p x octets o s e = (
  h,
  lead h ++ ((spelling inside ++ (end_octets h.size ++ [])) ++ x),
  s.0.0.valid,
  sym e ∙ (append_assoc (opening h) _ x ∙ append_assoc (octets_of h) (lead h) _),
)
first-header f p x octets o s e = absurd (cc)

pub no_header-none : (p : Place) (likely : Bool) (octets : List ℕ) → BeginsWithNoHeader octets
    → BeginsWithNoElement p likely octets
no_header-none p likely octets none n b =
    let r : (h : HeaderValue) × (rest : List ℕ) × IsHeader h × (octets ≡ octets_of h ++ rest) =
    first-header b.element p b.rest octets b.is_one b.sound b.spelled in
    none r.0 r.1 r.2 r.3

-- the element that has this header, if these octets follow it
pub data IsFirst (p : Place) (likely : Bool) (h : HeaderValue) (after : List ℕ) : Type 0 where
  primitive : (c rest : List ℕ) → h.constructed ≡ false → h.size ≡ Definite (length c) → c ++ rest ≡ after
      → (likely ≡ true → IsClearPrimitive h c) → IsFirst p likely h after
  holder : (inside : Forest) (rest : List ℕ) → h.constructed ≡ true
      → IfSome (definite_length h.size) (λ n. length (spelling inside) ≡ n) → p.depth < 128
      → IsSound (place_of_children p h) inside → spelling inside ++ (end_octets h.size ++ rest) ≡ after
      → IsFirst p likely h after

first-from : (p : Place) (likely : Bool) (h : HeaderValue) (after octets x : List ℕ) (f : Forest)
    → IsHeaderAt p h → holds h ≡ h.constructed → octets_of h ++ after ≡ octets → is_one_element f ≡ true
    → IsSound p f → AreLikelyIf likely f → spelling f ++ x ≡ octets → IsFirst p likely h after
first-from p likely h after octets x (Primitive k c NoMore) at form whole o s l e =
    let r : (k ≡ h) × (c ++ ([] ++ x) ≡ after) =
    header-one p k h (c ++ ([] ++ x)) after s.0.0 at
    (sym (regroup-3 (octets_of k) c [] x) ∙ (e ∙ sym whole)) in
    primitive c x (sym form ∙ (ap holds (sym r.0) ∙ s.0.1)) (ap (λ (z : HeaderValue). z.size) (sym r.0) ∙ s.0.2) r.1
    (λ t. subst (λ (z : HeaderValue). IsClearPrimitive z c) r.0 (l t).0)
first-from p likely h after octets x (Holder k inside NoMore) at form whole o s l e =
    let r : (k ≡ h) × (lead k ++ (spelling inside ++ (end_octets k.size ++ ([] ++ x))) ≡ after) =
    header-one p k h _ after s.0.0 at
    (sym (append_assoc (octets_of k) (lead k) _)
    ∙ (sym (regroup-4 (opening k) (spelling inside) (end_octets k.size) [] x) ∙ (e ∙ sym whole))) in
    let constructed : h.constructed ≡ true = sym form ∙ (ap holds (sym r.0) ∙ s.0.1) in
    let no_lead : lead k ≡ [] =
    lead-none k (ap (λ (z : HeaderValue). z.constructed) r.0 ∙ constructed) in
    let size : IfSome (definite_length k.size) (λ n. length (spelling inside) ≡ n) =
    length-led k.size (length (lead k)) (length (spelling inside)) (ap (λ (o : List ℕ). length o) no_lead) s.0.3 in
    holder inside x constructed
    (subst (λ (z : HeaderValue). IfSome (definite_length z.size) (λ n. length (spelling inside) ≡ n)) r.0 size) s.0.2
    (subst (λ (z : HeaderValue). IsSound (place_of_children p z) inside) r.0 s.1)
    (ap (λ (z : HeaderValue). spelling inside ++ (end_octets z.size ++ x)) (sym r.0)
    ∙ (ap (λ (o : List ℕ). o ++ (spelling inside ++ (end_octets k.size ++ x))) (sym no_lead) ∙ r.1))
first-from p likely h after octets x f at form whole o s l e = absurd (cc)

module _ (octets : List ℕ) (offset depth : ℕ) (likely : Bool) (f : HeaderFields) (count : ℕ)
    (b : BeginsWithFields octets offset false f count) where
  abbrev pub head : HeaderValue
  head = new_header f (take count octets)

  abbrev pub after : List ℕ
  after = drop count octets

  abbrev here : Place
  here = place_at offset depth

  abbrev inner : Place
  inner = place_at (offset + count) (depth + 1)

  head-front : octets_of head ≡ take count octets
  head-front = take-append-drop f.id_len (take count octets)

  head-count : length (octets_of head) ≡ count
  head-count = ap length head-front ∙ length-take-le count octets b.within

  head-whole : octets_of head ++ after ≡ octets
  head-whole = ap (λ (o : List ℕ). o ++ after) head-front ∙ take-append-drop count octets

  head-form : holds head ≡ f.constructed
  head-form = unnamed-holds f.constructed f.named f.class f.number f.size b.begins.named

  head-at : IsHeaderAt here head
  head-at = record {
    valid = b.begins.valid;
    offset = b.begins.offset;
    named = b.begins.named;
  }

  opening-count : f.constructed ≡ true → length (opening head) ≡ count
  opening-count e =
      omega (arith, length-opening head, head-count, ap (λ (o : List ℕ). length o) (lead-none head e))

  alike-inside : f.constructed ≡ true → AreAlikePlaces (place_of_children here head) inner
  alike-inside e = record {
    offset = ap (λ (n : ℕ). offset + n) (opening-count e);
    depth = refl;
    padding = refl;
    inside = refl;
  }

  first : (n : ℕ) → BeginsWithElement here likely octets n → IsFirst here likely head after
  first n e =
      first-from here likely head after octets e.rest e.element head-at head-form head-whole
      e.is_one e.sound e.probable e.spelled

  pub first-too_deep : f.constructed ≡ true → 128 ≤ depth → BeginsWithNoElement here likely octets
  first-too_deep k deep n e = elim (first n e) [
    | primitive c rest is_primitive size spelled clear ↦ let w : true ≡ false = sym k ∙ is_primitive in absurd (cc (w))
    | holder inside rest constructed size few sound spelled ↦ omega (arith, few)
  ]

  pub first-too_long : (m : ℕ) → f.size ≡ Definite m → length after < m → BeginsWithNoElement here likely octets
  first-too_long m k long n e = elim (first n e) [
    | primitive c rest is_primitive size spelled clear ↦
        let s : Definite m ≡ Definite (length c) = sym k ∙ size in
        let s' : m ≡ length c = cc (s) in
        omega (arith, ap length spelled, length-append c rest)
    | holder inside rest constructed size few sound spelled ↦
        let s : length (spelling inside) ≡ m = rw k at size in
        omega (arith, ap length spelled, length-append (spelling inside) (end_octets f.size ++ rest))
  ]

  pub first-no_list : (m : ℕ) → f.constructed ≡ true → f.size ≡ Definite m
      → BeginsWithNoElements inner false false (take m after) → BeginsWithNoElement here likely octets
  first-no_list m c k none n e = elim (first n e) [
    | primitive o rest is_primitive size spelled clear ↦ let w : true ≡ false = sym c ∙ is_primitive in absurd (cc (w))
    | holder inside rest constructed size few sound spelled ↦
        let s : length (spelling inside) ≡ m = rw k at size in
        let front : spelling inside ≡ take m after =
        sym (ap₂ take (sym s) (sym spelled) ∙ take-append_seam (spelling inside) (end_octets f.size ++ rest)) in
        none (length (spelling inside)) (record {
          elements = inside;
          sound = sound-alike (place_of_children here head) inner inside (alike-inside c) sound;
          probable = λ w. absurd (cc (w));
          rest = [];
          end = refl;
          spelled = append-nil (spelling inside) ∙ front;
          size = refl;
        })
  ]

  pub first-unclear : (m : ℕ) → f.constructed ≡ false → f.size ≡ Definite m → likely ≡ true
      → (IsClearPrimitive head (take m after) → ⊥) → BeginsWithNoElement here likely octets
  first-unclear m c k l none n e = elim (first n e) [
    | primitive o rest is_primitive size spelled clear ↦
        let s : Definite m ≡ Definite (length o) = sym k ∙ size in
        let s' : m ≡ length o = cc (s) in
        let front : o ≡ take m after = sym (ap₂ take s' (sym spelled) ∙ take-append_seam o rest) in
        none (subst (λ (x : List ℕ). IsClearPrimitive head x) front (clear l))
    | holder inside rest constructed size few sound spelled ↦
        let w : true ≡ false = sym constructed ∙ c in absurd (cc (w))
  ]

  pub first-no_end : f.size ≡ Indefinite → BeginsWithNoElements inner false true after
      → BeginsWithNoElement here likely octets
  first-no_end k none n e = elim (first n e) [
    | primitive o rest is_primitive size spelled clear ↦
        let s : Indefinite ≡ Definite (length o) = sym k ∙ size in
        absurd (cc (s))
    | holder inside rest constructed size few sound spelled ↦
        let s : spelling inside ++ (0 ∷ 0 ∷ rest) ≡ after = rw k at spelled in
        none (length (spelling inside)) (record {
          elements = inside;
          sound = sound-alike (place_of_children here head) inner inside (alike-inside constructed) sound;
          probable = λ w. absurd (cc (w));
          rest = 0 ∷ 0 ∷ rest;
          end = refl;
          spelled = s;
          size = refl;
        })
  ]

  pub first-primitive : (m : ℕ) → f.constructed ≡ false → f.size ≡ Definite m → m ≤ length after
      → (likely ≡ true → IsClearPrimitive head (take m after))
      → BeginsWithElement here likely octets (count + length (take m after))
  first-primitive m c k few clear =
      let all : length (take m after) ≡ m = length-take-le m after few in
      record {
        element = Primitive head (take m after) NoMore;
        is_one = refl;
        sound = ((head-at, head-form ∙ c, k ∙ ap Definite (sym all)), tt);
        probable = λ w. (clear w, tt);
        rest = drop m after;
        spelled =
            regroup-3 (octets_of head) (take m after) [] (drop m after)
            ∙ (ap (λ (o : List ℕ). octets_of head ++ o) (take-append-drop m after) ∙ head-whole);
        size = omega (arith, length-primitive head (take m after) NoMore, head-count);
      }

  pub first-definite : (m n : ℕ) → f.constructed ≡ true → f.size ≡ Definite m → m ≤ length after → depth < 128
      → BeginsWithElements inner false false (take m after) n
      → BeginsWithElement here likely octets (count + length (take m after))
  first-definite m n c k few shallow e =
      let nothing : e.rest ≡ [] = at_end e.rest e.end in
      let same : spelling e.elements ≡ take m after =
      sym (append-nil (spelling e.elements))
      ∙ (ap (λ (o : List ℕ). spelling e.elements ++ o) (sym nothing) ∙ e.spelled) in
      let all : length (spelling e.elements) ≡ m = ap length same ∙ length-take-le m after few in
      let no_end : end_octets f.size ≡ [] = rw k refl in
      record {
        element = Holder head e.elements NoMore;
        is_one = refl;
        sound = (
          (
            head-at,
            head-form ∙ c,
            shallow,
            rw k (omega (arith, all, ap (λ (o : List ℕ). length o) (lead-none head c))),
          ),
          sound-alike inner (place_of_children here head) e.elements (alike-back _ _ (alike-inside c)) e.sound,
          tt,
        );
        probable = λ w. tt;
        rest = drop m after;
        spelled =
            regroup-4 (opening head) (spelling e.elements) (end_octets f.size) [] (drop m after)
            ∙ rw (no_end, lead-none head c, append-nil (octets_of head), same, take-append-drop m after) head-whole;
        size =
            omega (
              arith,
              length-holder head e.elements NoMore,
              opening-count c,
              ap (λ (o : List ℕ). length o) no_end,
              ap length same,
            );
      }
    where
      at_end : (o : List ℕ) → is_elements_end false o ≡ true → o ≡ []
      at_end [] w = refl
      at_end (x ∷ o) w = absurd (cc (w))

  pub first-indefinite : (n : ℕ) → f.size ≡ Indefinite → (f.constructed ≡ true → depth < 128)
      → BeginsWithElements inner false true after n → BeginsWithElement here likely octets (count + n + 2)
  first-indefinite n k shallow e =
      let c : f.constructed ≡ true = or-false f.constructed (rw k at b.begins.valid.allowed) in
      let end : (more : List ℕ) × (e.rest ≡ 0 ∷ 0 ∷ more) = two_zeros e.rest e.end in
      let ends : end_octets f.size ≡ 0 ∷ 0 ∷ [] = rw k refl in
      record {
        element = Holder head e.elements NoMore;
        is_one = refl;
        sound = (
          (head-at, head-form ∙ c, shallow c, rw k tt),
          sound-alike inner (place_of_children here head) e.elements (alike-back _ _ (alike-inside c)) e.sound,
          tt,
        );
        probable = λ w. tt;
        rest = end.0;
        spelled =
            regroup-4 (opening head) (spelling e.elements) (end_octets f.size) [] end.0
            ∙ rw (ends, lead-none head c, append-nil (octets_of head))
            (ap (λ (o : List ℕ). octets_of head ++ o)
            (ap (λ (o : List ℕ). spelling e.elements ++ o) (sym end.1) ∙ e.spelled)
            ∙ head-whole);
        size =
            omega (
              arith,
              length-holder head e.elements NoMore,
              opening-count c,
              ap (λ (o : List ℕ). length o) ends,
              e.size,
            );
      }
    where
      or-false : (x : Bool) → (x || false) ≡ true → x ≡ true
      or-false true w = refl
      or-false false w = absurd (cc (w))

      two_zeros : (o : List ℕ) → is_elements_end true o ≡ true → (more : List ℕ) × (o ≡ 0 ∷ 0 ∷ more)
      two_zeros [] w = absurd (cc (w))
      two_zeros (x ∷ []) w = absurd (cc (w))
      two_zeros (x ∷ y ∷ more) w =
          let parts : (eqb x 0 ≡ true) × (eqb y 0 ≡ true) = and_parts (eqb x 0) (eqb y 0) w in
          (more, ap₂ (λ (a b : ℕ). a ∷ b ∷ more) (eqb-true x 0 parts.0) (eqb-true y 0 parts.1))
