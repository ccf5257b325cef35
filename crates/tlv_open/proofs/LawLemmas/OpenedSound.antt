-- Sound elements are sound if the strings that are opened are named.
use Rattle.std.proofs.Common.{◌≡◌, ℕ, ◌+◌, ◌≤◌, Bool, true, false, ◌&&◌, ◌||◌, not, eqb, List, [], ◌∷◌, ◌++◌}
use Rattle.std.proofs.Common.{length, Some, None, IfSome, refl, sym, ap, ◌∙◌, arith, subst, inl, inr}
use Rattle.std.proofs.Common.{length-append, ne_eqb, if◌then◌else◌}
use Rattle.std.proofs.lemmas.Bool.{cases_Bool}
use Rattle.tlv_head.specs.declared.header.Class.{Class}
use Rattle.tlv_head.specs.declared.header.Size.{Size}
use Rattle.tlv_head.specs.declared.header.Size.TheVariants.{Definite}
use Rattle.tlv_head.specs.Header.{HeaderValue, IsHeader, announced_length, definite_length, is_universal}
use Rattle.tlv_head.specs.Header.{holds, octets_of}
use Rattle.tlv_head.proofs.Wraps.{is_wrapper}
use Rattle.tlv_head.proofs.ReaderLemmas.Prefix.{header-two}
use Rattle.tlv_walk.specs.Forest.{Forest, Holder, Primitive, end_octets, holder_extent, lead, opening}
use Rattle.tlv_walk.specs.Forest.{primitive_extent, spelling}
use Rattle.tlv_head.specs.Lists.{is_among}
use Rattle.tlv_walk.specs.Place.{HasItsLength, IsHeaderAt, Place, place_after, place_of_children}
use Rattle.tlv_walk.specs.Reading.{IsSound}
use Rattle.tlv_walk.proofs.EventLemmas.Wrappers.{Rise}
use Rattle.tlv_walk.proofs.GrammarLemmas.PlacedSpelling.{Agrees}
use Rattle.tlv_walk.proofs.GrammarLemmas.Spellings.{length-holder, length-opening, length-primitive}
use Rattle.tlv_open.specs.Held.{HoldsEncodings, after_unused_bits, place_by_itself}
use Rattle.tlv_open.specs.Opens.{Opens, Where, closed, holder, no_more, open_bit_string, open_end_octets, open_header}
use Rattle.tlv_open.specs.Opens.{open_holder, open_primitive, opened, padded, where_of_held}
use Rattle.tlv_open.specs.Private.Held.{inner_octets_of}
use Rattle.tlv_open.proofs.ElementLemmas.FirstElement.{unnamed-holds}
use Rattle.tlv_open.proofs.LawLemmas.OpenedForest.{ArePlain, IsPlainHeader, held-contents, moved, opened_forest}
use Rattle.tlv_open.proofs.LawLemmas.OpenedForest.{opened-rise, opened-spelling, sound-plain}
use Rattle.tlv_open.proofs.LawLemmas.Rising.{after-none, among-first, among-itself, among-others, among-second}
use Rattle.tlv_open.proofs.LawLemmas.Rising.{before-none}

-- where elements are in the input that are at a place by themselves
pub record IsMovedTo (start : ℕ) (p q : Place) : Type 0 where
  pub offset : q.offset ≡ start + p.offset
  pub depth : q.depth ≡ p.depth
  pub padding : q.padding ≡ p.padding

moved-valid : (start : ℕ) (named : Bool) (h : HeaderValue) → IsHeader h → IsHeader (moved start named h)
moved-valid start named h v = record { identifier = v.identifier; lengths = v.lengths; allowed = v.allowed }

-- a header that is not named, and whether its element holds encodings
pub header-unnamed : (start : ℕ) (q : Place) (o : ℕ) (holding : Bool) (h : HeaderValue) → IsPlainHeader o holding h
    → q.offset ≡ start + o → is_among q.offset q.inside ≡ false
    → IsHeaderAt q (moved start false h) × (holds (moved start false h) ≡ holding)
header-unnamed start q o holding h k e none = (
  record {
    valid = moved-valid start false h k.valid;
    offset = omega (arith, k.offset, e);
    named = sym none;
  },
  unnamed-holds h.constructed false h.class h.number h.size refl ∙ k.form,
)

-- a named string that holds encodings wraps them
wraps-by : (c u four three z : Bool) → c ≡ false → u ≡ true → (four || (three && not z)) ≡ true
    → (c || (true && not c && u && (four || (three && not z)))) ≡ true
wraps-by c u four three z e d t = rw (e, d, t) refl

held-wraps : (class : Class) (number : ℕ) (contents octets : List ℕ) (constructed : Bool) (size : Size)
    → constructed ≡ false → size ≡ Definite (length contents) → inner_octets_of class number contents ≡ Some octets
    → (constructed || is_wrapper true class constructed number size) ≡ true
held-wraps class number contents octets constructed size k s e = by_class (is_universal class) refl e
  where
    some_octets : (contents : List ℕ) → after_unused_bits contents ≡ Some octets → eqb (length contents) 0 ≡ false
    some_octets [] t = absurd (cc (t))
    some_octets (x ∷ xs) t = ne_eqb (length (x ∷ xs)) 0 (λ z. omega (arith, z))

    by_class : (u : Bool) → is_universal class ≡ u
        → (if u && eqb number 4 then Some contents
        else (if u && eqb number 3 then after_unused_bits contents else None))
        ≡ Some octets
        → (constructed || is_wrapper true class constructed number size) ≡ true
    by_class false is t = absurd (cc (t))
    by_class true is t =
        wraps-by constructed (is_universal class) (eqb number 4) (eqb number 3) (eqb (announced_length size) 0) k is
        (elim (cases_Bool (eqb number 4)) [
          | inl four ↦ rw four refl
          | inr other ↦
              let t' : (if eqb number 3 then after_unused_bits contents else None) ≡ Some octets = rw other at t in
              elim (cases_Bool (eqb number 3)) [
                | inl three ↦
                    let u : after_unused_bits contents ≡ Some octets = rw three at t' in
                    let some : eqb (announced_length size) 0 ≡ false =
                    ap (λ (z : Size). eqb (announced_length z) 0) s ∙ some_octets contents u in
                    rw (other, three, some) refl
                | inr none ↦ let u : None ≡ Some octets = rw none at t' in absurd (cc (u))
              ]
        ])

pub header-named : (start : ℕ) (q : Place) (o depth : ℕ) (h : HeaderValue) (contents : List ℕ) (inner : Forest)
    → IsPlainHeader o false h → h.size ≡ Definite (length contents) → HoldsEncodings depth h contents inner
    → q.offset ≡ start + o → is_among q.offset q.inside ≡ true
    → IsHeaderAt q (moved start true h) × (holds (moved start true h) ≡ true)
header-named start q o depth h contents inner k size s e named = (
  record {
    valid = moved-valid start true h k.valid;
    offset = omega (arith, k.offset, e);
    named = sym named;
  },
  held-wraps h.class h.number contents (spelling inner) h.constructed h.size k.form size s.octets,
)

-- ---- What is known where a string is opened

module _ (w : Where) (h : HeaderValue) (contents : List ℕ) (inner rest : Forest) (xs ys : List ℕ) (o : ℕ)
    (s : HoldsEncodings w.depth h contents inner) (a : Opens (where_of_held w h) inner xs) (r : Opens w rest ys)
    (k : IsPlainHeader o false h) (size : h.size ≡ Definite (length contents))
    (more : ArePlain (o + primitive_extent h contents) rest) (q : Place) (at : q.offset ≡ w.start + o)
    (agrees : Agrees q ((w.start + h.offset) ∷ (xs ++ ys)) (length (spelling (Primitive h contents rest)))) where
  abbrev pub string : HeaderValue
  string = moved w.start true h

  abbrev pub held_forest : Forest
  held_forest = opened_forest a

  two : 2 ≤ length (octets_of h)
  two = header-two h k.valid

  plain-inner : ArePlain 0 inner
  plain-inner = sound-plain (place_by_itself (w.depth + 1)) inner refl s.sound

  pub held-length : length (spelling held_forest) ≡ length (spelling inner)
  held-length = ap length (opened-spelling 0 a plain-inner)

  pub contents-size : length contents ≡ length (lead h) + length (spelling inner)
  contents-size =
      ap length (held-contents w.depth h contents inner k.form s) ∙ length-append (lead h) (spelling inner)

  pub held-extent : holder_extent string held_forest ≡ primitive_extent h contents
  held-extent =
      let no_end : length (end_octets h.size) ≡ 0 = rw size refl in
      omega (arith, held-length, contents-size, no_end, length-opening h)

  pub held-has_length : HasItsLength string held_forest
  held-has_length = rw size (omega (arith, held-length, contents-size))

  rise-inner : Rise (w.start + (h.offset + length (opening h)) + 0)
      (w.start + (h.offset + length (opening h)) + 0 + length (spelling inner)) xs
  rise-inner = opened-rise 0 a plain-inner

  rise-rest : Rise (w.start + (o + primitive_extent h contents))
      (w.start + (o + primitive_extent h contents) + length (spelling rest)) ys
  rise-rest = opened-rise (o + primitive_extent h contents) r more

  total : length (spelling (Primitive h contents rest))
      ≡ length (octets_of h) + length contents + length (spelling rest)
  total = length-primitive h contents rest

  pub string-named : is_among q.offset q.inside ≡ true
  string-named =
      agrees q.offset (omega arith) (omega (arith, total, two))
      ∙ among-itself q.offset (w.start + h.offset) (xs ++ ys) (omega (arith, at, k.offset))

  pub agrees-inner : Agrees (place_of_children q string) xs (length (spelling inner))
  agrees-inner i least most =
      agrees i (omega (arith, least)) (omega (arith, most, total, contents-size, length-opening h))
      ∙ (among-others i (w.start + h.offset) (xs ++ ys)
      (λ e. omega (arith, e, least, at, k.offset, two, length-opening h))
      ∙ among-first i xs ys
      (before-none _ _ i ys (omega (arith, most, at, contents-size, length-opening h)) rise-rest))

  pub agrees-rest : Agrees (place_after q (holder_extent string held_forest)) ys (length (spelling rest))
  agrees-rest i least most =
      agrees i (omega (arith, least)) (omega (arith, most, total, held-extent))
      ∙ (among-others i (w.start + h.offset) (xs ++ ys)
      (λ e. omega (arith, e, least, at, k.offset, two, held-extent))
      ∙ among-second i xs ys
      (after-none _ _ i xs (omega (arith, least, at, k.offset, held-extent, contents-size, length-opening h))
      rise-inner))

  pub moved-inner : IsMovedTo (w.start + (h.offset + length (opening h))) (place_by_itself (w.depth + 1))
      (record (place_of_children q string) { depth = w.depth + 1 })
  moved-inner = record { offset = omega (arith, at, k.offset); depth = refl; padding = refl }

-- ---- What is known where an element holds others

module _ (w v : Where) (h : HeaderValue) (children rest : Forest) (xs ys : List ℕ) (o : ℕ) (start : v.start ≡ w.start)
    (a : Opens v children xs) (r : Opens w rest ys)
    (k : IsPlainHeader o true h) (inside : ArePlain (o + length (opening h)) children)
    (more : ArePlain (o + holder_extent h children) rest) (q : Place) (at : q.offset ≡ w.start + o)
    (agrees : Agrees q (xs ++ ys) (length (spelling (Holder h children rest)))) where
  abbrev pub head : HeaderValue
  head = moved w.start false h

  abbrev pub children_forest : Forest
  children_forest = opened_forest a

  two-octets : 2 ≤ length (octets_of h)
  two-octets = header-two h k.valid

  pub children-length : length (spelling children_forest) ≡ length (spelling children)
  children-length = ap length (opened-spelling (o + length (opening h)) a inside)

  pub children-extent : holder_extent head children_forest ≡ holder_extent h children
  children-extent = ap (λ (n : ℕ). length (opening h) + (n + length (end_octets h.size))) children-length

  pub children-has_length : HasItsLength h children → HasItsLength head children_forest
  children-has_length t =
      subst (λ (m : ℕ). IfSome (definite_length h.size) (λ n. length (lead h) + m ≡ n)) (sym children-length) t

  rise-children : Rise (w.start + (o + length (opening h)))
      (w.start + (o + length (opening h)) + length (spelling children)) xs
  rise-children =
      subst (λ (n : ℕ). Rise (n + (o + length (opening h))) (n + (o + length (opening h)) + length (spelling children))
      xs)
      start (opened-rise (o + length (opening h)) a inside)

  rise-others : Rise (w.start + (o + holder_extent h children)) (w.start + (o + holder_extent h children) + length (spelling rest)) ys
  rise-others = opened-rise (o + holder_extent h children) r more

  all : length (spelling (Holder h children rest)) ≡ holder_extent h children + length (spelling rest)
  all = length-holder h children rest

  pub holder-unnamed : is_among q.offset q.inside ≡ false
  holder-unnamed =
      agrees q.offset (omega arith) (omega (arith, all, two-octets, length-opening h))
      ∙ (among-second q.offset xs ys
      (before-none _ _ q.offset xs (omega (arith, at, two-octets, length-opening h)) rise-children)
      ∙ before-none _ _ q.offset ys (omega (arith, at, two-octets, length-opening h)) rise-others)

  pub agrees-children : Agrees (place_of_children q head) xs (length (spelling children))
  agrees-children i least most =
      agrees i (omega (arith, least)) (omega (arith, most, all))
      ∙ among-first i xs ys (before-none _ _ i ys (omega (arith, most, at)) rise-others)

  pub agrees-others : Agrees (place_after q (holder_extent head children_forest)) ys (length (spelling rest))
  agrees-others i least most =
      agrees i (omega (arith, least)) (omega (arith, most, all, children-extent))
      ∙ among-second i xs ys (after-none _ _ i xs (omega (arith, least, at, children-extent)) rise-children)

-- ---- Sound elements

pub opened-sound : {w : Where} {f : Forest} {xs : List ℕ} (p q : Place) → (d : Opens w f xs) → p.inside ≡ []
    → p.depth ≡ w.depth → IsMovedTo w.start p q → IsSound p f → Agrees q xs (length (spelling f))
    → IsSound q (opened_forest d)
opened-sound p q no_more e k m s agrees = tt
opened-sound {w = w} p q (padded r) e k m s agrees = (
  m.padding ∙ s.0,
  opened-sound (place_after p 1) (place_after q 1) r e k
      (record { offset = omega (arith, m.offset); depth = m.depth; padding = m.padding }) s.1
      (λ i least most. agrees i (omega (arith, least)) (omega (arith, most))),
)
opened-sound {w = w} p q (opened {h = h} {contents = contents} {rest = rest} {xs = xs} {ys = ys} may inner held a r)
    e k m s agrees =
    let plain : ArePlain p.offset (Primitive h contents rest) = sound-plain p (Primitive h contents rest) e s in
    let far : holder_extent (moved w.start true h) (opened_forest a) ≡ primitive_extent h contents =
    held-extent w h contents inner rest xs ys p.offset held a r plain.0.0 s.0.2 plain.1 q m.offset agrees in
    let named = header-named w.start q p.offset w.depth h contents inner plain.0.0 s.0.2 held m.offset
    (string-named w h contents inner rest xs ys p.offset held a r plain.0.0 s.0.2 plain.1 q m.offset agrees) in (
      (
        named.0,
        named.1,
        omega (arith, held.shallow, k, m.depth),
        held-has_length w h contents inner rest xs ys p.offset held a r plain.0.0 s.0.2 plain.1 q m.offset agrees,
      ),
      opened-sound (place_by_itself (w.depth + 1)) (place_of_children q (moved w.start true h)) a refl refl
          (record {
            offset = omega (arith, m.offset, plain.0.0.offset);
            depth = omega (arith, k, m.depth);
            padding = refl;
          })
          held.sound
          (agrees-inner w h contents inner rest xs ys p.offset held a r plain.0.0 s.0.2 plain.1 q m.offset agrees),
      opened-sound (place_after p (primitive_extent h contents))
          (place_after q (holder_extent (moved w.start true h) (opened_forest a))) r e k
          (record { offset = omega (arith, m.offset, far); depth = m.depth; padding = m.padding }) s.1
          (agrees-rest w h contents inner rest xs ys p.offset held a r plain.0.0 s.0.2 plain.1 q m.offset agrees),
    )
opened-sound {w = w} {xs = xs} p q (closed {h = h} {contents = contents} {rest = rest} none r) e k m s agrees =
    let plain : ArePlain p.offset (Primitive h contents rest) = sound-plain p (Primitive h contents rest) e s in
    let size = length-primitive h contents rest in
    let two : 2 ≤ length (octets_of h) = header-two h plain.0.0.valid in
    let unnamed : is_among q.offset q.inside ≡ false =
    agrees q.offset (omega arith) (omega (arith, length-primitive h contents rest, two))
    ∙ before-none _ _ q.offset xs (omega (arith, m.offset, two))
    (opened-rise (p.offset + primitive_extent h contents) r plain.1) in
    let there = header-unnamed w.start q p.offset false h plain.0.0 m.offset unnamed in (
      (there.0, there.1, s.0.2),
      opened-sound (place_after p (primitive_extent h contents)) (place_after q (primitive_extent h contents)) r e k
          (record { offset = omega (arith, m.offset); depth = m.depth; padding = m.padding }) s.1
          (λ i least most.
          agrees i (omega (arith, least)) (omega (arith, most, length-primitive h contents rest))),
    )
opened-sound {w = w} p q (holder {h = h} {children = children} {rest = rest} {xs = xs} {ys = ys} a r) e k m s agrees =
    let plain : ArePlain p.offset (Holder h children rest) = sound-plain p (Holder h children rest) e s in
    let far : holder_extent (moved w.start false h) (opened_forest a) ≡ holder_extent h children =
    children-extent w _ h children rest xs ys p.offset refl a r plain.0 plain.1 plain.2 q m.offset agrees in
    let there = header-unnamed w.start q p.offset true h plain.0 m.offset
    (holder-unnamed w _ h children rest xs ys p.offset refl a r plain.0 plain.1 plain.2 q m.offset agrees) in (
      (
        there.0,
        there.1,
        omega (arith, s.0.2, m.depth),
        children-has_length w _ h children rest xs ys p.offset refl a r plain.0 plain.1 plain.2 q m.offset agrees
            s.0.3,
      ),
      opened-sound (place_of_children p h) (place_of_children q (moved w.start false h)) a e
          (ap (λ (n : ℕ). n + 1) k)
          (record { offset = omega (arith, m.offset); depth = ap (λ (n : ℕ). n + 1) m.depth; padding = refl }) s.1
          (agrees-children w _ h children rest xs ys p.offset refl a r plain.0 plain.1 plain.2 q m.offset agrees),
      opened-sound (place_after p (holder_extent h children))
          (place_after q (holder_extent (moved w.start false h) (opened_forest a)))
          r e k (record { offset = omega (arith, m.offset, far); depth = m.depth; padding = m.padding }) s.2
          (agrees-others w _ h children rest xs ys p.offset refl a r plain.0 plain.1 plain.2 q m.offset agrees),
    )
opened-sound p q (open_holder a) e k m s agrees = absurd s
opened-sound p q open_primitive e k m s agrees = absurd s
opened-sound p q open_bit_string e k m s agrees = absurd s
opened-sound p q open_header e k m s agrees = absurd s
opened-sound p q open_end_octets e k m s agrees = absurd s
