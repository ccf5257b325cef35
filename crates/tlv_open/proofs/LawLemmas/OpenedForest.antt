-- The forest in which the strings that are opened are named.
use Rattle.std.proofs.Common.{◌≡◌, ℕ, ◌+◌, ◌≤◌, Bool, true, false, ◌&&◌, eqb, List, [], ◌∷◌, ◌++◌}
use Rattle.std.proofs.Common.{length, Some, None, refl, sym, ap, ap₂, ◌∙◌, arith, append_assoc}
use Rattle.std.proofs.Common.{inl, inr, length-append, eqb-true, if◌then◌else◌}
use Rattle.std.proofs.lemmas.Bool.{cases_Bool}
use Rattle.tlv_head.specs.declared.header.Class.{Class}
use Rattle.tlv_head.specs.declared.header.Size.TheVariants.{Definite}
use Rattle.tlv_head.specs.Header.{HeaderValue, IsHeader, holds, is_universal, octets_of}
use Rattle.tlv_head.proofs.ReaderLemmas.Prefix.{header-two}
use Rattle.tlv_walk.specs.Forest.{Forest, Holder, NoMore, OpenBitString, OpenEndOctets, OpenHeader, OpenHolder}
use Rattle.tlv_walk.specs.Forest.{OpenPrimitive, PaddingOctet, Primitive, end_octets, holder_extent, has_element, is_whole}
use Rattle.tlv_walk.specs.Forest.{lead, opening, primitive_extent, spelling}
use Rattle.tlv_walk.specs.Place.{IsHeaderAt, ObeysGrammar, Place, place_after, place_of_children}
use Rattle.tlv_walk.specs.Reading.{IsSound}
use Rattle.tlv_walk.specs.Wrappers.{wrapper_offsets}
use Rattle.tlv_walk.proofs.GrammarLemmas.Leads.{lead-one, lead_by, wrapper_offset_by}
use Rattle.tlv_walk.proofs.EventLemmas.Wrappers.{Rise}
use Rattle.tlv_walk.proofs.GrammarLemmas.Spellings.{length-holder, length-opening, length-primitive}
use Rattle.tlv_open.specs.Held.{HoldsEncodings, after_unused_bits, place_by_itself}
use Rattle.tlv_open.specs.Opens.{Opens, Where, closed, holder, no_more, open_bit_string, open_end_octets, open_header}
use Rattle.tlv_open.specs.Opens.{open_holder, open_primitive, opened, padded}
use Rattle.tlv_open.specs.Private.Held.{inner_octets_of}
use Rattle.tlv_open.proofs.ElementLemmas.FirstElement.{lead-none}
use Rattle.tlv_open.proofs.FinderLemmas.FirstRead.{unnamed-form}
use Rattle.tlv_open.proofs.LawLemmas.Rising.{rise-append, rise-within}

-- a header of elements that are read by themselves, as it is in the input
abbrev pub moved : ℕ → Bool → HeaderValue → HeaderValue
moved start named h = record h { offset = start + h.offset; named = named }

-- the same elements, in which the strings that are opened are named
abbrev pub opened_forest : {w : Where} {f : Forest} {xs : List ℕ} → Opens w f xs → Forest
opened_forest no_more = NoMore
opened_forest (padded r) = PaddingOctet (opened_forest r)
opened_forest {w = w} (opened {h = h} m inner s a r) =
    Holder (moved w.start true h) (opened_forest a) (opened_forest r)
opened_forest {w = w} (closed {h = h} {contents = contents} n r) =
    Primitive (moved w.start false h) contents (opened_forest r)
opened_forest {w = w} (holder {h = h} a r) = Holder (moved w.start false h) (opened_forest a) (opened_forest r)
opened_forest {w = w} (open_holder {h = h} a) = OpenHolder (moved w.start false h) (opened_forest a)
opened_forest {w = w} (open_primitive {h = h} {contents = contents}) = OpenPrimitive (moved w.start false h) contents
opened_forest {w = w} (open_bit_string {h = h}) = OpenBitString (moved w.start false h)
opened_forest (open_header {octets = octets}) = OpenHeader octets
opened_forest open_end_octets = OpenEndOctets

-- a header at an offset of elements among which no string is named
pub record IsPlainHeader (o : ℕ) (constructed : Bool) (h : HeaderValue) : Type 0 where
  pub valid : IsHeader h
  pub offset : h.offset ≡ o
  pub form : h.constructed ≡ constructed

-- elements from an offset on, among which no string is named
abbrev pub ArePlain : ℕ → Forest → Type 0
ArePlain o NoMore = Unit {0}
ArePlain o (PaddingOctet rest) = ArePlain (o + 1) rest
ArePlain o (Primitive h c rest) =
    (IsPlainHeader o false h × (h.size ≡ Definite (length c))) × ArePlain (o + primitive_extent h c) rest
ArePlain o (Holder h inside rest) =
    IsPlainHeader o true h × ArePlain (o + length (opening h)) inside × ArePlain (o + holder_extent h inside) rest
ArePlain o (OpenPrimitive h c) = IsPlainHeader o false h
ArePlain o (OpenHolder h inside) = IsPlainHeader o true h × ArePlain (o + length (opening h)) inside
ArePlain o (OpenBitString h) = ⊥
ArePlain o (OpenHeader octets) = Unit {0}
ArePlain o OpenEndOctets = Unit {0}

plain-header : (p : Place) (holding : Bool) (h : HeaderValue) → p.inside ≡ [] → IsHeaderAt p h → holds h ≡ holding
    → IsPlainHeader p.offset holding h
plain-header p holding h e k form =
    record { valid = k.valid; offset = k.offset; form = unnamed-form p holding h e k form }

pub sound-plain : (p : Place) (f : Forest) → p.inside ≡ [] → IsSound p f → ArePlain p.offset f
sound-plain p NoMore e s = tt
sound-plain p (PaddingOctet rest) e s = sound-plain (place_after p 1) rest e s.1
sound-plain p (Primitive h c rest) e s =
    ((plain-header p false h e s.0.0 s.0.1, s.0.2), sound-plain (place_after p (primitive_extent h c)) rest e s.1)
sound-plain p (Holder h inside rest) e s = (
  plain-header p true h e s.0.0 s.0.1,
  sound-plain (place_of_children p h) inside e s.1,
  sound-plain (place_after p (holder_extent h inside)) rest e s.2,
)
sound-plain p (OpenPrimitive h c) e s = absurd s
sound-plain p (OpenHolder h inside) e s = absurd s
sound-plain p (OpenBitString h) e s = absurd s
sound-plain p (OpenHeader octets) e s = absurd s
sound-plain p OpenEndOctets e s = absurd s

pub grammar-plain : (p : Place) (f : Forest) → p.inside ≡ [] → ObeysGrammar p f → ArePlain p.offset f
grammar-plain p NoMore e o = tt
grammar-plain p (PaddingOctet rest) e o = grammar-plain (place_after p 1) rest e o.1
grammar-plain p (Primitive h c rest) e o = (
  (plain-header p false h e o.0.0.header o.0.0.holding, o.0.1),
  grammar-plain (place_after p (primitive_extent h c)) rest e o.1,
)
grammar-plain p (Holder h inside rest) e o = (
  plain-header p true h e o.0.0.header o.0.0.holding,
  grammar-plain (place_of_children p h) inside e o.1,
  grammar-plain (place_after p (holder_extent h inside)) rest e o.2,
)
grammar-plain p (OpenPrimitive h c) e o = plain-header p false h e o.0.header o.0.holding
grammar-plain p (OpenHolder h inside) e o =
    (plain-header p true h e o.0.0.header o.0.0.holding, grammar-plain (place_of_children p h) inside e o.1)
grammar-plain p (OpenBitString h) e o =
    let constructed : h.constructed ≡ true = unnamed-form p true h e o.0.header o.0.holding in
    let w : 0 ∷ [] ≡ [] = sym (lead-one h o.1) ∙ lead-none h constructed in
    absurd (cc (w))
grammar-plain p (OpenHeader octets) e o = tt
grammar-plain p OpenEndOctets e o = tt

-- the inner octets are the contents after the lead
lead-contents : (class : Class) (number : ℕ) (contents octets : List ℕ)
    → inner_octets_of class number contents ≡ Some octets
    → contents ≡ lead_by false (eqb number 3) ++ octets
lead-contents class number contents octets e = by_class (is_universal class) e
  where
    unused : (contents : List ℕ) → after_unused_bits contents ≡ Some octets → contents ≡ 0 ∷ octets
    unused [] t = absurd (cc (t))
    unused (x ∷ xs) t = go (eqb x 0) refl t
      where
        go : (b : Bool) → eqb x 0 ≡ b → (if b then Some xs else None) ≡ Some octets → x ∷ xs ≡ 0 ∷ octets
        go true z u = let same : xs ≡ octets = cc (u) in ap₂ (λ (a : ℕ) (o : List ℕ). a ∷ o) (eqb-true x 0 z) same
        go false z u = absurd (cc (u))

    by_class : (u : Bool)
        → (if u && eqb number 4 then Some contents
        else (if u && eqb number 3 then after_unused_bits contents else None))
        ≡ Some octets
        → contents ≡ lead_by false (eqb number 3) ++ octets
    by_class false t = absurd (cc (t))
    by_class true t = elim (cases_Bool (eqb number 4)) [
      | inl four ↦
          let t' : Some contents ≡ Some octets = rw four at t in
          let same : contents ≡ octets = cc (t') in
          rw (eqb-true number 4 four) same
      | inr other ↦
          let t' : (if eqb number 3 then after_unused_bits contents else None) ≡ Some octets = rw other at t in
          elim (cases_Bool (eqb number 3)) [
            | inl three ↦
                let u : after_unused_bits contents ≡ Some octets = rw three at t' in
                rw three (unused contents u)
            | inr none ↦ let u : None ≡ Some octets = rw none at t' in absurd (cc (u))
          ]
    ]

pub held-contents : (depth : ℕ) (h : HeaderValue) (contents : List ℕ) (inner : Forest) → h.constructed ≡ false
    → HoldsEncodings depth h contents inner → contents ≡ lead h ++ spelling inner
held-contents depth h contents inner k s =
    lead-contents h.class h.number contents (spelling inner) s.octets
    ∙ ap (λ (b : Bool). lead_by b (eqb h.number 3) ++ spelling inner) (sym k)

-- the octets are the same
pub opened-spelling : {w : Where} {f : Forest} {xs : List ℕ} (o : ℕ) → (d : Opens w f xs) → ArePlain o f
    → spelling (opened_forest d) ≡ spelling f
opened-spelling o no_more p = refl
opened-spelling o (padded r) p = ap (λ (x : List ℕ). 0 ∷ x) (opened-spelling (o + 1) r p)
opened-spelling {w = w} o (opened {h = h} {contents = contents} {rest = rest} m inner s a r) p =
    let i : spelling (opened_forest a) ≡ spelling inner =
    opened-spelling 0 a (sound-plain (place_by_itself (w.depth + 1)) inner refl s.sound) in
    let t : spelling (opened_forest r) ≡ spelling rest = opened-spelling (o + primitive_extent h contents) r p.1 in
    let no_end : end_octets h.size ≡ [] = rw p.0.1 refl in
    rw (i, t, no_end, held-contents w.depth h contents inner p.0.0.form s)
    (append_assoc (octets_of h) (lead h) (spelling inner ++ spelling rest)
    ∙ ap (λ (x : List ℕ). octets_of h ++ x) (sym (append_assoc (lead h) (spelling inner) (spelling rest))))
opened-spelling o (closed {h = h} {contents = contents} n r) p =
    ap (λ (x : List ℕ). octets_of h ++ (contents ++ x)) (opened-spelling (o + primitive_extent h contents) r p.1)
opened-spelling o (holder {h = h} {children = children} a r) p =
    ap₂ (λ (x y : List ℕ). opening h ++ (x ++ (end_octets h.size ++ y)))
    (opened-spelling (o + length (opening h)) a p.1) (opened-spelling (o + holder_extent h children) r p.2)
opened-spelling o (open_holder {h = h} a) p =
    ap (λ (x : List ℕ). opening h ++ x) (opened-spelling (o + length (opening h)) a p.1)
opened-spelling o open_primitive p = refl
opened-spelling o open_bit_string p = refl
opened-spelling o open_header p = refl
opened-spelling o open_end_octets p = refl

-- what is open, and whether there is an element
pub opened-whole : {w : Where} {f : Forest} {xs : List ℕ} → (d : Opens w f xs)
    → is_whole (opened_forest d) ≡ is_whole f
opened-whole no_more = refl
opened-whole (padded r) = opened-whole r
opened-whole (opened m inner s a r) = opened-whole r
opened-whole (closed n r) = opened-whole r
opened-whole (holder a r) = opened-whole r
opened-whole (open_holder a) = refl
opened-whole open_primitive = refl
opened-whole open_bit_string = refl
opened-whole open_header = refl
opened-whole open_end_octets = refl

pub opened-element : {w : Where} {f : Forest} {xs : List ℕ} → (d : Opens w f xs)
    → has_element (opened_forest d) ≡ has_element f
opened-element no_more = refl
opened-element (padded r) = opened-element r
opened-element (opened m inner s a r) = refl
opened-element (closed n r) = refl
opened-element (holder a r) = refl
opened-element (open_holder a) = refl
opened-element open_primitive = refl
opened-element open_bit_string = refl
opened-element open_header = refl
opened-element open_end_octets = refl

-- the wrappers are the strings that are opened
own-offset : (constructed : Bool) (offset : ℕ) (k : Bool) → constructed ≡ k
    → wrapper_offset_by constructed offset ≡ (if k then [] else offset ∷ [])
own-offset constructed offset k e = rw e refl

pub opened-wrappers : {w : Where} {f : Forest} {xs : List ℕ} (o : ℕ) → (d : Opens w f xs) → ArePlain o f
    → wrapper_offsets (opened_forest d) ≡ xs
opened-wrappers o no_more p = refl
opened-wrappers o (padded r) p = opened-wrappers (o + 1) r p
opened-wrappers {w = w} o (opened {h = h} {contents = contents} m inner s a r) p =
    ap₂ (λ (x y : List ℕ). x ++ y) (own-offset h.constructed (w.start + h.offset) false p.0.0.form)
    (ap₂ (λ (x y : List ℕ). x ++ y)
    (opened-wrappers 0 a (sound-plain (place_by_itself (w.depth + 1)) inner refl s.sound))
    (opened-wrappers (o + primitive_extent h contents) r p.1))
opened-wrappers o (closed {h = h} {contents = contents} n r) p =
    opened-wrappers (o + primitive_extent h contents) r p.1
opened-wrappers {w = w} o (holder {h = h} {children = children} a r) p =
    ap₂ (λ (x y : List ℕ). x ++ y) (own-offset h.constructed (w.start + h.offset) true p.0.form)
    (ap₂ (λ (x y : List ℕ). x ++ y) (opened-wrappers (o + length (opening h)) a p.1)
    (opened-wrappers (o + holder_extent h children) r p.2))
opened-wrappers {w = w} o (open_holder {h = h} a) p =
    ap₂ (λ (x y : List ℕ). x ++ y) (own-offset h.constructed (w.start + h.offset) true p.0.form)
    (opened-wrappers (o + length (opening h)) a p.1)
opened-wrappers o open_primitive p = refl
opened-wrappers o open_bit_string p = absurd p
opened-wrappers o open_header p = refl
opened-wrappers o open_end_octets p = refl

-- the offsets rise, and are those of octets of the elements
pub opened-rise : {w : Where} {f : Forest} {xs : List ℕ} (o : ℕ) → (d : Opens w f xs) → ArePlain o f
    → Rise (w.start + o) (w.start + o + length (spelling f)) xs
opened-rise o no_more p = omega arith
opened-rise {w = w} {xs = xs} o (padded {rest = rest} r) p =
    rise-within _ _ _ _ xs (omega arith) (omega arith) (opened-rise (o + 1) r p)
opened-rise {w = w} o (opened {h = h} {contents = contents} {rest = rest} {xs = xs} {ys = ys} m inner s a r) p =
    let two : 2 ≤ length (octets_of h) = header-two h p.0.0.valid in
    let size : length contents ≡ length (lead h) + length (spelling inner) =
    ap length (held-contents w.depth h contents inner p.0.0.form s)
    ∙ length-append (lead h) (spelling inner) in
    let begin : length (opening h) ≡ length (octets_of h) + length (lead h) = length-opening h in
    let at : h.offset ≡ o = p.0.0.offset in (
      omega (arith, at),
      rise-append _ (w.start + (o + primitive_extent h contents)) _ xs ys
          (rise-within _ _ _ _ xs (omega (arith, at, begin, two)) (omega (arith, at, begin, size))
          (opened-rise 0 a (sound-plain (place_by_itself (w.depth + 1)) inner refl s.sound)))
          (rise-within _ _ _ _ ys (omega arith) (omega (arith, length-primitive h contents rest))
          (opened-rise (o + primitive_extent h contents) r p.1)),
    )
opened-rise {w = w} {xs = xs} o (closed {h = h} {contents = contents} {rest = rest} n r) p =
    rise-within _ _ _ _ xs (omega arith) (omega (arith, length-primitive h contents rest))
    (opened-rise (o + primitive_extent h contents) r p.1)
opened-rise {w = w} o (holder {h = h} {children = children} {rest = rest} {xs = xs} {ys = ys} a r) p =
    rise-append _ (w.start + (o + holder_extent h children)) _ xs ys
    (rise-within _ _ _ _ xs (omega arith) (omega arith) (opened-rise (o + length (opening h)) a p.1))
    (rise-within _ _ _ _ ys (omega arith) (omega (arith, length-holder h children rest))
    (opened-rise (o + holder_extent h children) r p.2))
opened-rise {w = w} {xs = xs} o (open_holder {h = h} {children = children} a) p =
    rise-within _ _ _ _ xs (omega arith) (omega (arith, length-append (opening h) (spelling children)))
    (opened-rise (o + length (opening h)) a p.1)
opened-rise o open_primitive p = omega arith
opened-rise o open_bit_string p = omega arith
opened-rise o open_header p = omega arith
opened-rise o open_end_octets p = omega arith
