-- Every forest that obeys the grammar and has an octet is a shorter one, and the octet pushed.
use Rattle.std.proofs.Common.{◌≡◌, ◌⊎◌, inl, inr, ℕ, ◌+◌, ◌<◌, ◌≤◌, true, false, List, [], ◌∷◌, ◌++◌, length, refl, sym}
use Rattle.std.proofs.Common.{ap, ◌∙◌, arith, append_assoc, append-nil, length-append, eq-eqb, ne_eqb}
use Rattle.std.proofs.lemmas.Bool.{cases_Bool, and_from, true≢false}
use Rattle.tlv_head.specs.declared.header.Size.TheVariants.{Definite}
use Rattle.tlv_head.specs.Header.{HeaderValue, announced_length, holds, octets_of}
use Rattle.tlv_walk.specs.Forest.{Forest, Holder, NoMore, OpenBitString, OpenEndOctets, OpenHeader, OpenHolder}
use Rattle.tlv_walk.specs.Forest.{OpenPrimitive, PaddingOctet, Primitive, contents_length, end_octets, holder_extent, is_whole}
use Rattle.tlv_walk.specs.Forest.{lead, opening, spelling}
use Rattle.tlv_walk.specs.Place.{Fits, IsHeaderAt, IsHolderAt, ObeysGrammar, Place, announced_extent, is_indefinite}
use Rattle.tlv_walk.specs.Place.{place_after, place_of_children}
use Rattle.tlv_walk.proofs.GrammarLemmas.Lengths.{LacksOctets}
use Rattle.tlv_walk.proofs.GrammarLemmas.Bounds.{IsEndless, IsDefiniteLength, definite-length, fits-inside, fits-within}
use Rattle.tlv_walk.proofs.GrammarLemmas.Bounds.{has_length, indefinite-endless, lacks-length, length-full}
use Rattle.tlv_walk.proofs.GrammarLemmas.Bounds.{within-lacks, within-le}
use Rattle.tlv_walk.proofs.GrammarLemmas.Spellings.{append_assoc-3, append_assoc-4, length-holder, length-opening}
use Rattle.tlv_walk.proofs.GrammarLemmas.Spellings.{length-primitive}
use Rattle.tlv_walk.proofs.GrammarLemmas.PushSteps.{IsWholeHolder, IsWholePrimitive, Grown, Ended, holder_so_far}
use Rattle.tlv_walk.proofs.GrammarLemmas.PushSteps.{push_after, is_filled_by, primitive_so_far, push, settle}
use Rattle.tlv_walk.proofs.GrammarLemmas.OpenElements.{spelling-fits, size-definite}
use Rattle.tlv_walk.proofs.GrammarLemmas.Leads.{lead-one}
use Rattle.tlv_walk.proofs.GrammarLemmas.PopHeaders.{list-back, Popped, header-popped, holder_begun-popped, lead-popped}
use Rattle.tlv_walk.proofs.GrammarLemmas.PopHeaders.{prefix-popped, is_nil, is_push}

-- a primitive with all its contents octets
primitive_so_far-whole : (h : HeaderValue) (c : List ℕ) → h.size ≡ Definite (length c)
    → primitive_so_far h c ≡ Primitive h c NoMore
primitive_so_far-whole h c e = rw (eq-eqb (length c) (announced_length h.size) (sym (ap announced_length e)))

-- a primitive that lacks contents octets
primitive_so_far-open : (h : HeaderValue) (c : List ℕ) (n : ℕ) → h.size ≡ Definite n → length c < n
    → primitive_so_far h c ≡ OpenPrimitive h c
primitive_so_far-open h c n e less =
    let all : announced_length h.size ≡ n = ap announced_length e in
    rw (ne_eqb (length c) (announced_length h.size) (λ z. omega arith))

-- a primitive is popped by a contents octet
contents-popped : (p : Place) (h : HeaderValue) (c : List ℕ) (x n : ℕ) (g : Forest) → IsHeaderAt p h
    → holds h ≡ false → h.size ≡ Definite n → length c < n → Fits p (length (octets_of h) + n)
    → primitive_so_far h (c ++ x ∷ []) ≡ g → spelling g ≡ octets_of h ++ (c ++ x ∷ []) → Popped p g
contents-popped p h c x n g header form e less f same spelled = record {
  from = OpenPrimitive h c;
  last = x;
  obeys_grammar = (
    record { header = header; holding = form; fits = rw (ap announced_length e) f },
    omega (arith, less, ap announced_length e),
  );
  spelled = spelled ∙ sym (append_assoc (octets_of h) c (x ∷ []));
  pushed = ap Grown same;
}

-- a primitive is popped by its last contents octet, or by that of its header
primitive-popped : (p : Place) (h : HeaderValue) (c : List ℕ) (n : ℕ) (g : Forest) → IsHeaderAt p h
    → holds h ≡ false → h.size ≡ Definite n → length c ≤ n → Fits p (length (octets_of h) + n)
    → primitive_so_far h c ≡ g → spelling g ≡ octets_of h ++ c → Popped p g
primitive-popped p h c n g header form e most f same spelled = elim (list-back c) [
  | is_nil z ↦
      let f' : Fits p (announced_extent h) = rw (ap announced_length e) f in
      let r : Popped p (primitive_so_far h []) = header-popped p h false header form refl f' in
      let same' : primitive_so_far h [] ≡ g = ap (primitive_so_far h) (sym z) ∙ same in
      rw same' at r
  | is_push ys y z ↦
      let most' : length (ys ++ y ∷ []) ≤ n = rw z at most in
      contents-popped p h ys y n g header form e (omega (arith, length-append ys (y ∷ []))) f
      (ap (primitive_so_far h) (sym z) ∙ same) (spelled ∙ ap (λ (t : List ℕ). octets_of h ++ t) z)
]

-- a whole primitive is popped
whole_primitive-popped : (p : Place) (h : HeaderValue) (c : List ℕ) → IsWholePrimitive p h c
    → Popped p (Primitive h c NoMore)
whole_primitive-popped p h c w =
    primitive-popped p h c (length c) (Primitive h c NoMore) w.0.header w.0.holding w.1 (omega arith)
    w.0.fits (primitive_so_far-whole h c w.1) (ap (λ (t : List ℕ). octets_of h ++ t) (append-nil c))

-- a primitive that lacks contents octets is popped
open_primitive-popped : (p : Place) (h : HeaderValue) (c : List ℕ) → ObeysGrammar p (OpenPrimitive h c)
    → Popped p (OpenPrimitive h c)
open_primitive-popped p h c w =
    let n : (n : ℕ) × (h.size ≡ Definite n) = size-definite h w.0.header.valid w.0.holding in
    let all : announced_length h.size ≡ n.0 = ap announced_length n.1 in
    primitive-popped p h c n.0 (OpenPrimitive h c) w.0.header w.0.holding n.1 (omega (arith, w.1))
    (within-le p.bound _ _ (omega arith) w.0.fits) (primitive_so_far-open h c n.0 n.1 (omega (arith, w.1))) refl

-- an element that lacks contents octets has not ended
holder_so_far-open : (h : HeaderValue) (f : Forest) → (is_whole f ≡ true → LacksOctets h.size (contents_length h f))
    → holder_so_far h f ≡ OpenHolder h f
holder_so_far-open h f lacks = elim (cases_Bool (is_whole f)) [
  | inl e ↦ rw (e, lacks-length h.size (contents_length h f) (lacks e))
  | inr e ↦ rw e
]

-- contents before the last octet lack octets
lacks-before : (p : Place) (h : HeaderValue) (f g : Forest) (x : ℕ) → IsHolderAt p h (announced_extent h)
    → ObeysGrammar (place_of_children p h) g → spelling g ≡ spelling f ++ x ∷ []
    → LacksOctets h.size (contents_length h f)
lacks-before p h f g x entry w spelled =
    within-lacks h.size (p.offset + length (octets_of h)) p.bound (contents_length h f)
    (within-le (place_of_children p h).bound
    _ _ (omega (arith, ap length spelled, length-append (spelling f) (x ∷ []), length-opening h))
    (spelling-fits (place_of_children p h) g (fits-inside p h entry.holding entry.fits) w))

-- an element that holds octets is popped by the last of them, or by that of what comes before
holder_so_far-popped : (p : Place) (h : HeaderValue) (inside g : Forest) → IsHolderAt p h (announced_extent h)
    → ObeysGrammar (place_of_children p h) inside
    → (inside ≡ NoMore) ⊎ Popped (place_of_children p h) inside
    → holder_so_far h inside ≡ g → spelling g ≡ opening h ++ spelling inside → Popped p g
holder_so_far-popped p h inside g entry w (inl stop) same spelled =
    let same' : holder_so_far h NoMore ≡ g = ap (holder_so_far h) (sym stop) ∙ same in
    rw same' at (lead-popped p h (lead h) refl entry)
holder_so_far-popped p h inside g entry w (inr q) same spelled = record {
  from = OpenHolder h q.from;
  last = q.last;
  obeys_grammar = ((entry, λ _. lacks-before p h q.from inside q.last entry w q.spelled), q.obeys_grammar);
  spelled =
      spelled ∙ ap (λ (t : List ℕ). opening h ++ t) q.spelled
      ∙ sym (append_assoc (opening h) (spelling q.from) (q.last ∷ []));
  pushed = ap (settle h) q.pushed ∙ ap Grown same;
}

-- whole elements, and after them the first of the end-of-contents octets
abbrev with_first_end_octet : Forest → Forest
with_first_end_octet NoMore = OpenEndOctets
with_first_end_octet (PaddingOctet rest) = PaddingOctet (with_first_end_octet rest)
with_first_end_octet (Primitive h c rest) = Primitive h c (with_first_end_octet rest)
with_first_end_octet (Holder h inside rest) = Holder h inside (with_first_end_octet rest)
with_first_end_octet (OpenPrimitive h c) = OpenPrimitive h c
with_first_end_octet (OpenHolder h inside) = OpenHolder h inside
with_first_end_octet (OpenBitString h) = OpenBitString h
with_first_end_octet (OpenHeader o) = OpenHeader o
with_first_end_octet OpenEndOctets = OpenEndOctets

-- g is f with the first of the end-of-contents octets, and the second ends f
record HasFirstEndOctet (p : Place) (f g : Forest) : Type 0 where
  obeys_grammar : ObeysGrammar p g
  spelled : spelling g ≡ spelling f ++ 0 ∷ []
  pushed : push p g 0 ≡ Ended f

-- whole elements in an element of indefinite length are so
has-first_end_octet : (p : Place) (f : Forest) → ObeysGrammar p f → is_whole f ≡ true → p.indefinite ≡ true
    → Fits p (length (spelling f) + 2) → HasFirstEndOctet p f (with_first_end_octet f)
has-first_end_octet p NoMore w whole i f =
    record {
      obeys_grammar = (i, within-le p.bound _ _ (omega arith) f);
      spelled = refl;
      pushed = rw (fits-within p.bound (p.offset + 2) f);
    }
has-first_end_octet p (PaddingOctet rest) w whole i f = absurd (true≢false (sym i ∙ w.0.1))
has-first_end_octet p (Primitive h c rest) w whole i f =
    let r : HasFirstEndOctet (place_after p (length (octets_of h) + length c)) rest (with_first_end_octet rest) =
    has-first_end_octet (place_after p (length (octets_of h) + length c)) rest w.1 whole i
    (within-le p.bound _ _ (omega (arith, length-primitive h c rest)) f) in
    record {
      obeys_grammar = (w.0, r.obeys_grammar);
      spelled = rw (r.spelled, append_assoc-3 (octets_of h) c (spelling rest) (0 ∷ []));
      pushed = ap (push_after (Primitive h c)) r.pushed;
    }
has-first_end_octet p (Holder h inside rest) w whole i f =
    let r : HasFirstEndOctet (place_after p (holder_extent h inside)) rest (with_first_end_octet rest) =
    has-first_end_octet (place_after p (holder_extent h inside)) rest w.2 whole i
    (within-le p.bound _ _ (omega (arith, length-holder h inside rest)) f) in
    record {
      obeys_grammar = (w.0, w.1, r.obeys_grammar);
      spelled =
          rw (r.spelled, append_assoc-4 (opening h) (spelling inside) (end_octets h.size) (spelling rest) (0 ∷ []));
      pushed = ap (push_after (Holder h inside)) r.pushed;
    }
has-first_end_octet p (OpenPrimitive h c) w whole i f = absurd (cc)
has-first_end_octet p (OpenHolder h inside) w whole i f = absurd (cc)
has-first_end_octet p (OpenBitString h) w whole i f = absurd (cc)
has-first_end_octet p (OpenHeader o) w whole i f = absurd (cc)
has-first_end_octet p OpenEndOctets w whole i f = absurd (cc)

-- an element of indefinite length is popped by the second of its end-of-contents octets
endless-popped : (p : Place) (h : HeaderValue) (inside : Forest) → is_indefinite h.size ≡ true
    → IsWholeHolder p h inside → ObeysGrammar (place_of_children p h) inside → Popped p (Holder h inside NoMore)
endless-popped p h inside i w v =
    let e : IsEndless h.size (p.offset + length (octets_of h)) p.bound (contents_length h inside) =
    indefinite-endless h.size _ p.bound _ i in
    let two : length (end_octets h.size) ≡ 2 = ap length e.ends in
    let f : Fits (place_of_children p h) (length (spelling inside) + 2) =
    rw e.bound (within-le p.bound _ _ (omega arith) w.0.fits) in
    let r : HasFirstEndOctet (place_of_children p h) inside (with_first_end_octet inside) =
    has-first_end_octet (place_of_children p h) inside v w.1 i f in
    record {
      from = OpenHolder h (with_first_end_octet inside);
      last = 0;
      obeys_grammar = (
        (
          record {
            header = w.0.header;
            holding = w.0.holding;
            shallow = w.0.shallow;
            fits = within-le p.bound _ _ (omega (arith, e.none, length-opening h)) w.0.fits;
          },
          λ _. e.lacks _,
        ),
        r.obeys_grammar,
      );
      spelled = ap (λ (t : List ℕ). opening h ++ (spelling inside ++ (t ++ []))) e.ends
          ∙ rw (r.spelled, append_assoc-3 (opening h) (spelling inside) (0 ∷ []) (0 ∷ []));
      pushed = ap (settle h) r.pushed;
    }

-- an element of definite length is popped as its last octet is
definite-popped : (p : Place) (h : HeaderValue) (inside : Forest) → is_indefinite h.size ≡ false
    → IsWholeHolder p h inside → ObeysGrammar (place_of_children p h) inside
    → (inside ≡ NoMore) ⊎ Popped (place_of_children p h) inside → Popped p (Holder h inside NoMore)
definite-popped p h inside i w v below =
    let test : has_length h.size (contents_length h inside) ≡ true = definite-length h.size _ i w.2 in
    let full : IsDefiniteLength h.size (contents_length h inside) = length-full h.size _ test in
    let none : length (end_octets h.size) ≡ 0 = ap length full.ends in
    let entry : IsHolderAt p h (announced_extent h) = record {
      header = w.0.header;
      holding = w.0.holding;
      shallow = w.0.shallow;
      fits = within-le p.bound _ _ (omega (arith, full.all, length-opening h)) w.0.fits;
    } in
    let filled : is_filled_by h inside ≡ true = and_from _ _ w.1 test in
    holder_so_far-popped p h inside (Holder h inside NoMore) entry v below (rw filled)
    (ap (λ (t : List ℕ). opening h ++ (spelling inside ++ (t ++ []))) full.ends
    ∙ ap (λ (t : List ℕ). opening h ++ t) (append-nil (spelling inside)))

-- an element that holds others and has ended is popped
holder-popped : (p : Place) (h : HeaderValue) (inside : Forest) → IsWholeHolder p h inside
    → ObeysGrammar (place_of_children p h) inside → (inside ≡ NoMore) ⊎ Popped (place_of_children p h) inside
    → Popped p (Holder h inside NoMore)
holder-popped p h inside w v below = elim (cases_Bool (is_indefinite h.size)) [
  | inl i ↦ endless-popped p h inside i w v
  | inr i ↦ definite-popped p h inside i w v below
]

-- padding is popped
padding-popped : (p : Place) → ObeysGrammar p (PaddingOctet NoMore) → Popped p (PaddingOctet NoMore)
padding-popped p w = record {
  from = NoMore;
  last = 0;
  obeys_grammar = tt;
  spelled = refl;
  pushed = rw (fits-within p.bound (p.offset + 1) w.0.2, w.0.1, w.0.0);
}

-- what follows an element is popped: so are both
popped-after : (p q : Place) (f : Forest → Forest) (o : List ℕ) (rest : Forest) → (r : Popped q rest)
    → ObeysGrammar p (f r.from) → ((g : Forest) → spelling (f g) ≡ o ++ spelling g)
    → ((x : ℕ) → push p (f r.from) x ≡ push_after f (push q r.from x)) → Popped p (f rest)
popped-after p q f o rest r w spelled pushed = record {
  from = f r.from;
  last = r.last;
  obeys_grammar = w;
  spelled =
      spelled rest ∙ ap (λ (t : List ℕ). o ++ t) r.spelled ∙ sym (append_assoc o (spelling r.from) (r.last ∷ []))
      ∙ ap (λ (t : List ℕ). t ++ r.last ∷ []) (sym (spelled r.from));
  pushed = pushed r.last ∙ ap (push_after f) r.pushed;
}

-- a forest that obeys the grammar has no octet, or is a shorter one and the octet pushed
pub forest-popped : (p : Place) (g : Forest) → ObeysGrammar p g → (g ≡ NoMore) ⊎ Popped p g
forest-popped p NoMore w = inl refl
forest-popped p (PaddingOctet rest) w = inr (elim (forest-popped (place_after p 1) rest w.1) [
  | inl e ↦ rw e (padding-popped p (w.0, tt))
  | inr r ↦ popped-after p (place_after p 1) PaddingOctet (0 ∷ []) rest r (w.0, r.obeys_grammar) (λ g. refl) (λ x. refl)
])
forest-popped p (Primitive h c rest) w = inr
    (elim (forest-popped (place_after p (length (octets_of h) + length c)) rest w.1) [
      | inl e ↦ rw e (whole_primitive-popped p h c w.0)
      | inr r ↦
          popped-after p _ (Primitive h c) (octets_of h ++ c) rest r (w.0, r.obeys_grammar)
          (λ g. sym (append_assoc (octets_of h) c (spelling g))) (λ x. refl)
    ])
forest-popped p (Holder h inside rest) w = inr (elim (forest-popped (place_after p (holder_extent h inside)) rest w.2) [
  | inl e ↦ rw e (holder-popped p h inside w.0 w.1 (forest-popped (place_of_children p h) inside w.1))
  | inr r ↦
      popped-after p _ (Holder h inside) (opening h ++ (spelling inside ++ end_octets h.size)) rest r
      (w.0, w.1, r.obeys_grammar)
      (λ g. sym (append_assoc-3 (opening h) (spelling inside) (end_octets h.size) (spelling g))) (λ x. refl)
])
forest-popped p (OpenPrimitive h c) w = inr (open_primitive-popped p h c w)
forest-popped p (OpenHolder h inside) w =
    inr
    (holder_so_far-popped p h inside (OpenHolder h inside) w.0.0 w.1 (forest-popped (place_of_children p h) inside w.1)
    (holder_so_far-open h inside w.0.1) refl)
forest-popped p (OpenBitString h) w = inr (holder_begun-popped p h (0 ∷ []) (lead-one h w.1) w.0)
forest-popped p (OpenHeader o) w = inr (elim (list-back o) [
  | is_nil e ↦ absurd (w.0 e)
  | is_push ys y e ↦ rw e (prefix-popped p ys y (rw e at w.1) (rw e at w.2))
])
forest-popped p OpenEndOctets w = inr (record {
  from = NoMore;
  last = 0;
  obeys_grammar = tt;
  spelled = refl;
  pushed = rw (fits-within p.bound (p.offset + 1) w.1, w.0);
})
