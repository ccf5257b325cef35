-- One more octet after a forest that obeys the grammar gives what is right.
use Rattle.std.proofs.Common.{◌≡◌, ◌≢◌, inl, inr, ℕ, ◌+◌, ◌<◌, Bool, true, false, ◌&&◌, leb, List, [], ◌∷◌, ◌++◌}
use Rattle.std.proofs.Common.{length, refl, sym, ap, ◌∙◌, arith, append_assoc, append-nil, length-append, eq-eqb}
use Rattle.std.proofs.Common.{ne_eqb}
use Rattle.std.proofs.lemmas.Bool.{cases_eq, cases_Bool, true≢false}
use Rattle.tlv_head.specs.declared.header.Size.TheVariants.{Definite}
use Rattle.tlv_head.specs.Header.{HeaderValue, IsHeader, announced_length, holds, octets_of}
use Rattle.tlv_head.specs.Refusal.{IsHeaderPrefix}
use Rattle.tlv_head.proofs.GrammarLemmas.Scan.{Origin, Scan, Fresh, High, Named, Long, Ready, Stuck, Over, origin_of}
use Rattle.tlv_head.proofs.GrammarLemmas.Scan.{step, scan, first-more}
use Rattle.tlv_head.proofs.GrammarLemmas.Meaning.{IsStateAfter, reads-step, reads-scan, prefix-from_more, prefix-bytes}
use Rattle.tlv_walk.specs.Forest.{Forest, Holder, NoMore, OpenBitString, OpenEndOctets, OpenHeader, OpenHolder}
use Rattle.tlv_walk.specs.Forest.{OpenPrimitive, PaddingOctet, Primitive, contents_length, end_octets, holder_extent, opening}
use Rattle.tlv_walk.specs.Forest.{spelling}
use Rattle.tlv_walk.specs.Place.{Fits, IsHeaderAt, IsHolderAt, ObeysGrammar, Place, announced_extent, place_after}
use Rattle.tlv_walk.specs.Place.{place_of_children}
use Rattle.tlv_walk.proofs.GrammarLemmas.Bounds.{IsEndless, fits, indefinite-endless, within-fits, within-le}
use Rattle.tlv_walk.proofs.GrammarLemmas.Spellings.{append_assoc-3, append_assoc-4, length-holder, length-primitive}
use Rattle.tlv_walk.proofs.GrammarLemmas.PushSteps.{IsWholePrimitive, IsWholeHolder, PushStep, origin, holder_so_far}
use Rattle.tlv_walk.proofs.GrammarLemmas.PushSteps.{complete, begin, zero_between, push_after, settle, push, Spells}
use Rattle.tlv_walk.proofs.GrammarLemmas.PushSteps.{IsStep, Grown, Ended, Refused}
use Rattle.tlv_walk.proofs.GrammarLemmas.OpenElements.{element_begun-spells, holder_so_far-spells}
use Rattle.tlv_walk.proofs.GrammarLemmas.OpenElements.{primitive_so_far-spells}
use Rattle.tlv_walk.proofs.GrammarLemmas.OpenElements.{size-definite}
use Rattle.tlv_walk.proofs.GrammarLemmas.Leads.{lead-one}

-- a header that is complete
complete-sound : (p : Place) (h : HeaderValue) → IsHeader h → origin_of h ≡ origin p
    → IsStep p (octets_of h) (complete p h)
complete-sound p h valid at =
    let header : IsHeaderAt p h = record {
      valid = valid;
      offset = ap (λ (o : Origin). o.offset) at;
      named = ap (λ (o : Origin). o.named) at;
    } in
    elim (cases_Bool (holds h && leb 128 p.depth)) [
      | inl deep ↦ rw deep tt
      | inr room ↦ elim (cases_Bool (fits p (length (octets_of h) + announced_length h.size))) [
        | inl f ↦ rw (room, f) (element_begun-spells p h (holds h) header refl room (within-fits p.bound _ f))
        | inr f ↦ rw (room, f) tt
      ]
    ]

-- a prefix of a header
prefix-sound : (p : Place) (o : List ℕ) → o ≢ [] → IsHeaderPrefix o → Fits p (length o) → Spells p o (OpenHeader o)
prefix-sound p o some front f = record { obeys_grammar = (some, front, f); spelled = refl }

-- octets of a header, by what they say
begin-sound : (p : Place) (o : List ℕ) (s : Scan) → IsStateAfter (origin p) s o → o ≢ [] → Fits p (length o)
    → IsStep p o (begin p o s)
begin-sound p o Fresh r some f = absurd (some r)
begin-sound p o (High c k ds) r some f =
    prefix-sound p o some (prefix-from_more (origin p) (High c k ds) o r some refl) f
begin-sound p o (Named c k n i) r some f =
    prefix-sound p o some (prefix-from_more (origin p) (Named c k n i) o r some refl) f
begin-sound p o (Long c k n i m ds) r some f =
    prefix-sound p o some (prefix-from_more (origin p) (Long c k n i m ds) o r some refl) f
begin-sound p o (Ready h) r some f = rw (r.1) (complete-sound p h r.0 r.2)
begin-sound p o (Stuck code) r some f = tt
begin-sound p o Over r some f = tt

-- a list with one more is not empty
pub push≢nil : (o : List ℕ) (x : ℕ) → o ++ x ∷ [] ≢ []
push≢nil o x e = omega (arith, ap length e, length-append o (x ∷ []))

-- after a prefix of a header
prefix-step : (p : Place) (o : List ℕ) (x : ℕ) → x < 256 → IsHeaderPrefix o
    → IsStep p (o ++ x ∷ []) (push p (OpenHeader o) x)
prefix-step p o x h front = elim (cases_Bool (fits p (length o + 1))) [
  | inl f ↦ rw f
      (begin-sound p (o ++ x ∷ []) (step (origin p) (scan (origin p) o) x)
      (reads-step (origin p) x (scan (origin p) o) o h (reads-scan (origin p) o (prefix-bytes o front)))
      (push≢nil o x)
      (within-le p.bound _ _ (omega (arith, length-append o (x ∷ []))) (within-fits p.bound _ f)))
  | inr f ↦ rw f tt
]

-- an octet 00 between elements
zero-sound : (p : Place) (i a : Bool) → p.indefinite ≡ i → p.padding ≡ a → Fits p 1
    → IsStep p (0 ∷ []) (zero_between i a)
zero-sound p true a e d f = record { obeys_grammar = (e, f); spelled = refl }
zero-sound p false true e d f = record { obeys_grammar = ((d, e, f), tt); spelled = refl }
zero-sound p false false e d f = tt

-- between elements
no_more-step : (p : Place) (x : ℕ) → x < 256 → IsStep p (x ∷ []) (push p NoMore x)
no_more-step p x h = elim (cases_Bool (fits p 1)) [
  | inl f ↦ elim (cases_eq x 0) [
    | inl z ↦ rw (f, eq-eqb x 0 z, z) (zero-sound p p.indefinite p.padding refl refl (within-fits p.bound _ f))
    | inr nz ↦ rw (f, ne_eqb x 0 nz)
        (prefix-sound p (x ∷ []) (push≢nil [] x)
        (prefix-from_more (origin p) (step (origin p) Fresh x) (x ∷ []) (reads-step (origin p) x Fresh [] h refl)
        (push≢nil [] x) (first-more (origin p) x nz))
        (within-fits p.bound _ f))
  ]
  | inr f ↦ rw f tt
]

-- after the first of the end-of-contents octets
end_octets-step : (p : Place) (x : ℕ) → p.indefinite ≡ true → IsStep p (0 ∷ x ∷ []) (push p OpenEndOctets x)
end_octets-step p x i = elim (cases_Bool (fits p 2)) [
  | inl f ↦ elim (cases_eq x 0) [
    | inl z ↦ rw (f, eq-eqb x 0 z, z) (record {
      obeys_grammar = tt;
      whole = refl;
      indefinite = i;
      spelled = refl;
      fits = within-fits p.bound _ f;
    })
    | inr nz ↦ rw (f, ne_eqb x 0 nz) tt
  ]
  | inr f ↦ rw f tt
]

-- inside the contents of a primitive
open_primitive-step : (p : Place) (h : HeaderValue) (c : List ℕ) (x : ℕ) → ObeysGrammar p (OpenPrimitive h c)
    → IsStep p ((octets_of h ++ c) ++ x ∷ []) (push p (OpenPrimitive h c) x)
open_primitive-step p h c x w =
    let n : (n : ℕ) × (h.size ≡ Definite n) = size-definite h w.0.header.valid w.0.holding in
    let all : announced_length h.size ≡ n.0 = ap announced_length n.1 in
    rw (append_assoc (octets_of h) c (x ∷ []))
    (primitive_so_far-spells p h (c ++ x ∷ []) n.0 w.0.header w.0.holding n.1
    (omega (arith, length-append c (x ∷ []), w.1)) (within-le p.bound _ _ (omega arith) w.0.fits))

-- before the first contents octet of a wrapping BIT STRING
open_bit_string-step : (p : Place) (h : HeaderValue) (x : ℕ) → ObeysGrammar p (OpenBitString h)
    → IsStep p (octets_of h ++ x ∷ []) (push p (OpenBitString h) x)
open_bit_string-step p h x w = elim (cases_eq x 0) [
  | inl z ↦
      let r : Spells p (opening h ++ []) (holder_so_far h NoMore) = holder_so_far-spells p h NoMore w.0 tt in
      rw (eq-eqb x 0 z, z) (record {
        obeys_grammar = r.obeys_grammar;
        spelled = r.spelled ∙ append-nil (opening h) ∙ ap (λ (t : List ℕ). octets_of h ++ t) (lead-one h w.1);
      })
  | inr nz ↦ rw (ne_eqb x 0 nz) tt
]

-- a step of what follows padding
padding-step : (p : Place) (o : List ℕ) (s : PushStep) → (p.padding ≡ true) × (p.indefinite ≡ false) × Fits p 1
    → IsStep (place_after p 1) o s → IsStep p (0 ∷ o) (push_after PaddingOctet s)
padding-step p o (Grown g) w r =
    record { obeys_grammar = (w, r.obeys_grammar); spelled = ap (λ (t : List ℕ). 0 ∷ t) r.spelled }
padding-step p o (Ended g) w r = absurd (true≢false (sym r.indefinite ∙ w.1))
padding-step p o (Refused code) w r = tt

-- a step of what follows a primitive
primitive-step : (p : Place) (h : HeaderValue) (c o : List ℕ) (s : PushStep) → IsWholePrimitive p h c
    → IsStep (place_after p (length (octets_of h) + length c)) o s
    → IsStep p (octets_of h ++ (c ++ o)) (push_after (Primitive h c) s)
primitive-step p h c o (Grown g) w r = record {
  obeys_grammar = (w, r.obeys_grammar);
  spelled = ap (λ (t : List ℕ). octets_of h ++ (c ++ t)) r.spelled;
}
primitive-step p h c o (Ended g) w r = record {
  obeys_grammar = (w, r.obeys_grammar);
  whole = r.whole;
  indefinite = r.indefinite;
  spelled =
      append_assoc-3 (octets_of h) c (spelling g) (0 ∷ 0 ∷ []) ∙ ap (λ (t : List ℕ). octets_of h ++ (c ++ t)) r.spelled;
  fits = within-le p.bound _ _ (omega (arith, length-primitive h c g)) r.fits;
}
primitive-step p h c o (Refused code) w r = tt

-- a step of what follows an element that holds others
holder-step : (p : Place) (h : HeaderValue) (inside : Forest) (o : List ℕ) (s : PushStep) → IsWholeHolder p h inside
    → ObeysGrammar (place_of_children p h) inside → IsStep (place_after p (holder_extent h inside)) o s
    → IsStep p (opening h ++ (spelling inside ++ (end_octets h.size ++ o))) (push_after (Holder h inside) s)
holder-step p h inside o (Grown g) w v r = record {
  obeys_grammar = (w, v, r.obeys_grammar);
  spelled = ap (λ (t : List ℕ). opening h ++ (spelling inside ++ (end_octets h.size ++ t))) r.spelled;
}
holder-step p h inside o (Ended g) w v r = record {
  obeys_grammar = (w, v, r.obeys_grammar);
  whole = r.whole;
  indefinite = r.indefinite;
  spelled =
      append_assoc-4 (opening h) (spelling inside) (end_octets h.size) (spelling g) (0 ∷ 0 ∷ [])
      ∙ ap (λ (t : List ℕ). opening h ++ (spelling inside ++ (end_octets h.size ++ t))) r.spelled;
  fits = within-le p.bound _ _ (omega (arith, length-holder h inside g)) r.fits;
}
holder-step p h inside o (Refused code) w v r = tt

-- a step of what an element holds
open_holder-step : (p : Place) (h : HeaderValue) (o : List ℕ) (s : PushStep) → IsHolderAt p h (announced_extent h)
    → IsStep (place_of_children p h) o s → IsStep p (opening h ++ o) (settle h s)
open_holder-step p h o (Grown g) entry r =
    let e : Spells p (opening h ++ spelling g) (holder_so_far h g) = holder_so_far-spells p h g entry r.obeys_grammar in
    record { obeys_grammar = e.obeys_grammar; spelled = e.spelled ∙ ap (λ (t : List ℕ). opening h ++ t) r.spelled }
open_holder-step p h o (Ended g) entry r =
    let e : IsEndless h.size (p.offset + length (octets_of h)) p.bound (contents_length h g) =
    indefinite-endless h.size _ p.bound _ r.indefinite in
    let two : length (end_octets h.size) ≡ 2 = ap length e.ends in
    record {
      obeys_grammar = (
        (
          record {
            header = entry.header;
            holding = entry.holding;
            shallow = entry.shallow;
            fits = within-le p.bound _ _ (omega arith) (rw e.bound at r.fits);
          },
          r.whole,
          e.filled,
        ),
        r.obeys_grammar,
        tt,
      );
      spelled =
          ap (λ (t : List ℕ). opening h ++ (spelling g ++ (t ++ []))) e.ends
          ∙ ap (λ (t : List ℕ). opening h ++ t) r.spelled;
    }
open_holder-step p h o (Refused code) entry r = tt

-- a step of a forest that obeys the grammar is right: the forest that it gives obeys it, and spells the octet too
pub push-steps : (p : Place) (f : Forest) (x : ℕ) → x < 256 → ObeysGrammar p f
    → IsStep p (spelling f ++ x ∷ []) (push p f x)
push-steps p NoMore x h w = no_more-step p x h
push-steps p (PaddingOctet rest) x h w = padding-step p _ _ w.0 (push-steps (place_after p 1) rest x h w.1)
push-steps p (Primitive header c rest) x h w =
    rw (append_assoc-3 (octets_of header) c (spelling rest) (x ∷ []))
    (primitive-step p header c _ _ w.0 (push-steps (place_after p (length (octets_of header) + length c)) rest x h w.1))
push-steps p (Holder header inside rest) x h w =
    rw (append_assoc-4 (opening header) (spelling inside) (end_octets header.size) (spelling rest) (x ∷ []))
    (holder-step p header inside _ _ w.0 w.1 (push-steps (place_after p (holder_extent header inside)) rest x h w.2))
push-steps p (OpenPrimitive header c) x h w = open_primitive-step p header c x w
push-steps p (OpenHolder header inside) x h w =
    rw (append_assoc (opening header) (spelling inside) (x ∷ []))
    (open_holder-step p header _ _ w.0.0 (push-steps (place_of_children p header) inside x h w.1))
push-steps p (OpenBitString header) x h w = open_bit_string-step p header x w
push-steps p (OpenHeader o) x h w = prefix-step p o x h w.1
push-steps p OpenEndOctets x h w = end_octets-step p x w.0
