-- What is found among elements, one after another.
use Rattle.std.proofs.Common.{◌≡◌, ◌≢◌, inl, inr, ℕ, suc, ◌+◌, ◌<◌, ◌≤◌, Bool, true, false, List, [], ◌∷◌, ◌++◌}
use Rattle.std.proofs.Common.{length, drop, get_or, drop-cons, refl, sym, ap, ◌∙◌, arith, subst, append_assoc}
use Rattle.std.proofs.Common.{append-nil}
use Rattle.std.proofs.Common.{length-drop}
use Rattle.std.proofs.lemmas.List.{drop-drop}
use Rattle.tlv_head.specs.Header.{octets_of}
use Rattle.tlv_head.specs.Refusal.{IsHeaderPrefix}
use Rattle.tlv_walk.specs.Forest.{Forest, Holder, NoMore, OpenBitString, OpenEndOctets, OpenHeader, OpenHolder}
use Rattle.tlv_walk.specs.Forest.{OpenPrimitive, PaddingOctet, Primitive, end_octets, is_whole, lead, opening, spelling}
use Rattle.tlv_walk.specs.Place.{ObeysGrammar, Place, place_after}
use Rattle.tlv_walk.proofs.GrammarLemmas.Readings.{unique-empty}
use Rattle.tlv_open.specs.declared.spot.Spot.{Spot}
use Rattle.tlv_open.specs.Private.Elements.{is_elements_end}
use Rattle.tlv_open.specs.Private.Finds.{AddsAll, AddsFirst, AddsStrings, AddsUpTo, Finds, FindsUpTo, FoundStrings}
use Rattle.tlv_open.specs.Private.Finds.{IsReadAt, found_in_turn, goes_on, spot_before, stops}
use Rattle.tlv_open.proofs.FinderLemmas.NothingFound.{nothing_found}
use Rattle.tlv_open.proofs.FinderLemmas.FoundBoth.{both-assoc, both-nothing, finds-no_more, finds-open_end_octets}
use Rattle.tlv_open.proofs.FinderLemmas.FoundBoth.{finds-padded}
use Rattle.tlv_open.proofs.ElementLemmas.OneElement.{regroup-3, regroup-4, zero-no_header}

-- what is read is read at a place with the same offset
abbrev place_with : Place → ℕ → Place
place_with p o = record p { offset = o }

pub read-moved : (p : Place) (o n : ℕ) (g : Forest) (depth offset next : ℕ) (ends : Bool) (octets left rest : List ℕ)
    → o ≡ n → offset ≡ next → octets ≡ left → IsReadAt (place_with p o) g depth offset ends octets rest
    → IsReadAt (place_with p n) g depth next ends left rest
read-moved p o n g depth offset next ends octets left rest same same_offset same_octets r = record {
  depth_is = r.depth_is;
  offset_is = sym same ∙ (r.offset_is ∙ same_offset);
  none_named = r.none_named;
  indefinite = r.indefinite;
  obeys_grammar = subst (λ (k : ℕ). ObeysGrammar (place_with p k) g) same r.obeys_grammar;
  spelled = r.spelled ∙ same_octets;
  end = r.end;
}

-- nothing is found in no octets
pub adds-start : (w : Spot) (offset : ℕ) (ends : Bool) (octets : List ℕ) (old : FoundStrings)
    → AddsFirst w offset ends octets old old 0
adds-start w offset ends octets old p f rest r = record {
  found = nothing_found;
  added = sym (both-nothing old);
  finds =
      goes_on f
      (read-moved p p.offset (p.offset + 0) f w.depth offset (offset + 0) ends octets octets rest (omega arith)
      (omega arith) refl r)
      (λ ys o. o) refl (omega arith);
}

module _ (w : Spot) (p : Place) (f : Forest) (offset : ℕ) (ends : Bool) (octets rest : List ℕ) where
  -- more is found in what follows
  finds-more : (old mid new : FoundStrings) (at n : ℕ) → at < length octets
      → (a : AddsUpTo (spot_before w ends rest) p f offset ends octets rest old mid at)
      → AddsFirst w (offset + at) ends (drop at octets) mid new n
      → AddsUpTo (spot_before w ends rest) p f offset ends octets rest old new (at + n)
  finds-more old mid new at n less a next = by_cases a.found a.added a.finds
    where
      from : (found more : FoundStrings) (g : Forest) → mid ≡ found_in_turn old found → new ≡ found_in_turn mid more
          → ((ys : FoundStrings) → Finds (spot_before w ends rest) g ys
          → Finds (spot_before w ends rest) f (found_in_turn found ys)) → is_whole f ≡ is_whole g
          → length (spelling f) ≡ at + length (spelling g)
          → FindsUpTo (spot_before w ends rest) (place_after p at) g (offset + at) ends (drop at octets) rest more n
          → AddsUpTo (spot_before w ends rest) p f offset ends octets rest old new (at + n)
      from found more g e d finds whole size (goes_on k r finds2 whole2 size2) = record {
        found = found_in_turn found more;
        added = d ∙ (ap (λ (o : FoundStrings). found_in_turn o more) e ∙ both-assoc old found more);
        finds =
            goes_on k
            (read-moved p ((p.offset + at) + n) (p.offset + (at + n)) k w.depth ((offset + at) + n) (offset + (at + n))
            ends (drop n (drop at octets)) (drop (at + n) octets) rest (omega arith) (omega arith)
            (drop-drop n at octets) r)
            (λ ys o.
            subst (Finds (spot_before w ends rest) f) (sym (both-assoc found more ys))
            (finds (found_in_turn more ys) (finds2 ys o)))
            (whole ∙ whole2) (omega (arith, size, size2));
      }
      from found more g e d finds whole size (stops o open_ all) = record {
        found = found_in_turn found more;
        added = d ∙ (ap (λ (o : FoundStrings). found_in_turn o more) e ∙ both-assoc old found more);
        finds = stops (finds more o) (whole ∙ open_) (omega (arith, all, length-drop at octets));
      }

      by_cases : (found : FoundStrings) → mid ≡ found_in_turn old found
          → FindsUpTo (spot_before w ends rest) p f offset ends octets rest found at
          → AddsUpTo (spot_before w ends rest) p f offset ends octets rest old new (at + n)
      by_cases found e (goes_on g r finds whole size) =
          let s : AddsUpTo (spot_before w ends rest) (place_after p at) g (offset + at) ends (drop at octets) rest mid
          new n =
          next (place_after p at) g rest r in
          from found s.found g e s.added finds whole size s.finds
      by_cases found e (stops o open_ all) = absurd (omega (arith, all))

pub adds-more : (w : Spot) (offset : ℕ) (ends : Bool) (octets : List ℕ) (old mid new : FoundStrings) (at n : ℕ)
    → at < length octets
    → AddsFirst w offset ends octets old mid at → AddsFirst w (offset + at) ends (drop at octets) mid new n
    → AddsFirst w offset ends octets old new (at + n)
adds-more w offset ends octets old mid new at n less a next p f rest r =
    finds-more w p f offset ends octets rest old mid new at n less (a p f rest r) next

-- a prefix of a header does not begin with 00
pub prefix-no_zero : (o : List ℕ) (rest more : List ℕ) → IsHeaderPrefix o → o ≢ [] → o ++ rest ≡ 0 ∷ more → ⊥
prefix-no_zero [] rest more q some e = some refl
prefix-no_zero (x ∷ o) rest more q some e =
    let zero : x ≡ 0 = cc (e) in
    zero-no_header q.header x [] (o ++ q.more) q.valid (append-nil (octets_of q.header) ∙ sym q.prefix) zero

-- padding, where elements do not end with end-of-contents octets
adds-zero : (w : Spot) (q : Place) (g : Forest) (offset : ℕ) (more left rest : List ℕ) (old : FoundStrings)
    → left ≡ 0 ∷ more
    → IsReadAt q g w.depth offset false left rest
    → AddsUpTo w q g offset false left rest old old 1
adds-zero w q NoMore offset more left rest old z r = elim r.end [
  | inl e ↦ let w : [] ≡ 0 ∷ more = sym e ∙ (r.spelled ∙ z) in absurd (cc (w))
  | inr e ↦ let w : false ≡ true = e.asked in absurd (cc (w))
]
adds-zero w q (PaddingOctet g) offset more left rest old z r =
    let after : spelling g ++ rest ≡ more = let e : 0 ∷ (spelling g ++ rest) ≡ 0 ∷ more = r.spelled ∙ z in cc (e) in
    record {
      found = nothing_found;
      added = sym (both-nothing old);
      finds =
          goes_on g
          (record {
            depth_is = r.depth_is;
            offset_is = ap (λ (n : ℕ). n + 1) r.offset_is;
            none_named = r.none_named;
            indefinite = r.indefinite;
            obeys_grammar = r.obeys_grammar.1;
            spelled = after ∙ ap (drop 1) (sym z);
            end = elim r.end [
              | inl e ↦ inl e
              | inr e ↦ inr (record { asked = e.asked; whole = e.whole; end = e.end })
            ];
          })
          (λ ys o. finds-padded w g ys o) refl (omega arith);
    }
adds-zero w q (Primitive k c g) offset more left rest old z r =
    absurd (zero-no_header k 0 (c ++ (spelling g ++ rest)) more r.obeys_grammar.0.0.header.valid
    (sym (regroup-3 (octets_of k) c (spelling g) rest) ∙ (r.spelled ∙ z)) refl)
adds-zero w q (Holder k inside g) offset more left rest old z r =
    absurd (zero-no_header k 0 _ more r.obeys_grammar.0.0.header.valid
    (sym (append_assoc (octets_of k) (lead k) _)
    ∙ (sym (regroup-4 (opening k) (spelling inside) (end_octets k.size) (spelling g) rest) ∙ (r.spelled ∙ z))) refl)
adds-zero w q (OpenPrimitive k c) offset more left rest old z r =
    absurd (zero-no_header k 0 (c ++ rest) more r.obeys_grammar.0.header.valid
    (sym (append_assoc (octets_of k) c rest) ∙ (r.spelled ∙ z)) refl)
adds-zero w q (OpenHolder k inside) offset more left rest old z r =
    absurd (zero-no_header k 0 _ more r.obeys_grammar.0.0.header.valid
    (sym (append_assoc (octets_of k) (lead k) _)
    ∙ (sym (append_assoc (opening k) (spelling inside) rest) ∙ (r.spelled ∙ z))) refl)
adds-zero w q (OpenBitString k) offset more left rest old z r =
    absurd (zero-no_header k 0 rest more r.obeys_grammar.0.header.valid (r.spelled ∙ z) refl)
adds-zero w q (OpenHeader o) offset more left rest old z r =
    absurd (prefix-no_zero o rest more r.obeys_grammar.1 r.obeys_grammar.0 (r.spelled ∙ z))
adds-zero w q OpenEndOctets offset more left rest old z r =
    let w : false ≡ true = sym r.indefinite ∙ r.obeys_grammar.0 in absurd (cc (w))

pub adds-padding : (w : Spot) (offset : ℕ) (ends : Bool) (octets : List ℕ) (old mid : FoundStrings) (at : ℕ)
    → at < length octets
    → get_or octets at 0 ≡ 0 → ends ≡ false → AddsFirst w offset ends octets old mid at
    → AddsFirst w offset ends octets old mid (at + 1)
adds-padding w offset ends octets old mid at less z e a =
    adds-more w offset ends octets old mid mid at 1 less a
    (λ p f rest r.
    subst
    (λ (k : Bool). AddsUpTo (spot_before w ends rest) p f (offset + at) k (drop at octets) rest mid mid 1) (sym e)
    (adds-zero (spot_before w ends rest) p f (offset + at) (drop (suc at) octets) (drop at octets) rest mid
    (drop-cons octets at 0 less ∙ ap (λ (x : ℕ). x ∷ drop (suc at) octets) z)
    (subst (λ (k : Bool). IsReadAt p f w.depth (offset + at) k (drop at octets) rest) e r)))

-- where nothing more is found
pub record IsLast (w : Spot) (g : Forest) (left : List ℕ) : Type 0 where
  pub finds : Finds w g nothing_found
  pub size : is_whole g ≡ true → length (spelling g) ≡ 0
  pub unfinished : is_whole g ≡ false → is_elements_end true left ≡ false

pub drop-end : (octets : List ℕ) (at : ℕ) → length octets ≤ at → drop at octets ≡ []
drop-end octets at h = nil (drop at octets) (omega (arith, length-drop at octets))
  where
    nil : (xs : List ℕ) → length xs ≤ 0 → xs ≡ []
    nil [] h = refl
    nil (x ∷ xs) h = absurd (omega arith)

adds-last : (w : Spot) (p : Place) (f : Forest) (offset : ℕ) (ends : Bool) (octets rest : List ℕ)
    (old new found : FoundStrings)
    (at : ℕ)
    → ((g : Forest) → IsReadAt (place_after p at) g w.depth (offset + at) ends (drop at octets) rest
    → IsLast w g (drop at octets))
    → new ≡ found_in_turn old found → FindsUpTo w p f offset ends octets rest found at
    → AddsStrings w f octets old new at
adds-last w p f offset ends octets rest old new found at last e (goes_on g r finds whole size) =
    let l : IsLast w g (drop at octets) = last g r in
    record {
      found = found;
      added = e;
      finds = subst (Finds w f) (both-nothing found) (finds nothing_found l.finds);
      size = λ t. omega (arith, size, l.size (sym whole ∙ t));
      unfinished = λ t. l.unfinished (sym whole ∙ t);
    }
adds-last w p f offset ends octets rest old new found at last e (stops o open_ all) = record {
  found = found;
  added = e;
  finds = o;
  size = λ t. let u : true ≡ false = sym t ∙ open_ in absurd (cc (u));
  unfinished = λ t. ap (is_elements_end true) (drop-end octets at (omega (arith, all)));
}

-- no octets are left
last-nothing : (w : Spot) (q : Place) (g : Forest) (offset : ℕ) (ends : Bool) (left rest : List ℕ) → left ≡ []
    → IsReadAt q g w.depth offset ends left rest → IsLast w g left
last-nothing w q g offset ends left rest e r =
    let none : spelling g ≡ [] = front (spelling g) rest (r.spelled ∙ e) in
    let same : NoMore ≡ g = sym (unique-empty q g r.obeys_grammar none) in
    subst (λ (k : Forest). IsLast w k left) same (record {
      finds = finds-no_more w;
      size = λ t. refl;
      unfinished = λ t. absurd (cc (t));
    })
  where
    front : (a b : List ℕ) → a ++ b ≡ [] → a ≡ []
    front [] b e = refl
    front (x ∷ a) b e = absurd (cc (e))

-- a 00 is left, and elements end with end-of-contents octets
last-zero : (w : Spot) (q : Place) (g : Forest) (offset : ℕ) (more left rest : List ℕ) → left ≡ 0 ∷ more
    → IsReadAt q g w.depth offset true left rest → IsLast w g left
last-zero w q NoMore offset more left rest z r = record {
  finds = finds-no_more w;
  size = λ t. refl;
  unfinished = λ t. absurd (cc (t));
}
last-zero w q (PaddingOctet g) offset more left rest z r =
    let w : true ≡ false = sym r.indefinite ∙ r.obeys_grammar.0.1 in absurd (cc (w))
last-zero w q (Primitive k c g) offset more left rest z r =
    absurd (zero-no_header k 0 (c ++ (spelling g ++ rest)) more r.obeys_grammar.0.0.header.valid
    (sym (regroup-3 (octets_of k) c (spelling g) rest) ∙ (r.spelled ∙ z)) refl)
last-zero w q (Holder k inside g) offset more left rest z r =
    absurd (zero-no_header k 0 _ more r.obeys_grammar.0.0.header.valid
    (sym (append_assoc (octets_of k) (lead k) _)
    ∙ (sym (regroup-4 (opening k) (spelling inside) (end_octets k.size) (spelling g) rest) ∙ (r.spelled ∙ z))) refl)
last-zero w q (OpenPrimitive k c) offset more left rest z r =
    absurd (zero-no_header k 0 (c ++ rest) more r.obeys_grammar.0.header.valid
    (sym (append_assoc (octets_of k) c rest) ∙ (r.spelled ∙ z)) refl)
last-zero w q (OpenHolder k inside) offset more left rest z r =
    absurd (zero-no_header k 0 _ more r.obeys_grammar.0.0.header.valid
    (sym (append_assoc (octets_of k) (lead k) _)
    ∙ (sym (append_assoc (opening k) (spelling inside) rest) ∙ (r.spelled ∙ z))) refl)
last-zero w q (OpenBitString k) offset more left rest z r =
    absurd (zero-no_header k 0 rest more r.obeys_grammar.0.header.valid (r.spelled ∙ z) refl)
last-zero w q (OpenHeader o) offset more left rest z r =
    absurd (prefix-no_zero o rest more r.obeys_grammar.1 r.obeys_grammar.0 (r.spelled ∙ z))
last-zero w q OpenEndOctets offset more left rest z r = elim r.end [
  | inl e ↦ record {
    finds = finds-open_end_octets w;
    size = λ t. absurd (cc (t));
    unfinished = λ t. ap (is_elements_end true) (sym r.spelled ∙ ap (λ (o : List ℕ). 0 ∷ o) e);
  }
  | inr e ↦ let u : false ≡ true = e.whole in absurd (cc (u))
]

-- the octets have ended
pub adds-done : (w : Spot) (offset : ℕ) (ends : Bool) (octets : List ℕ) (old new : FoundStrings) (at : ℕ)
    → length octets ≤ at
    → AddsFirst w offset ends octets old new at → AddsAll w offset ends octets old new at
adds-done w offset ends octets old new at h a p f rest r =
    let s : AddsUpTo (spot_before w ends rest) p f offset ends octets rest old new at = a p f rest r in
    adds-last (spot_before w ends rest) p f offset ends octets rest old new s.found at
    (λ g t. last-nothing (spot_before w ends rest) (place_after p at) g (offset + at) ends (drop at octets) rest
    (drop-end octets at h) t)
    s.added s.finds

-- the elements have ended
pub adds-ended : (w : Spot) (offset : ℕ) (ends : Bool) (octets : List ℕ) (old new : FoundStrings) (at : ℕ)
    → at < length octets
    → get_or octets at 0 ≡ 0 → ends ≡ true → AddsFirst w offset ends octets old new at
    → AddsAll w offset ends octets old new at
adds-ended w offset ends octets old new at less z e a p f rest r =
    let s : AddsUpTo (spot_before w ends rest) p f offset ends octets rest old new at = a p f rest r in
    adds-last (spot_before w ends rest) p f offset ends octets rest old new s.found at
    (λ g t.
    last-zero (spot_before w ends rest) (place_after p at) g (offset + at) (drop (suc at) octets) (drop at octets) rest
    (drop-cons octets at 0 less ∙ ap (λ (x : ℕ). x ∷ drop (suc at) octets) z)
    (subst (λ (k : Bool). IsReadAt (place_after p at) g w.depth (offset + at) k (drop at octets) rest) e t))
    s.added s.finds

-- the same of octets and a place that are the same
pub adds-all-at : (v w : Spot) (offset : ℕ) (ends : Bool) (l k : List ℕ) (old new : FoundStrings) (n : ℕ) → v ≡ w
    → l ≡ k
    → AddsAll v offset ends l old new n → AddsAll w offset ends k old new n
adds-all-at v w offset ends l k old new n e d a =
    subst (λ (o : List ℕ). AddsAll w offset ends o old new n) d
    (subst (λ (u : Spot). AddsAll u offset ends l old new n) e a)

pub adds-first-at : (w : Spot) (offset : ℕ) (ends : Bool) (l k : List ℕ) (old new : FoundStrings) (n : ℕ) → l ≡ k
    → AddsFirst w offset ends l old new n → AddsFirst w offset ends k old new n
adds-first-at w offset ends l k old new n d a = subst (λ (o : List ℕ). AddsFirst w offset ends o old new n) d a
