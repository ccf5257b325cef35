-- Whether elements are sound, one after another.
use Rattle.std.proofs.Common.{◌≡◌, ◌≢◌, ℕ, suc, ◌+◌, ◌<◌, ◌≤◌, Bool, true, false, not, ◌&&◌, List, [], ◌∷◌}
use Rattle.std.proofs.Common.{length, drop, get_or, drop-cons, refl, sym, ap, ◌∙◌, arith, subst}
use Rattle.std.proofs.lemmas.Bool.{and_parts}
use Rattle.std.proofs.lemmas.List.{drop-drop}
use Rattle.tlv_walk.specs.Forest.{PaddingOctet}
use Rattle.tlv_walk.specs.Place.{Place}
use Rattle.tlv_open.specs.declared.extent.Extent.{Extent}
use Rattle.tlv_open.specs.declared.spot.Spot.{Spot}
use Rattle.tlv_open.specs.Private.Adds.{SaysSound, place_among}
use Rattle.tlv_open.specs.Private.Elements.{BeginsWithElement, BeginsWithElements, BeginsWithNoElement}
use Rattle.tlv_open.specs.Private.Elements.{BeginsWithNoElements, IfSound, SaysElement}
use Rattle.tlv_open.specs.Private.Elements.{is_elements_end, place_at}
use Rattle.tlv_open.specs.Private.Finds.{AddsFirst, FoundStrings}
use Rattle.tlv_open.proofs.ElementLemmas.Elements.{elements-cons, elements-nil, elements-none, elements-rest}
use Rattle.tlv_open.proofs.ElementLemmas.Elements.{elements-started, elements-stop, no_element-at_end}
use Rattle.tlv_open.proofs.ElementLemmas.Elements.{no_element-at_zero}
use Rattle.tlv_open.proofs.FinderLemmas.Found.{drop-end}
use Rattle.tlv_open.proofs.FinderLemmas.Inputs.{sound-padded}

-- as far as the octets were gone over: more elements make a longer list, if all were sound; and a list goes on there
pub record SaysSoFar (s : Spot) (offset : ℕ) (ends : Bool) (octets : List ℕ) (at : ℕ) (sound : Bool) : Type 0 where
  pub onward : sound ≡ true → (n : ℕ)
      → BeginsWithElements (place_among s (offset + at)) s.likely ends (drop at octets) n
      → BeginsWithElements (place_among s offset) s.likely ends octets (at + n)
  pub back : s.padding ≡ false → (n : ℕ) → BeginsWithElements (place_at offset s.depth) s.likely ends octets n
      → (sound ≡ true)
      × ((m : ℕ) × BeginsWithElements (place_at (offset + at) s.depth) s.likely ends (drop at octets) m)

element-in : (s : Spot) (offset : ℕ) (octets : List ℕ) (n : ℕ)
    → BeginsWithElement (place_at offset s.depth) s.likely octets n
    → BeginsWithElement (place_among s offset) s.likely octets n
element-in s offset octets n b = record {
  element = b.element;
  is_one = b.is_one;
  sound = sound-padded (place_at offset s.depth) (place_among s offset) b.element refl refl refl refl b.sound;
  probable = b.probable;
  rest = b.rest;
  spelled = b.spelled;
  size = b.size;
}

and-true : (x : Bool) → (x && true) ≡ x
and-true true = refl
and-true false = refl

and-false : (x : Bool) → (x && false) ≡ false
and-false true = refl
and-false false = refl

module _ (s : Spot) (offset : ℕ) (ends : Bool) (octets : List ℕ) where
  moved : (o l n m : ℕ) → o ≡ l → n ≡ m → BeginsWithElements (place_among s o) s.likely ends octets n
      → BeginsWithElements (place_among s l) s.likely ends octets m
  moved o l n m e d b =
      subst (λ (k : ℕ). BeginsWithElements (place_among s l) s.likely ends octets k) d
      (subst (λ (k : ℕ). BeginsWithElements (place_among s k) s.likely ends octets n) e b)

  pub so_far-start : SaysSoFar s offset ends octets 0 true
  so_far-start = record {
    onward = λ t n e. moved (offset + 0) offset n (0 + n) (omega arith) (omega arith) e;
    back = λ z n e. (refl, elements-started offset s.depth s.likely ends octets n e);
  }

  module _ (at : ℕ) (sound : Bool) (less : at < length octets) (far : SaysSoFar s offset ends octets at sound) where
    abbrev left : List ℕ
    left = drop at octets

    abbrev there : Place
    there = place_at (offset + at) s.depth

    -- an element that is sound
    nonzero : (n : ℕ) → BeginsWithElement there s.likely left n → get_or octets at 0 ≢ 0
    nonzero n b z = no_element-at_zero there s.likely octets at less z n b

    next : (n m : ℕ) → BeginsWithElement there s.likely left n
        → BeginsWithElements (place_among s (offset + (at + n))) s.likely ends (drop (at + n) octets) m
        → BeginsWithElements (place_among s (offset + at)) s.likely ends left (n + m)
    next n m b r =
        let place : offset + (at + n) ≡ (offset + at) + n = omega arith in
        elements-cons (place_among s (offset + at)) s.likely ends left n m (element-in s (offset + at) left n b)
        (subst (λ (o : ℕ). BeginsWithElements (place_among s o) s.likely ends (drop n left) m) place
        (subst (λ (o : List ℕ). BeginsWithElements (place_among s (offset + (at + n))) s.likely ends o m)
        (sym (drop-drop n at octets)) r))

    pub so_far-sound : (n : ℕ) → BeginsWithElement there s.likely left n → SaysSoFar s offset ends octets (at + n) sound
    so_far-sound n b = record {
      onward = λ t m e.
          moved offset offset (at + (n + m)) ((at + n) + m) refl (omega arith) (far.onward t (n + m) (next n m b e));
      back = λ z m e.
          let h = far.back z m e in
          (h.0, elements-rest offset s.depth s.likely ends octets at n less (nonzero n b) b h.1);
    }

    -- one that is not
    so_far-unsound : (n : ℕ) → get_or octets at 0 ≢ 0 → BeginsWithNoElement there s.likely left
        → SaysSoFar s offset ends octets (at + n) false
    so_far-unsound n begun none = record {
      onward = λ t m e. absurd (cc (t));
      back = λ z m e.
          absurd (elements-none offset s.depth s.likely ends octets at less begun none (far.back z m e).1);
    }

    pub so_far-element : (n : ℕ) (k : Bool) → get_or octets at 0 ≢ 0
        → IfSound k (BeginsWithElement there s.likely left n) (BeginsWithNoElement there s.likely left)
        → SaysSoFar s offset ends octets (at + n) (sound && k)
    so_far-element n true begun b =
        subst (λ (k : Bool). SaysSoFar s offset ends octets (at + n) k) (sym (and-true sound)) (so_far-sound n b)
    so_far-element n false begun none =
        subst (λ (k : Bool). SaysSoFar s offset ends octets (at + n) k) (sym (and-false sound))
        (so_far-unsound n begun none)

    -- an octet of padding
    after-zero : get_or octets at 0 ≡ 0 → left ≡ 0 ∷ drop (at + 1) octets
    after-zero z =
        let same : suc at ≡ at + 1 = omega arith in
        drop-cons octets at 0 less
        ∙ (ap (λ (x : ℕ). x ∷ drop (suc at) octets) z ∙ ap (λ (n : ℕ). 0 ∷ drop n octets) same)

    padded : (n : ℕ) → get_or octets at 0 ≡ 0 → s.padding ≡ true
        → BeginsWithElements (place_among s (offset + (at + 1))) s.likely ends (drop (at + 1) octets) n
        → BeginsWithElements (place_among s (offset + at)) s.likely ends left (1 + n)
    padded n z pad e =
        let place : offset + (at + 1) ≡ (offset + at) + 1 = omega arith in
        let e' : BeginsWithElements (place_among s ((offset + at) + 1)) s.likely ends (drop (at + 1) octets) n =
        subst (λ (o : ℕ). BeginsWithElements (place_among s o) s.likely ends (drop (at + 1) octets) n) place e in
        record {
          elements = PaddingOctet e'.elements;
          sound = (pad, e'.sound);
          probable = λ t. tt;
          rest = e'.rest;
          end = e'.end;
          spelled = ap (λ (o : List ℕ). 0 ∷ o) e'.spelled ∙ sym (after-zero z);
          size = omega (arith, e'.size);
        }

    pub so_far-zero : get_or octets at 0 ≡ 0 → ends ≡ false
        → SaysSoFar s offset ends octets (at + 1) (sound && s.padding)
    so_far-zero z none = record {
      onward = λ t n e.
          let both : (sound ≡ true) × (s.padding ≡ true) = and_parts sound s.padding t in
          moved offset offset (at + (1 + n)) ((at + 1) + n) refl (omega arith)
          (far.onward both.0 (1 + n) (padded n z both.1 e));
      back = λ p n e.
          let h = far.back p n e in
          let no_end : is_elements_end ends left ≡ false =
          ap (is_elements_end ends) (after-zero z)
          ∙ ap (λ (k : Bool). is_elements_end k (0 ∷ drop (at + 1) octets)) none in
          absurd (elements-stop there s.likely ends left h.1.0 refl no_end
          (no_element-at_zero there s.likely octets at less z) h.1.1);
    }

  -- the end
  says-end : (at : ℕ) (sound : Bool) → SaysSoFar s offset ends octets at sound
      → BeginsWithNoElement (place_at (offset + at) s.depth) s.likely (drop at octets)
      → SaysSound s offset ends octets (record { size = at; sound = sound && is_elements_end ends (drop at octets) })
  says-end at sound far none = record {
    sound = λ t.
        let both : (sound ≡ true) × (is_elements_end ends (drop at octets) ≡ true) =
        and_parts sound (is_elements_end ends (drop at octets)) t in
        moved offset offset (at + 0) at refl (omega arith)
        (far.onward both.0 0 (elements-nil (place_among s (offset + at)) s.likely ends (drop at octets) both.1));
    unsound = λ z t n e.
        let h = far.back z n e in
        let no_end : is_elements_end ends (drop at octets) ≡ false =
        sym (ap (λ (k : Bool). k && is_elements_end ends (drop at octets)) h.0) ∙ t in
        elements-stop (place_at (offset + at) s.depth) s.likely ends (drop at octets) h.1.0 refl no_end none h.1.1;
  }

  pub says-ended : (at : ℕ) (sound : Bool) → at < length octets → get_or octets at 0 ≡ 0 → ends ≡ true
      → SaysSoFar s offset ends octets at sound
      → SaysSound s offset ends octets (record { size = at; sound = sound && is_elements_end true (drop at octets) })
  says-ended at sound less z e far =
      subst
      (λ (k : Bool). SaysSound s offset ends octets
      (record { size = at; sound = sound && is_elements_end k (drop at octets) }))
      e (says-end at sound far (no_element-at_zero (place_at (offset + at) s.depth) s.likely octets at less z))

  pub says-done : (at : ℕ) (sound : Bool) → length octets ≤ at → SaysSoFar s offset ends octets at sound
      → SaysSound s offset ends octets (record { size = at; sound = sound && not ends })
  says-done at sound all far =
      let last : is_elements_end ends (drop at octets) ≡ not ends =
      ap (is_elements_end ends) (drop-end octets at all) ∙ at_end ends in
      subst (λ (k : Bool). SaysSound s offset ends octets (record { size = at; sound = sound && k })) last
      (says-end at sound far (no_element-at_end (place_at (offset + at) s.depth) s.likely octets at all))
    where
      at_end : (k : Bool) → is_elements_end k [] ≡ not k
      at_end true = refl
      at_end false = refl

-- where no padding may be, as it is said of octets by themselves
pub says-inside : (u : Spot) (offset depth : ℕ) (likely ends : Bool) (octets : List ℕ) (e : Extent) → u.depth ≡ depth
    → u.likely ≡ likely → u.padding ≡ false → SaysSound u offset ends octets e
    → IfSound e.sound (BeginsWithElements (place_at offset depth) likely ends octets e.size)
    (BeginsWithNoElements (place_at offset depth) likely ends octets)
says-inside u offset depth likely ends octets e d l z s = by_sound e.sound refl
  where
    by_sound : (k : Bool) → e.sound ≡ k
        → IfSound k (BeginsWithElements (place_at offset depth) likely ends octets e.size)
        (BeginsWithNoElements (place_at offset depth) likely ends octets)
    by_sound true t =
        let place : place_among u offset ≡ place_at offset depth = λ i. record {
          offset = offset;
          depth = d i;
          bound = (place_at offset depth).bound;
          indefinite = false;
          padding = z i;
          inside = [];
        } in
        subst (λ (k : Bool). BeginsWithElements (place_at offset depth) k ends octets e.size) l
        (subst (λ (p : Place). BeginsWithElements p u.likely ends octets e.size) place (s.sound t))
    by_sound false t =
        subst (λ (k : Bool). BeginsWithNoElements (place_at offset depth) k ends octets) l
        (subst (λ (k : ℕ). BeginsWithNoElements (place_at offset k) u.likely ends octets) d (s.unsound z t))

-- what has not ended has all octets
pub adds-all_octets : (w : Spot) (offset : ℕ) (ends : Bool) (octets : List ℕ) (old new : FoundStrings) (e : Extent)
    → e ≡ record { size = length octets; sound = false } → AddsFirst w offset ends octets old new (length octets)
    → AddsFirst w offset ends octets old new e.size
adds-all_octets w offset ends octets old new e same a =
    subst (λ (x : Extent). AddsFirst w offset ends octets old new x.size) (sym same) a

pub says-unsound : (p : Place) (likely : Bool) (octets : List ℕ) (e : Extent)
    → e ≡ record { size = length octets; sound = false } → BeginsWithNoElement p likely octets
    → SaysElement p likely octets e
says-unsound p likely octets e same none = subst (λ (x : Extent). SaysElement p likely octets x) (sym same) none
