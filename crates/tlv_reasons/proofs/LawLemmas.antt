-- One wrong length, and headers that say other lengths.
use Rattle.std.proofs.Common.{◌≡◌, ℕ, ◌+◌, ◌*◌, ◌-◌, ◌/◌, ◌%◌, ◌^◌, ◌<◌, ◌≤◌, false, List, [], ◌∷◌}
use Rattle.std.proofs.Common.{◌∙◌, All, length, ap, refl, sym, subst, arith, inl, inr, length-append, suc}
use Rattle.std.proofs.Common.{zero, eqb, ne_eqb, lit<}
use Rattle.std.specs.Prelude.{Option, Some, None}
use Rattle.std.proofs.lemmas.Nat.{div-add-mod', div_below, mod_below}
use Rattle.std.proofs.lemmas.List.Elements.{All-nil, All-push}
use Rattle.std.proofs.Math.Nat.{pow-suc, pow-zero}
use Rattle.tlv_head.proofs.GrammarLemmas.Meaning.{allows_definite}
use Rattle.tlv_head.proofs.NumberLemmas.Digits.{value_of-snoc}
use Rattle.tlv_head.specs.declared.header.Size.{Size}
use Rattle.tlv_head.specs.declared.header.Size.TheVariants.{Definite}
use Rattle.tlv_head.specs.Header.{HeaderValue, IsHeader, IsLength, IsLongForm, announced_length, octets_of, value_of}
use Rattle.tlv_reasons.proofs.LengthLemmas.{begun-one}
use Rattle.tlv_reasons.specs.declared.element.Element.{Element}
use Rattle.tlv_reasons.specs.declared.lengths.WrongLength.{WrongLength}
use Rattle.tlv_walk.specs.declared.framing.Framing.{Framing}
use Rattle.tlv_reasons.specs.declared.bounds.Bounds.{Bounds}
use Rattle.tlv_reasons.specs.FirstOf.{IsFirstOf, IsFirstWithin}
use Rattle.tlv_reasons.specs.FirstOf as first
use Rattle.tlv_reasons.specs.WrongLength.{AreWrongLengths, HasNoOtherLength, IsOtherLength, IsRightLength, base_256}
use Rattle.tlv_reasons.specs.WrongLength.{length_bound, length_octets_saying}
use Rattle.tlv_reasons.specs.WrongLength.{with_length}
use Rattle.tlv_reasons.specs.WrongLength as wrong

-- a list has one first number of which something holds, or none
pub first-one : {P : ℕ → Type 0} {xs : List ℕ} {a b : Option ℕ} → IsFirstOf P xs a → IsFirstOf P xs b → a ≡ b
first-one first.no_more first.no_more = refl
first-one (first.here p) (first.here q) = refl
first-one (first.here p) (first.later n g) = absurd (n p)
first-one (first.later n f) (first.here q) = absurd (n q)
first-one (first.later n f) (first.later m g) = first-one f g

-- so with a budget, if each number has one cost
pub within-one : {P : ℕ → Type 0} {Costs : ℕ → ℕ → Type 0} {budget : ℕ} {xs : List ℕ} {a b : Option ℕ}
    → ((x c d : ℕ) → Costs x c → Costs x d → c ≡ d) → IsFirstWithin P Costs budget xs a
    → IsFirstWithin P Costs budget xs b → a ≡ b
within-one one first.all_tried first.all_tried = refl
within-one one first.all_tried first.all_spent = refl
within-one one first.all_spent first.all_tried = refl
within-one one first.all_spent first.all_spent = refl
within-one one first.all_spent (first.tried_well some p) = absurd (omega (arith, some))
within-one one first.all_spent (first.tried_in_vain some n c f) = absurd (omega (arith, some))
within-one one (first.tried_well some p) first.all_spent = absurd (omega (arith, some))
within-one one (first.tried_well some p) (first.tried_well other q) = refl
within-one one (first.tried_well some p) (first.tried_in_vain other n c f) = absurd (n p)
within-one one (first.tried_in_vain some n c f) first.all_spent = absurd (omega (arith, some))
within-one one (first.tried_in_vain some n c f) (first.tried_well other p) = absurd (n p)
within-one {P} {Costs} {b = r} one (first.tried_in_vain {budget} {cost = i} {x} {more} some n c f)
    (first.tried_in_vain {cost = j} other m d g) =
    let same : j ≡ i = one x j i d c in
    within-one one f (subst (λ (k : ℕ). IsFirstWithin P Costs (budget - k) more r) same g)

module _ (framing : Framing) (bounds : Bounds) (octets : List ℕ) (holders : List Element) where
  -- an offset has one other length
  other-one : {offset : ℕ} {v w : WrongLength} → IsOtherLength framing bounds octets holders offset v
      → IsOtherLength framing bounds octets holders offset w → v ≡ w
  other-one {offset = offset} {v = v} {w = w} p q =
      let same : p.header ≡ q.header = begun-one p.header q.header p.begins q.begins in
      let right : IsRightLength framing bounds octets holders offset q.header (Some v.would) =
      subst (λ (h : HeaderValue). IsRightLength framing bounds octets holders offset h (Some v.would)) same p.right in
      let e : Some v.would ≡ Some w.would = first-one right q.right in
      let would : v.would ≡ w.would = cc in
      let place : v.offset ≡ w.offset = p.offset_is ∙ sym q.offset_is in
      let said : v.said ≡ w.said =
      p.said_is ∙ ap (λ (h : HeaderValue). announced_length h.size) same ∙ sym q.said_is in
      λ i. record { offset = place i; said = said i; would = would i }

  -- it has one, or none
  other-none : {offset : ℕ} {w : WrongLength} → IsOtherLength framing bounds octets holders offset w
      → HasNoOtherLength framing bounds octets holders offset → ⊥
  other-none {w = w} p none = let e : Some w.would ≡ None = first-one p.right (none p.header p.begins) in cc

  pub wrong-one : {most : ℕ} {candidates : List ℕ} {a b : List WrongLength}
      → AreWrongLengths framing bounds octets holders most candidates a
      → AreWrongLengths framing bounds octets holders most candidates b → a ≡ b
  wrong-one wrong.no_more wrong.no_more = refl
  wrong-one wrong.no_more wrong.enough = refl
  wrong-one wrong.enough wrong.no_more = refl
  wrong-one wrong.enough wrong.enough = refl
  wrong-one wrong.enough (wrong.named some p f) = absurd (omega (arith, some))
  wrong-one wrong.enough (wrong.passed_over some p f) = absurd (omega (arith, some))
  wrong-one (wrong.named some p f) wrong.enough = absurd (omega (arith, some))
  wrong-one (wrong.passed_over some p f) wrong.enough = absurd (omega (arith, some))
  wrong-one (wrong.named {w = v} some p f) (wrong.named {w = w} other q g) =
      let e : v ≡ w = other-one p q in let more = wrong-one f g in λ i. e i ∷ more i
  wrong-one (wrong.named some p f) (wrong.passed_over other none g) = absurd (other-none p none)
  wrong-one (wrong.passed_over other none g) (wrong.named some p f) = absurd (other-none p none)
  wrong-one (wrong.passed_over some m f) (wrong.passed_over other n g) = wrong-one f g

base-length : (k n : ℕ) → length (base_256 k n) ≡ k
base-length zero n = refl
base-length (suc k) n =
    omega (arith, base-length k (n / 256), length-append (base_256 k (n / 256)) ((n % 256) ∷ []))

base-octets : (k n : ℕ) → All (λ d. d < 256) (base_256 k n)
base-octets zero n = All-nil (λ d. d < 256)
base-octets (suc k) n =
    All-push (λ d. d < 256) (base_256 k (n / 256)) (n % 256) (base-octets k (n / 256)) (mod_below n 256 (lit< tt))

base-value : (k n : ℕ) → n < 256 ^ k → value_of 256 (base_256 k n) ≡ n
base-value zero n small = let e : 256 ^ 0 ≡ 1 = pow-zero 256 in omega arith
base-value (suc k) n small =
    let power : 256 ^ suc k ≡ 256 ^ k * 256 = pow-suc 256 k in
    let part : n / 256 < 256 ^ k = div_below n 256 (256 ^ k) (lit< tt) (omega arith) in
    omega (arith, value_of-snoc 256 (base_256 k (n / 256)) (n % 256), base-value k (n / 256) part, div-add-mod' n 256)

-- length octets that say another length
lengths-said : (n : ℕ) (lengths : List ℕ) (said : ℕ) → IsLength (Definite said) lengths
    → n < length_bound (length lengths) → n < 2 ^ 40
    → IsLength (Definite n) (length_octets_saying n lengths)
    × (length (length_octets_saying n lengths) ≡ length lengths)
lengths-said n lengths said (inl (small, e)) bound limit =
    let below : n < 128 = subst (λ (o : List ℕ). n < length_bound (length o)) e bound in
    subst (λ (o : List ℕ). IsLength (Definite n) (length_octets_saying n o)
    × (length (length_octets_saying n o) ≡ length o)) (sym e) (inl (below, refl), refl)
lengths-said n lengths said (inr long) bound limit = by_digits long.digits long.some long.short long.octets_are
  where
    by_digits : (digits : List ℕ) → 1 ≤ length digits → length digits ≤ 126
        → lengths ≡ (128 + length digits) ∷ digits
        → IsLength (Definite n) (length_octets_saying n lengths)
        × (length (length_octets_saying n lengths) ≡ length lengths)
    by_digits [] some short e = absurd (omega arith)
    by_digits (d ∷ ds) some short e =
        let k : ℕ = length ds + 1 in
        let other : eqb (length ((128 + length (d ∷ ds)) ∷ d ∷ ds)) 1 ≡ false =
        ne_eqb (length ((128 + length (d ∷ ds)) ∷ d ∷ ds)) 1 (λ z. omega (arith, z)) in
        let full : n < length_bound (length ((128 + length (d ∷ ds)) ∷ d ∷ ds)) =
        subst (λ (o : List ℕ). n < length_bound (length o)) e bound in
        let open_bound : n < 256 ^ (length ((128 + length (d ∷ ds)) ∷ d ∷ ds) - 1) = rw other at full in
        let size : length ((128 + length (d ∷ ds)) ∷ d ∷ ds) - 1 ≡ k = omega arith in
        let below : n < 256 ^ k = subst (λ (i : ℕ). n < 256 ^ i) size open_bound in
        let many : length (base_256 k n) ≡ k = base-length k n in
        let long : IsLongForm n ((128 + length (d ∷ ds)) ∷ base_256 k n) = record {
          digits = base_256 k n;
          each = base-octets k n;
          some = omega (arith, many);
          short = omega (arith, many, short);
          value = sym (base-value k n below);
          limit = limit;
          octets_are = ap (λ (i : ℕ). (128 + i) ∷ base_256 k n) (omega (arith, many));
        } in
        subst (λ (o : List ℕ). IsLength (Definite n) (length_octets_saying n o)
        × (length (length_octets_saying n o) ≡ length o)) (sym e) (inr long, omega (arith, many))

pub header-said : (h : HeaderValue) (said n : ℕ) → IsHeader h → h.size ≡ Definite said
    → n < length_bound (length h.length_octets) → n < 2 ^ 40
    → IsHeader (with_length h n) × (length (octets_of (with_length h n)) ≡ length (octets_of h))
header-said h said n valid z bound limit =
    let l = lengths-said n h.length_octets said (subst (λ (x : Size). IsLength x h.length_octets) z valid.lengths) bound limit in (
      record { identifier = valid.identifier; lengths = l.0; allowed = allows_definite h.constructed n },
      omega (
        arith,
        l.1,
        length-append h.identifier_octets h.length_octets,
        length-append h.identifier_octets (length_octets_saying n h.length_octets),
      ),
    )
