-- Offsets that rise, and which offsets are among them.
use Rattle.std.proofs.Common.{◌≡◌, ℕ, ◌+◌, ◌^◌, ◌<◌, ◌≤◌, Bool, true, false, ◌||◌, eqb, List, [], ◌∷◌, ◌++◌, refl, sym, ap}
use Rattle.std.proofs.Common.{◌∙◌, arith, ne_eqb, eq-eqb}
use Rattle.std.proofs.lemmas.Bool.{and_from, le-leb}
use Rattle.std.proofs.lemmas.List.Folds.{list_any-append}
use Rattle.tlv_walk.specs.Inside.{are_rising}
use Rattle.tlv_head.specs.Lists.{is_among}
use Rattle.tlv_walk.proofs.EventLemmas.Wrappers.{Rise}

-- numbers that rise do so within wider bounds
pub rise-within : (a b c d : ℕ) (ns : List ℕ) → c ≤ a → b ≤ d → Rise a b ns → Rise c d ns
rise-within a b c d [] h k r = omega (arith, r)
rise-within a b c d (n ∷ ns) h k r = (omega (arith, r.0), rise-within (n + 1) b (n + 1) d ns (omega arith) k r.1)

-- numbers that rise, and others that rise after them
pub rise-append : (a b c : ℕ) (xs ys : List ℕ) → Rise a b xs → Rise b c ys → Rise a c (xs ++ ys)
rise-append a b c [] ys r s = rise-within b c a c ys r (omega arith) s
rise-append a b c (n ∷ xs) ys r s = (r.0, rise-append (n + 1) b c xs ys r.1 s)

-- no number before or after them is among them
pub before-none : (a b i : ℕ) (ns : List ℕ) → i < a → Rise a b ns → is_among i ns ≡ false
before-none a b i [] h r = refl
before-none a b i (n ∷ ns) h r =
    rw (ne_eqb i n (λ e. omega (arith, r.0, e))) (before-none (n + 1) b i ns (omega (arith, r.0)) r.1)

pub rise-ends : (a b : ℕ) (ns : List ℕ) → Rise a b ns → a ≤ b
rise-ends a b [] r = r
rise-ends a b (n ∷ ns) r = omega (arith, r.0, rise-ends (n + 1) b ns r.1)

pub after-none : (a b i : ℕ) (ns : List ℕ) → b ≤ i → Rise a b ns → is_among i ns ≡ false
after-none a b i [] h r = refl
after-none a b i (n ∷ ns) h r =
    rw (ne_eqb i n (λ e. omega (arith, rise-ends (n + 1) b ns r.1, e))) (after-none (n + 1) b i ns h r.1)

-- among two lists
pub among-first : (i : ℕ) (xs ys : List ℕ) → is_among i ys ≡ false → is_among i (xs ++ ys) ≡ is_among i xs
among-first i xs ys e =
    list_any-append (λ n. eqb i n) xs ys ∙ (ap (λ (b : Bool). is_among i xs || b) e ∙ or-false (is_among i xs))
  where
    or-false : (b : Bool) → (b || false) ≡ b
    or-false true = refl
    or-false false = refl

pub among-second : (i : ℕ) (xs ys : List ℕ) → is_among i xs ≡ false → is_among i (xs ++ ys) ≡ is_among i ys
among-second i xs ys e = list_any-append (λ n. eqb i n) xs ys ∙ ap (λ (b : Bool). b || is_among i ys) e

pub among-others : (i n : ℕ) (ns : List ℕ) → (n ≡ i → ⊥) → is_among i (n ∷ ns) ≡ is_among i ns
among-others i n ns e = rw (ne_eqb i n (λ same. e (sym same)))

pub among-itself : (i n : ℕ) (ns : List ℕ) → n ≡ i → is_among i (n ∷ ns) ≡ true
among-itself i n ns e = rw (eq-eqb i n (sym e)) refl

-- they can be named
pub rise-rising : (a b : ℕ) (ns : List ℕ) → b ≤ 2 ^ 40 → Rise a b ns → are_rising a ns ≡ true
rise-rising a b [] h r = refl
rise-rising a b (n ∷ ns) h r =
    and_from _ _ (le-leb a n r.0)
    (and_from _ _ (le-leb n (2 ^ 40) (omega (arith, rise-ends (n + 1) b ns r.1))) (rise-rising (n + 1) b ns h r.1))
