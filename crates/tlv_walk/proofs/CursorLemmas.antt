-- Where a walk is among the named offsets, and whether it is at one of them.
use Rattle.std.proofs.Common.{◌≡◌, ◌+◌, ◌<◌, ◌≤◌, ℕ, zero, suc, true, false, eqb, get_or, nat_eq, nat_le, List, [], ◌∷◌}
use Rattle.std.proofs.Common.{take, inl, inr, refl, sym, subst, ap, ◌∙◌, arith, eq-eqb, ne_eqb}
use Rattle.std.proofs.Math.Bool.{or-false}
use Rattle.std.proofs.lemmas.Bool.{cases_eq, leb-false}
use Rattle.tlv_head.specs.Limits.{input_limit}
use Rattle.tlv_walk.specs.declared.cursor.Cursor.{Cursor}
use Rattle.tlv_walk.specs.Inside.{are_rising}
use Rattle.tlv_head.specs.Lists.{is_among}
use Rattle.tlv_walk.specs.Private.Cursor.{IsCursorAt, least_above, no_offset_mark}
use Rattle.tlv_walk.proofs.EventLemmas.NamedOffsets.{AreRising, rising-to}

-- an offset below those that rise is not among them
below-rising : (least o : ℕ) (ns : List ℕ) → AreRising least ns → o < least → is_among o ns ≡ false
below-rising least o [] r h = refl
below-rising least o (n ∷ ns) r h =
    rw (ne_eqb o n (λ e. omega (arith, e, h, r.0))) (below-rising (n + 1) o ns r.2 (omega (arith, h, r.0)))

-- after those that are below it, an offset is among those that rise if it is the next of them
at-next : (least o k : ℕ) (ns : List ℕ) → AreRising least ns → o < no_offset_mark → least_above (take k ns) ≤ o
    → o ≤ get_or ns k no_offset_mark → is_among o ns ≡ eqb o (get_or ns k no_offset_mark)
at-next least o k [] r m p h = rw (ne_eqb o no_offset_mark (λ e. omega (arith, e, m))) refl
at-next least o zero (n ∷ ns) r m p h =
    rw (below-rising (n + 1) o ns r.2 (omega (arith, h))) (or-false (eqb o n))
at-next least o (suc k) (n ∷ ns) r m p h =
    rw (ne_eqb o n (λ e. omega (arith, e, p))) (at-next (n + 1) o k ns r.2 m (omega (arith, p)) h)

pass-next : (o k : ℕ) (ns : List ℕ) → least_above (take k ns) ≤ o → get_or ns k no_offset_mark < o
    → least_above (take (suc k) ns) ≤ o
pass-next o k [] p h = omega arith
pass-next o zero (n ∷ ns) p h = omega (arith, h)
pass-next o (suc k) (n ∷ ns) p h = omega (arith, p, pass-next o k ns (omega (arith, p)) h)

-- the next one is before the offset where the walk is, so that it is passed
pub passes_next : (inside : List ℕ) (c : Cursor) (o next : ℕ) → IsCursorAt inside c o → c.next < o
    → next ≡ get_or inside (c.passed + 1) no_offset_mark
    → IsCursorAt inside (record { passed = c.passed + 1; next = next }) o
passes_next inside c o next at h e =
    let one_more : suc c.passed ≡ c.passed + 1 = omega arith in
    record {
      passed = subst (λ (k : ℕ). least_above (take k inside) ≤ o) one_more
          (pass-next o c.passed inside at.passed (omega (arith, at.next, h)));
      next = e;
    }

-- the two numbers that are compared may change places
eqb-swapped : (m n : ℕ) → eqb m n ≡ eqb n m
eqb-swapped m n = elim (cases_eq m n) [
  | inl same ↦ eq-eqb m n same ∙ sym (eq-eqb n m (sym same))
  | inr other ↦ ne_eqb m n other ∙ sym (ne_eqb n m (λ e. other (sym e)))
]

-- the offset where the walk is, is a named one if it is the next one
pub is_next : (inside : List ℕ) (c : Cursor) (o : ℕ) → are_rising 0 inside ≡ true → IsCursorAt inside c o
    → o ≤ input_limit → o ≤ c.next → nat_eq c.next o ≡ is_among o inside
is_next inside c o r at m h =
    ap (λ (n : ℕ). eqb n o) at.next
    ∙ eqb-swapped (get_or inside c.passed no_offset_mark) o
    ∙ sym (at-next 0 o c.passed inside (rising-to 0 inside r) (omega (arith, m)) at.passed
    (omega (arith, at.next, h)))

-- it is none if it is before the next one
pub before_next : (inside : List ℕ) (c : Cursor) (o : ℕ) → are_rising 0 inside ≡ true → IsCursorAt inside c o
    → o ≤ input_limit → nat_le c.next o ≡ false → is_among o inside ≡ false
before_next inside c o r at m h =
    let less : o < c.next = leb-false c.next o h in
    sym (is_next inside c o r at m (omega (arith, less))) ∙ ne_eqb c.next o (λ e. omega (arith, e, less))
