-- Octets of a dump that are added to others.
use Rattle.std.proofs.Common.{◌≡◌, ◌⊎◌, ℕ, zero, suc, ◌+◌, ◌*◌, ◌≤◌, ◌<◌, true, false, List, [], ◌++◌, length, refl}
use Rattle.std.proofs.Common.{ap, sym, ◌∙◌, append_assoc, arith, inl, inr, subst}
use Rattle.std.proofs.lemmas.List.{append-nil, length-append}
use Rattle.tlv_text.specs.Dump.{octets_repeated}
use Rattle.tlv_text.specs.Private.DumpSteps.{RowHolds, IsAdded}
use Rattle.tlv_text.specs.declared.dump.output.Output.{Output}

-- octets are added of all, and the others remain
pub record IsAddedSoFar (all others : List ℕ) (old new : Output) : Type 0 where
  pub so_far : List ℕ
  pub added : IsAdded so_far old new
  pub are : all ≡ so_far ++ others

pub length-repeated : (n : ℕ) (octets : List ℕ) → length (octets_repeated n octets) ≡ n * length octets
length-repeated zero octets = omega arith
length-repeated (suc n) octets =
    omega (arith, length-append octets (octets_repeated n octets), length-repeated n octets)

repeated-suc : (n : ℕ) (octets : List ℕ) → octets_repeated (suc n) octets ≡ octets_repeated n octets ++ octets
repeated-suc zero octets = append-nil octets
repeated-suc (suc n) octets =
    ap (λ (more : List ℕ). octets ++ more) (repeated-suc n octets)
    ∙ sym (append_assoc octets (octets_repeated n octets) octets)

pub repeated-more : (n : ℕ) (octets : List ℕ) → octets_repeated (n + 1) octets ≡ octets_repeated n octets ++ octets
repeated-more n octets =
    let e : n + 1 ≡ suc n = omega arith in
    ap (λ (m : ℕ). octets_repeated m octets) e ∙ repeated-suc n octets

pub repeated-once : (octets : List ℕ) → octets_repeated 1 octets ≡ octets
repeated-once octets = append-nil octets

-- ---- what an output holds

nothing-more : (limit : ℕ) (out : Output) (octets : List ℕ) → RowHolds limit out octets
    → RowHolds limit out (octets ++ [])
nothing-more limit out octets h = subst (RowHolds limit out) (sym (append-nil octets)) h

over-more : (limit : ℕ) (out : Output) (more octets : List ℕ) → out.over ≡ true → RowHolds limit out octets
    → RowHolds limit out (octets ++ more)
over-more limit out more octets e h =
    let many : limit < length octets = h.too_many e in
    record {
      limit_is = h.limit_is;
      are = λ w. cc (sym e ∙ w);
      fit = λ w. cc (sym e ∙ w);
      too_many = λ w. omega (arith, many, length-append octets more);
    }

pub stays : (out : Output) (n : ℕ) (row : List ℕ) → (out.over ≡ true) ⊎ (n ≡ 0) → IsAdded (octets_repeated n row) out out
stays out n row (inl e) limit octets h = over-more limit out (octets_repeated n row) octets e h
stays out n row (inr e) limit octets h =
    subst (λ (m : ℕ). RowHolds limit out (octets ++ octets_repeated m row)) (sym e) (nothing-more limit out octets h)

pub becomes-over : (old new : Output) (n : ℕ) (row : List ℕ) → old.over ≡ false → new.over ≡ true
    → new.limit ≡ old.limit → (length old.octets.items + n * length row ≤ old.limit → ⊥)
    → IsAdded (octets_repeated n row) old new
becomes-over old new n row e over kept many limit octets h =
    let same : old.octets.items ≡ octets = h.are e in
    let size : length old.octets.items ≡ length octets = ap length same in
    let most : old.limit ≡ limit = h.limit_is in
    record {
      limit_is = kept ∙ most;
      are = λ w. cc (sym over ∙ w);
      fit = λ w. cc (sym over ∙ w);
      too_many = λ w. omega (arith, many, most, size, length-append octets (octets_repeated n row), length-repeated n row);
    }

pub is-added : (old new : Output) (n : ℕ) (row : List ℕ) → old.over ≡ false → new.over ≡ false
    → new.limit ≡ old.limit → new.octets.items ≡ old.octets.items ++ octets_repeated n row
    → length old.octets.items + n * length row ≤ old.limit → IsAdded (octets_repeated n row) old new
is-added old new n row e within kept added few limit octets h =
    let same : old.octets.items ≡ octets = h.are e in
    let size : length old.octets.items ≡ length octets = ap length same in
    let most : old.limit ≡ limit = h.limit_is in
    record {
      limit_is = kept ∙ most;
      are = λ w. added ∙ ap (λ (before : List ℕ). before ++ octets_repeated n row) same;
      fit = λ w. omega (arith, few, most, size, length-append octets (octets_repeated n row), length-repeated n row);
      too_many = λ w. cc (sym within ∙ w);
    }

-- ---- one after another

pub added-both : (a b : List ℕ) (x y z : Output) → IsAdded a x y → IsAdded b y z → IsAdded (a ++ b) x z
added-both a b x y z p q limit octets h =
    subst (RowHolds limit z) (append_assoc octets a b) (q limit (octets ++ a) (p limit octets h))

pub added-more : (all others more rest : List ℕ) (x y z : Output) → IsAddedSoFar all others x y → IsAdded more y z
    → others ≡ more ++ rest → IsAddedSoFar all rest x z
added-more all others more rest x y z i a e = record {
  so_far = i.so_far ++ more;
  added = added-both i.so_far more x y z i.added a;
  are = i.are ∙ ap (λ (t : List ℕ). i.so_far ++ t) e ∙ sym (append_assoc i.so_far more rest);
}

pub added-all : (all others more : List ℕ) (x y z : Output) → IsAddedSoFar all others x y → IsAdded more y z
    → others ≡ more → IsAdded all x z
added-all all others more x y z i a e =
    subst (λ (t : List ℕ). IsAdded t x z) (sym (i.are ∙ ap (λ (t : List ℕ). i.so_far ++ t) e))
    (added-both i.so_far more x y z i.added a)

pub none-added : (all : List ℕ) (x : Output) → IsAddedSoFar all all x x
none-added all x = record { so_far = []; added = λ limit octets h. nothing-more limit x octets h; are = refl }

-- an output and a row after those that were added
pub row-more : (old before after : List ℕ) (n : ℕ) (row : List ℕ) → before ≡ old ++ octets_repeated n row
    → after ≡ before ++ row → after ≡ old ++ octets_repeated (n + 1) row
row-more old before after n row i pushed =
    pushed
    ∙ ap (λ (t : List ℕ). t ++ row) i
    ∙ append_assoc old (octets_repeated n row) row
    ∙ ap (λ (t : List ℕ). old ++ t) (sym (repeated-more n row))
