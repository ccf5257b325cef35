-- Findings of which a loop keeps those that pass a test.
use Rattle.std.proofs.Common.{◌≡◌, ◌+◌, ◌<◌, ◌≤◌, ◌++◌, ◌∷◌, ◌∙◌, ℕ, Bool, true, false, if◌then◌else◌, List, [], length}
use Rattle.std.proofs.Common.{take, get_or, ap, sym, arith, append-nil}
use Rattle.std.proofs.lemmas.List.{take_more}
use Rattle.std.proofs.lemmas.List.Elements.{filter-append}
use Rattle.std.specs.List.{filter}
use Rattle.tlv_value.specs.declared.finding.Finding.{Finding}

-- one finding more is looked at
module _ (test : Finding → Bool) (l old : List Finding) (i : ℕ) (x : Finding) (h : i < length l)
    (e : old ≡ filter test (take i l)) where
  filter-next : (b : Bool) → test (get_or l i x) ≡ b
      → old ++ (if b then get_or l i x ∷ [] else []) ≡ filter test (take (i + 1) l)
  filter-next b t =
      ap (λ (k : Bool). old ++ (if k then get_or l i x ∷ [] else [])) (sym t)
      ∙ ap (λ (s : List Finding). s ++ filter test (get_or l i x ∷ [])) e
      ∙ sym (filter-append test (take i l) (get_or l i x ∷ []))
      ∙ ap (filter test) (sym (take_more l i x h))

  pub kept : (new : List Finding) → test (get_or l i x) ≡ true → new ≡ old ++ get_or l i x ∷ []
      → new ≡ filter test (take (i + 1) l)
  kept new t is = is ∙ filter-next true t

  pub filter-hidden : test (get_or l i x) ≡ false → old ≡ filter test (take (i + 1) l)
  filter-hidden t = sym (append-nil old) ∙ filter-next false t

pub next-within : (new old i : ℕ) → old ≤ i → new ≡ old + 1 → new ≤ i + 1
next-within new old i h e = omega (arith, h, e)

pub stays-within : (old i : ℕ) → old ≤ i → old ≤ i + 1
stays-within old i h = omega (arith, h)
