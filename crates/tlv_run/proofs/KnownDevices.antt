-- What a source that knows its octets has left, and what an empty drain took.
use Rattle.std.proofs.Common.{◌≡◌, inl, inr, ℕ, ◌-◌}
use Rattle.std.proofs.Common.{List, [], ◌∷◌, ◌++◌, length, take}
use Rattle.std.proofs.Common.{refl, sym, ap, ◌∙◌, arith, append_assoc, append-nil}
use Rattle.std.proofs.lemmas.Bool.{cases_lt}
use Rattle.std.proofs.lemmas.List.{take-append-le, take_all}
use Rattle.std.proofs.Math.Seq.{take-append-add}
use Rattle.std.specs.Prelude.{Option, Some, None}
use Rattle.std.specs.Io.KnownBytes.{Appends, Consumes, IsAtEnd}
use Rattle.tlv_io.specs.Device.{GaveLast}
use Rattle.tlv_io.specs.Device.{LastReadValue, failed, gave, never}

-- what a source has left that knows its octets
pub left_of : (a b : Option (List ℕ)) (o given : List ℕ) → a ≡ Some o → Consumes a b given
    → (r : List ℕ) × (b ≡ Some r) × (o ≡ given ++ r)
left_of None b o given e c = absurd (cc (e))
left_of (Some x) None o given e c = absurd c
left_of (Some x) (Some y) o given e c = let same : x ≡ o = cc in (y, refl, sym same ∙ c)

pub at_end : (b : Option (List ℕ)) (r : List ℕ) → b ≡ Some r → IsAtEnd b → r ≡ []
at_end None r e i = absurd (cc (e))
at_end (Some x) r e i = let same : x ≡ r = cc in sym same ∙ i

-- what an empty drain took
pub taken_of : (a b : Option (List ℕ)) (w sent : List ℕ) → a ≡ Some [] → b ≡ Some w → Appends a b sent → w ≡ sent
taken_of a b w sent e d x = let y : Appends (Some []) (Some w) sent = rw (e, d) at x in y

-- the first octets of a longer list begin with those of the shorter
pub take_prefix : (n : ℕ) (xs ys : List ℕ) → (more : List ℕ) × (take n (xs ++ ys) ≡ take n xs ++ more)
take_prefix n xs ys = elim (cases_lt (length xs) n) [
  | inl less ↦ (
    take (n - length xs) ys,
    ap (λ (k : ℕ). take k (xs ++ ys)) (omega (arith, less)) ∙ take-append-add xs ys (n - length xs)
        ∙ ap (λ (l : List ℕ). l ++ take (n - length xs) ys) (sym (take_all n xs (omega (arith, less)))),
  )
  | inr more ↦ ([], take-append-le n xs ys (omega (arith, more)) ∙ sym (append-nil (take n xs)))
]

-- what was sent of a text, and what is after it in a longer one
pub prefix_and_rest : (written sent left text rest longer : List ℕ)
    → written ≡ sent → sent ++ left ≡ text → text ++ rest ≡ longer → longer ≡ written ++ (left ++ rest)
prefix_and_rest written sent left text rest longer w t l =
    sym l ∙ ap (λ (xs : List ℕ). xs ++ rest) (sym t) ∙ append_assoc sent left rest
    ∙ ap (λ (xs : List ℕ). xs ++ (left ++ rest)) (sym w)

-- a source that gave nothing in the end, or failed, gave no octets then
pub gave_none : (l : LastReadValue) (xs : List ℕ) → l ≡ gave 0 → GaveLast l xs → xs ≡ []
gave_none l xs e (inr g) = g.1
gave_none l xs e (inl g) = nothing xs (ap octets_in (sym e ∙ g)) where
  octets_in : LastReadValue → ℕ
  octets_in never = 0
  octets_in (gave n) = n
  octets_in failed = 0

  nothing : (xs : List ℕ) → 0 ≡ length xs → xs ≡ []
  nothing [] e = refl
  nothing (x ∷ xs) e = absurd (cc (e))

pub failed_none : (l : LastReadValue) (xs : List ℕ) → l ≡ failed → GaveLast l xs → xs ≡ []
failed_none l xs e (inl g) = absurd (cc)
failed_none l xs e (inr g) = g.1
