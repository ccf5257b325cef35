-- Lists of digits with one value: which is the shortest, and that no two have one length.
use Rattle.std.proofs.Common.{◌≡◌, ◌≢◌, ℕ, zero, suc, ◌+◌, ◌*◌, ◌^◌, ◌<◌, ◌≤◌, inl, inr, List, [], ◌∷◌, length, All}
use Rattle.std.proofs.Common.{refl, sym, ap, ◌∙◌, arith}
use Rattle.std.proofs.lemmas.Bool.{cases_lt}
use Rattle.std.proofs.lemmas.List.Elements.{All-tail}
use Rattle.std.proofs.lemmas.Nat.{same_from_place}
use Rattle.std.proofs.Math.Nat.{pow-le-pow_right}
use Rattle.tlv_head.specs.Header.{value_of}
use Rattle.tlv_head.proofs.NumberLemmas.Digits.{value_of-lt}

-- two lists of digits with one length and one value are the same
pub same-digits : (b : ℕ) (xs ys : List ℕ) → 0 < b → All (λ d. d < b) xs → All (λ d. d < b) ys
    → length xs ≡ length ys → value_of b xs ≡ value_of b ys → xs ≡ ys
same-digits b [] [] some u v l e = refl
same-digits b [] (y ∷ ys) some u v l e = absurd (omega arith)
same-digits b (x ∷ xs) [] some u v l e = absurd (omega arith)
same-digits b (x ∷ xs) (y ∷ ys) some u v l e =
    let count : length xs ≡ length ys = omega arith in
    let left : value_of b xs < b ^ length xs = value_of-lt b xs some (All-tail (λ d. d < b) x xs u) in
    let right : value_of b ys < b ^ length xs = rw count (value_of-lt b ys some (All-tail (λ d. d < b) y ys v)) in
    let e' : x * b ^ length xs + value_of b xs ≡ y * b ^ length xs + value_of b ys =
    e ∙ ap (λ (n : ℕ). y * b ^ n + value_of b ys) (sym count) in
    let same : (x ≡ y) × (value_of b xs ≡ value_of b ys) =
    same_from_place x (value_of b xs) y (value_of b ys) (b ^ length xs) left right e' in
    rw (same.0, same-digits b xs ys some (All-tail (λ d. d < b) x xs u) (All-tail (λ d. d < b) y ys v) count same.1)

-- no digits of a number are fewer than those of which the first is not 0
pub fewest-digits : (b x : ℕ) (xs ys : List ℕ) → 0 < b → x ≢ 0 → All (λ d. d < b) ys
    → value_of b (x ∷ xs) ≡ value_of b ys → length (x ∷ xs) ≤ length ys
fewest-digits b zero xs ys some nonzero v e = absurd (nonzero refl)
fewest-digits b (suc x) xs ys some nonzero v e = elim (cases_lt (length xs) (length ys)) [
  | inl more ↦ omega arith
  | inr le ↦
      let above : b ^ length xs ≤ suc x * b ^ length xs + value_of b xs = omega arith in
      let below : value_of b ys < b ^ length ys = value_of-lt b ys some v in
      let powers : b ^ length ys ≤ b ^ length xs = pow-le-pow_right {n = b} some le in
      absurd (omega (arith, above, below, powers, e))
]
