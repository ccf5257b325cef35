-- Digits of a number.
use Rattle.std.proofs.Common.{◌≡◌, ℕ, zero, suc, ◌+◌, ◌*◌, ◌^◌, ◌<◌, ◌≤◌, List, [], ◌∷◌, ◌++◌, length, replicate, All}
use Rattle.std.proofs.Common.{refl, arith, le_refl, length-append, pow-add, zero-mul}
use Rattle.std.proofs.lemmas.List.{length-replicate}
use Rattle.std.proofs.Math.Nat.{pow-suc, pow-zero}
use Rattle.std.proofs.lemmas.List.Elements.{All-head, All-tail}
use Rattle.tlv_head.specs.Header.{value_of}

pub value_of-snoc : (b : ℕ) (ds : List ℕ) (d : ℕ) → value_of b (ds ++ d ∷ []) ≡ value_of b ds * b + d
value_of-snoc b [] d = rw (pow-zero b) (omega arith)
value_of-snoc b (x ∷ ds) d =
    let h : value_of b (ds ++ d ∷ []) ≡ value_of b ds * b + d = value_of-snoc b ds d in
    let l : length (ds ++ d ∷ []) ≡ suc (length ds) = omega (arith, length-append ds (d ∷ [])) in
    rw (l, pow-suc b (length ds), h) (omega arith)

-- one more digit of the highest value
digit-lt : (b d p v : ℕ) → d < b → v < p → d * p + v < p * b
digit-lt b d p v h g = grind (arith)

pub value_of-lt : (b : ℕ) (ds : List ℕ) → 0 < b → All (λ x. x < b) ds → value_of b ds < b ^ length ds
value_of-lt b [] s h = rw (pow-zero b) (omega arith)
value_of-lt b (x ∷ ds) s h =
    rw (pow-suc b (length ds))
    (digit-lt b x (b ^ length ds) (value_of b ds) (All-head (λ x. x < b) x ds h)
    (value_of-lt b ds s (All-tail (λ x. x < b) x ds h)))

-- digits in front make no number less
pub value_of-append-le : (b : ℕ) (xs ys : List ℕ) → value_of b ys ≤ value_of b (xs ++ ys)
value_of-append-le b [] ys = le_refl _
value_of-append-le b (x ∷ xs) ys = omega (arith, value_of-append-le b xs ys)

value_of-append : (b : ℕ) (xs ys : List ℕ) → value_of b (xs ++ ys) ≡ value_of b xs * b ^ length ys + value_of b ys
value_of-append b [] ys = omega (arith, zero-mul (b ^ length ys))
value_of-append b (x ∷ xs) ys =
    rw (length-append xs ys, pow-add b (length xs) (length ys)) (omega (arith, value_of-append b xs ys))

value_of-replicate : (b r : ℕ) → value_of b (replicate r 0) ≡ 0
value_of-replicate b zero = refl
value_of-replicate b (suc r) = omega (arith, value_of-replicate b r, zero-mul (b ^ length {A = ℕ} (replicate r 0)))

-- digits, and zeros after them
pub value_of-zeros : (b : ℕ) (ds : List ℕ) (r : ℕ) → value_of b (ds ++ replicate r 0) ≡ value_of b ds * b ^ r
value_of-zeros b ds r =
    rw (value_of-append b ds (replicate r 0), value_of-replicate b r, length-replicate {A = ℕ} r 0) (omega arith)
