-- Slices of a text from a place on.
use Rattle.std.proofs.Common.{◌≡◌, ℕ, ◌-◌, List, ◌∷◌, length, take, drop, ap, ◌∙◌, arith}
use Rattle.std.proofs.lemmas.List.{length-drop, take_all}
use Rattle.std.proofs.Math.Seq.{take-length}

-- a slice from a place on
abbrev pub slice_from : ℕ → List ℕ → List ℕ
slice_from n xs = take (length xs - n) (drop n xs)

pub from-on : (n : ℕ) (xs : List ℕ) → slice_from n xs ≡ drop n xs
from-on n xs = take_all (length xs - n) (drop n xs) (omega (arith, length-drop n xs))

-- what comes after two octets
pub after-two : (x y : ℕ) (more : List ℕ) → slice_from 2 (x ∷ y ∷ more) ≡ more
after-two x y more = ap (λ (n : ℕ). take n more) (omega arith) ∙ take-length more
