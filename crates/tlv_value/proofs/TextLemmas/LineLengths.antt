-- How long what is added to a line is at most.
use Rattle.std.proofs.Common.{◌≡◌, ℕ, ◌+◌, ◌-◌, ◌^◌, ◌<◌, ◌≤◌, List, [], ◌∷◌, ◌++◌, length, take, arith}
use Rattle.std.proofs.Common.{length-append}
use Rattle.std.specs.Prelude.{decimal}
use Rattle.std.proofs.lemmas.Fmt.{length-decimal-le}
use Rattle.std.proofs.lemmas.List.{length-replicate, length-take}
use Rattle.tlv_value.specs.Layout.{columns, at_right, spaces}
use Rattle.tlv_io.proofs.HeldTexts.{length-added, right-short}

-- the first octets of a text were added
pub prefix_short : (old new text : List ℕ) (n : ℕ) → new ≡ old ++ take n text → length new ≤ length old + n
prefix_short old new text n e = omega (arith, length-added old new (take n text) e, length-take n text)

-- a number was added
pub number_short : (old new : List ℕ) (n : ℕ) → n < 2 ^ 64 → new ≡ old ++ decimal n → length new ≤ length old + 20
number_short old new n fits e =
    omega (arith, length-added old new (decimal n) e, length-decimal-le 20 n (omega arith) (omega arith) fits)

-- the first columns
pub columns_short : (offset : ℕ) (word : List ℕ) → offset < 2 ^ 64 → length word ≤ 20
    → length (columns offset word) ≤ 43
columns_short offset word fits few =
    let first : List ℕ = at_right 8 (decimal offset) in
    let last : length (at_right 6 word) ≤ 20 =
    omega (arith, length-append (spaces (6 - length word)) word, length-replicate {A = ℕ} (6 - length word) 32) in
    omega (
      arith,
      length-append (first ++ 32 ∷ [] ++ at_right 6 word) (58 ∷ 32 ∷ []),
      length-append (first ++ 32 ∷ []) (at_right 6 word),
      length-append first (32 ∷ []),
      right-short 8 offset (omega arith) fits,
      last,
    )
