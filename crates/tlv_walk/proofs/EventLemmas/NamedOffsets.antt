-- The offsets that a user may name, by statements on their numbers.
use Rattle.std.proofs.Common.{◌≡◌, ◌+◌, ◌^◌, ◌≤◌, ℕ, true, List, [], ◌∷◌, nat_le, refl}
use Rattle.std.proofs.lemmas.Bool.{and_from, and_parts, leb-true, le-leb}
use Rattle.tlv_walk.specs.Inside.{are_rising}

-- `are_rising`, as a statement
abbrev pub AreRising : ℕ → List ℕ → Type 0
AreRising least [] = Unit {0}
AreRising least (n ∷ ns) = (least ≤ n) × (n ≤ 2 ^ 40) × AreRising (n + 1) ns

pub rising-to : (least : ℕ) (ns : List ℕ) → are_rising least ns ≡ true → AreRising least ns
rising-to least [] h = tt
rising-to least (n ∷ ns) h =
    let one = and_parts (nat_le least n) _ h in
    let two = and_parts (nat_le n (2 ^ 40)) _ one.1 in
    (leb-true least n one.0, leb-true n (2 ^ 40) two.0, rising-to (n + 1) ns two.1)

pub rising-from : (least : ℕ) (ns : List ℕ) → AreRising least ns → are_rising least ns ≡ true
rising-from least [] h = refl
rising-from least (n ∷ ns) h =
    and_from _ _ (le-leb least n h.0) (and_from _ _ (le-leb n (2 ^ 40) h.1) (rising-from (n + 1) ns h.2))
