-- Units, one after another.
use Rattle.std.proofs.Common.{◌≡◌, ◌↔◌, ℕ, zero, suc, ◌≤◌, Bool, true, false, List, [], ◌∷◌, ◌++◌, length, take}
use Rattle.std.proofs.Common.{drop, refl, sym, ap, ◌∙◌, arith}
use Rattle.std.proofs.lemmas.Bool.Decides.{nat_tests}
use Rattle.std.proofs.lemmas.List.{length-drop, length-take}
use Rattle.std.specs.Prelude.{IsTrue, IsUtf8, flat_map, if◌then◌else◌, nat_le}
use Rattle.std.specs.Str.{is_utf8}
use Rattle.std.proofs.lemmas.Str.{IsUtf8-from_is_utf8, is_utf8-from_IsUtf8}
use Rattle.tlv_io.specs.Cuts.{utf8_length}
use Rattle.tlv_head.specs.declared.kind.Kind.{Kind}
use Rattle.tlv_head.specs.declared.kind.Kind.TheVariants.{Octets, Boolean, Integer, Bits, Object, Relative, Text, Utf8}
use Rattle.tlv_head.specs.declared.kind.Kind.TheVariants.{Ucs2, Ucs4}
use Rattle.tlv_value.specs.Units.{first_units, unit_size, unit_text, units}

utf8_length-some : (x : ℕ) → 1 ≤ utf8_length x
utf8_length-some x = grind (arith, nat_tests)

if-within : (b : Bool) (m k n : ℕ) → (1 ≤ m) × (m ≤ n) → (1 ≤ k) × (k ≤ n)
    → (1 ≤ (if b then m else k)) × ((if b then m else k) ≤ n)
if-within true m k n h g = h
if-within false m k n h g = g

ucs-within : (b : Bool) (m n : ℕ) → nat_le m n ≡ b → 1 ≤ m → 1 ≤ n
    → (1 ≤ (if b then m else 1)) × ((if b then m else 1) ≤ n)
ucs-within true m n e h g = (h, grind (arith, nat_tests))
ucs-within false m n e h g = (omega arith, g)

-- a unit has some of the octets, at least one
pub size-within : (kind : Kind) (x : ℕ) (xs : List ℕ)
    → (1 ≤ unit_size kind (x ∷ xs)) × (unit_size kind (x ∷ xs) ≤ length (x ∷ xs))
size-within Octets x xs = (omega arith, omega arith)
size-within Boolean x xs = (omega arith, omega arith)
size-within Integer x xs = (omega arith, omega arith)
size-within Bits x xs = (omega arith, omega arith)
size-within Object x xs = (omega arith, omega arith)
size-within Relative x xs = (omega arith, omega arith)
size-within Text x xs = (omega arith, omega arith)
size-within Utf8 x xs =
    let l = length-take (utf8_length x) (x ∷ xs) in
    let s = utf8_length-some x in
    if-within (is_utf8 (take (utf8_length x) (x ∷ xs))) (length (take (utf8_length x) (x ∷ xs))) 1 (length (x ∷ xs))
    (omega arith, omega arith) (omega arith, omega arith)
size-within Ucs2 x xs = ucs-within (nat_le 2 (length (x ∷ xs))) 2 (length (x ∷ xs)) refl (omega arith) (omega arith)
size-within Ucs4 x xs = ucs-within (nat_le 4 (length (x ∷ xs))) 4 (length (x ∷ xs)) refl (omega arith) (omega arith)

-- if there are no more octets than units that are allowed, the first units are all units
same-units : (kind : Kind) (most other : ℕ) (octets : List ℕ) → length octets ≤ most → length octets ≤ other
    → first_units most kind octets ≡ first_units other kind octets
same-units kind zero zero octets h g = refl
same-units kind zero (suc other) [] h g = refl
same-units kind zero (suc other) (x ∷ xs) h g = absurd (omega arith)
same-units kind (suc most) zero [] h g = refl
same-units kind (suc most) zero (x ∷ xs) h g = absurd (omega arith)
same-units kind (suc most) (suc other) [] h g = refl
same-units kind (suc most) (suc other) (x ∷ xs) h g =
    let m : ℕ = unit_size kind (x ∷ xs) in
    let w = size-within kind x xs in
    let l = length-drop m (x ∷ xs) in
    ap (λ (rest : List (List ℕ)). take m (x ∷ xs) ∷ rest)
    (same-units kind most other (drop m (x ∷ xs)) (omega (arith, l, w.0)) (omega (arith, l, w.0)))

-- the first unit, and the units of the octets behind it
pub units-next : (kind : Kind) (x : ℕ) (xs : List ℕ)
    → units kind (x ∷ xs)
    ≡ take (unit_size kind (x ∷ xs)) (x ∷ xs) ∷ units kind (drop (unit_size kind (x ∷ xs)) (x ∷ xs))
units-next kind x xs =
    let m : ℕ = unit_size kind (x ∷ xs) in
    let w = size-within kind x xs in
    let l = length-drop m (x ∷ xs) in
    ap (λ (rest : List (List ℕ)). take m (x ∷ xs) ∷ rest)
    (same-units kind (length xs) (length (drop m (x ∷ xs))) (drop m (x ∷ xs)) (omega (arith, l, w.0)) (omega arith))

-- the same of their texts
pub units-step : (kind : Kind) (m : ℕ) (octets : List ℕ) → m ≡ unit_size kind octets → 1 ≤ length octets
    → flat_map (unit_text kind) (units kind octets)
    ≡ unit_text kind (take m octets) ++ flat_map (unit_text kind) (units kind (drop m octets))
units-step kind m [] e h = absurd (omega arith)
units-step kind m (x ∷ xs) e h = rw e (ap (flat_map (unit_text kind)) (units-next kind x xs))

same-at : (octets : List ℕ) (r q : Bool) → (IsTrue r ↔ IsUtf8 octets) → is_utf8 octets ≡ q → r ≡ q
same-at octets true true h e = refl
same-at octets false false h e = refl
same-at octets true false h e = sym (is_utf8-from_IsUtf8 octets (h.0 refl)) ∙ e
same-at octets false true h e = h.1 (IsUtf8-from_is_utf8 octets e)

-- what `simdutf8` returns
pub is_utf8-same : (octets : List ℕ) (r : Bool) → (IsTrue r ↔ IsUtf8 octets) → r ≡ is_utf8 octets
is_utf8-same octets r h = same-at octets r (is_utf8 octets) h refl
