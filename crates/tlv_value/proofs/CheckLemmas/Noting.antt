-- What is noted of contents in pieces.
use Rattle.std.proofs.Common.{◌≡◌, ℕ, ◌+◌, ◌-◌, ◌<◌, ◌≤◌, Bool, true, false, List, [], ◌∷◌, ◌++◌, length, take, drop}
use Rattle.std.proofs.Common.{get_or, replicate, zero, suc, refl, sym, ap, ap₂, ◌∙◌, arith}
use Rattle.std.specs.List.{list_all, list_any}
use Rattle.std.specs.Prelude.{◌&&◌, ◌||◌, eqb, min, nat_lt}
use Rattle.std.proofs.lemmas.Bool.Decides.{nat_tests}
use Rattle.std.proofs.Math.Bool.{and-true}
use Rattle.std.proofs.lemmas.List.Folds.{list_all-append}
use Rattle.std.proofs.Math.Seq.{take-append-add}
use Rattle.std.proofs.lemmas.List.{drop_more, take_min}
use Rattle.std.specs.Str.{is_utf8}
use Rattle.tlv_value.specs.ValueCheckState.{is_padded_after, last_octet_after}
use Rattle.tlv_value.specs.Characters.{allows_octet}

allows-other : (number x : ℕ) → (number ≡ 18 → ⊥) → (number ≡ 19 → ⊥) → (number ≡ 22 → ⊥) → (number ≡ 26 → ⊥)
    → allows_octet number x ≡ true
allows-other number x a b c d =
    let e18 : eqb number 18 ≡ false = grind (arith, nat_tests) in
    let e19 : eqb number 19 ≡ false = grind (arith, nat_tests) in
    let e22 : eqb number 22 ≡ false = grind (arith, nat_tests) in
    let e26 : eqb number 26 ≡ false = grind (arith, nat_tests) in
    rw (e18, e19, e22, e26) refl

-- a type without a test of octets allows all
pub all-other : (number : ℕ) (xs : List ℕ) → (number ≡ 18 → ⊥) → (number ≡ 19 → ⊥) → (number ≡ 22 → ⊥)
    → (number ≡ 26 → ⊥) → list_all (allows_octet number) xs ≡ true
all-other number [] a b c d = refl
all-other number (x ∷ xs) a b c d = rw (allows-other number x a b c d) (all-other number xs a b c d)

-- one octet more
all-more : (all : Bool) (test : ℕ → Bool) (x : ℕ) (xs : List ℕ)
    → ((all && test x) && list_all test xs) ≡ (all && list_all test (x ∷ xs))
all-more true test x xs = refl
all-more false test x xs = refl

pub all-next : (all next : Bool) (test : ℕ → Bool) (xs : List ℕ) (i : ℕ) → i < length xs
    → next ≡ (all && test (get_or xs i 0))
    → (all && list_all test (drop i xs)) ≡ list_all test xs
    → (next && list_all test (drop (i + 1) xs)) ≡ list_all test xs
all-next all next test xs i h e k =
    ap (λ (b : Bool). b && list_all test (drop (i + 1) xs)) e
    ∙ all-more all test (get_or xs i 0) (drop (i + 1) xs)
    ∙ ap (λ (l : List ℕ). all && list_all test l) (sym (drop_more xs i 0 h)) ∙ k

-- the last octet
pub last-at : (previous x : ℕ) (xs : List ℕ) → last_octet_after previous (x ∷ xs) ≡ get_or (x ∷ xs) (length xs) 0
last-at previous x [] = refl
last-at previous x (y ∷ xs) = last-at x y xs

pub last-some : (previous : ℕ) (xs : List ℕ) → 1 ≤ length xs
    → get_or xs (length xs - 1) 0 ≡ last_octet_after previous xs
last-some previous [] h = absurd (omega arith)
last-some previous (x ∷ xs) h =
    let e : length (x ∷ xs) - 1 ≡ length xs = omega arith in
    rw e (sym (last-at previous x xs))

-- a row more, and no row more
pub and-row : (formed : Bool) (row : List ℕ) (rows all : List (List ℕ)) → all ≡ row ∷ rows
    → ((formed && is_utf8 row) && list_all is_utf8 rows) ≡ (formed && list_all is_utf8 all)
and-row true row rows all e = rw e refl
and-row false row rows all e = refl

pub and-nothing : (formed : Bool) (all : List (List ℕ)) → all ≡ [] → (formed && list_all is_utf8 all) ≡ formed
and-nothing true all e = rw e refl
and-nothing false all e = refl

-- as many octets as there is room for
pub take-room : (kept octets : List ℕ) (n room : ℕ) → room + length kept ≡ 64 → n ≡ min (length octets) room
    → kept ++ take n octets ≡ take 64 (kept ++ octets)
take-room kept octets n room e h =
    let m : n ≡ min room (length octets) = omega arith in
    let w : 64 ≡ length kept + room = omega arith in
    ap (λ (t : List ℕ). kept ++ t) (ap (λ (k : ℕ). take k octets) m ∙ take_min room octets)
    ∙ sym (take-append-add kept octets room) ∙ ap (λ (k : ℕ). take k (kept ++ octets)) (sym w)

-- if there is no octet 80, none begins a subidentifier
not-padded : (begins is other padded : Bool) → (other ≡ false → padded ≡ false) → (is || other) ≡ false
    → ((begins && is) || padded) ≡ false
not-padded begins true other padded more e = cc
not-padded true false other padded more e = more e
not-padded false false other padded more e = more e

pub no-80 : (previous : ℕ) (octets : List ℕ) → list_any (λ x. eqb x 128) octets ≡ false
    → is_padded_after previous octets ≡ false
no-80 previous [] e = refl
no-80 previous (x ∷ xs) e =
    not-padded (nat_lt previous 128) (eqb x 128) (list_any (λ y. eqb y 128) xs) (is_padded_after x xs) (no-80 x xs) e

-- octets that are filled up with spaces are allowed if they are, and the space is
pub all-filled : (p : ℕ → Bool) (xs : List ℕ) (n : ℕ) → p 32 ≡ true
    → list_all p (xs ++ replicate n 32) ≡ list_all p xs
all-filled p xs n e =
    list_all-append p xs (replicate n 32) ∙ ap (λ (b : Bool). list_all p xs && b) (blanks n) ∙ and-true (list_all p xs)
  where
    blanks : (n : ℕ) → list_all p (replicate n 32) ≡ true
    blanks zero = refl
    blanks (suc n) = ap₂ (λ (a b : Bool). a && b) e (blanks n)
