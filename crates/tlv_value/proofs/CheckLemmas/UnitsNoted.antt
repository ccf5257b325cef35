-- Units of BMPString and UniversalString, octet by octet and all at once.
use Rattle.std.proofs.Common.{◌≡◌, ℕ, ◌≤◌, Bool, true, false, ◌&&◌, ◌||◌, not, nat_le, eqb, ◌%◌, List, [], ◌∷◌}
use Rattle.std.proofs.Common.{◌++◌, length, get_or, drop, take, ◌-◌, refl, sym, ap, ◌∙◌, arith}
use Rattle.std.proofs.lemmas.Bool.{eqb-true}
use Rattle.std.proofs.lemmas.Bool.Decides.{nat_tests}
use Rattle.std.proofs.lemmas.List.{take_all}
use Rattle.std.specs.List.{list_any}
use Rattle.tlv_head.specs.Header.{value_of}
use Rattle.tlv_head.specs.declared.kind.Kind.TheVariants.{Ucs2, Ucs4}
use Rattle.tlv_value.specs.Characters.{is_no_character, is_wrong_unit}
use Rattle.tlv_value.specs.Units.{unit_size, units}
use Rattle.tlv_value.specs.UnitsSoFar.{are_characters_after, open_unit, unit_with}
use Rattle.tlv_value.proofs.TextLemmas.UnitSteps.{units-next}

-- ---- pieces

and-assoc : (a b c : Bool) → ((a && b) && c) ≡ (a && (b && c))
and-assoc true b c = refl
and-assoc false b c = refl

pub open_unit-join : (size : ℕ) (unit x y : List ℕ)
    → open_unit size (open_unit size unit x) y ≡ open_unit size unit (x ++ y)
open_unit-join size unit [] y = refl
open_unit-join size unit (z ∷ x) y = open_unit-join size (unit_with size unit z) x y

pub characters-join : (size : ℕ) (unit x y : List ℕ)
    → (are_characters_after size unit x && are_characters_after size (open_unit size unit x) y)
    ≡ are_characters_after size unit (x ++ y)
characters-join size unit [] y = refl
characters-join size unit (z ∷ x) y =
    and-assoc (not (is_wrong_unit size (unit ++ z ∷ []))) (are_characters_after size (unit_with size unit z) x)
    (are_characters_after size (open_unit size (unit_with size unit z) x) y)
    ∙ ap (λ (b : Bool). not (is_wrong_unit size (unit ++ z ∷ [])) && b)
    (characters-join size (unit_with size unit z) x y)

-- ---- whole units, of which nothing is left

twos-closed : (xs : List ℕ) → length xs % 2 ≡ 0 → [] ≡ open_unit 2 [] xs
twos-closed [] h = refl
twos-closed (a ∷ []) h = absurd (omega (arith, h))
twos-closed (a ∷ b ∷ xs) h = twos-closed xs (omega (arith, h))

fours-closed : (xs : List ℕ) → length xs % 4 ≡ 0 → [] ≡ open_unit 4 [] xs
fours-closed [] h = refl
fours-closed (a ∷ []) h = absurd (omega (arith, h))
fours-closed (a ∷ b ∷ []) h = absurd (omega (arith, h))
fours-closed (a ∷ b ∷ c ∷ []) h = absurd (omega (arith, h))
fours-closed (a ∷ b ∷ c ∷ d ∷ xs) h = fours-closed xs (omega (arith, h))

sized-closed : (size : ℕ) (two four : Bool) (xs : List ℕ) → eqb size 2 ≡ two → eqb size 4 ≡ four
    → (two || four) ≡ true → length xs % size ≡ 0 → [] ≡ open_unit size [] xs
sized-closed size true four xs e f s h =
    let two = eqb-true size 2 e in rw two (twos-closed xs (rw two at h))
sized-closed size false true xs e f s h =
    let four = eqb-true size 4 f in rw four (fours-closed xs (rw four at h))
sized-closed size false false xs e f s h = absurd cc

pub units-closed : (size : ℕ) (unit xs : List ℕ) → (eqb size 2 || eqb size 4) ≡ true → length unit ≡ 0
    → length xs % size ≡ 0 → unit ≡ open_unit size unit xs
units-closed size [] xs s e h = sized-closed size (eqb size 2) (eqb size 4) xs refl refl s h
units-closed size (x ∷ unit) xs s e h = absurd (omega (arith, e))

-- ---- all units

not-or : (w r : Bool) → (not w && not r) ≡ not (w || r)
not-or true r = refl
not-or false r = refl

pub not-not : (b c : Bool) → b ≡ not c → c ≡ not b
not-not b true e = rw e refl
not-not b false e = rw e refl

-- the first unit of two octets, and of four
next-two : (a b : ℕ) (xs : List ℕ) → units Ucs2 (a ∷ b ∷ xs) ≡ (a ∷ b ∷ []) ∷ units Ucs2 xs
next-two a b xs =
    let long : nat_le 2 (length (a ∷ b ∷ xs)) ≡ true = grind (arith, nat_tests) in
    let size : unit_size Ucs2 (a ∷ b ∷ xs) ≡ 2 = rw long refl in
    units-next Ucs2 a (b ∷ xs)
    ∙ ap (λ (n : ℕ). take n (a ∷ b ∷ xs) ∷ units Ucs2 (drop n (a ∷ b ∷ xs))) size

next-four : (a b c d : ℕ) (xs : List ℕ) → units Ucs4 (a ∷ b ∷ c ∷ d ∷ xs) ≡ (a ∷ b ∷ c ∷ d ∷ []) ∷ units Ucs4 xs
next-four a b c d xs =
    let long : nat_le 4 (length (a ∷ b ∷ c ∷ d ∷ xs)) ≡ true = grind (arith, nat_tests) in
    let size : unit_size Ucs4 (a ∷ b ∷ c ∷ d ∷ xs) ≡ 4 = rw long refl in
    units-next Ucs4 a (b ∷ c ∷ d ∷ xs)
    ∙ ap (λ (n : ℕ). take n (a ∷ b ∷ c ∷ d ∷ xs) ∷ units Ucs4 (drop n (a ∷ b ∷ c ∷ d ∷ xs))) size

pub twos-same : (c : List ℕ) → are_characters_after 2 [] c ≡ not (list_any (is_wrong_unit 2) (units Ucs2 c))
twos-same [] = refl
twos-same (a ∷ []) = refl
twos-same (a ∷ b ∷ xs) =
    ap (λ (r : Bool). not (is_wrong_unit 2 (a ∷ b ∷ [])) && r) (twos-same xs)
    ∙ not-or (is_wrong_unit 2 (a ∷ b ∷ [])) (list_any (is_wrong_unit 2) (units Ucs2 xs))
    ∙ ap (λ (us : List (List ℕ)). not (list_any (is_wrong_unit 2) us)) (sym (next-two a b xs))

pub fours-same : (c : List ℕ) → are_characters_after 4 [] c ≡ not (list_any (is_wrong_unit 4) (units Ucs4 c))
fours-same [] = refl
fours-same (a ∷ []) = refl
fours-same (a ∷ b ∷ []) = refl
fours-same (a ∷ b ∷ c ∷ []) = refl
fours-same (a ∷ b ∷ c ∷ d ∷ xs) =
    ap (λ (r : Bool). not (is_wrong_unit 4 (a ∷ b ∷ c ∷ d ∷ [])) && r) (fours-same xs)
    ∙ not-or (is_wrong_unit 4 (a ∷ b ∷ c ∷ d ∷ [])) (list_any (is_wrong_unit 4) (units Ucs4 xs))
    ∙ ap (λ (us : List (List ℕ)). not (list_any (is_wrong_unit 4) us)) (sym (next-four a b c d xs))

-- ---- a loop over the units

and-more : (all next : Bool) (rest : Bool) (first : Bool) → next ≡ (all && first)
    → (next && rest) ≡ (all && (first && rest))
and-more all next rest first e = ap (λ (b : Bool). b && rest) e ∙ and-assoc all first rest

-- a unit of two octets more
pub two-more : (all next : Bool) (xs : List ℕ) → 2 ≤ length xs
    → next ≡ (all && not (is_no_character (value_of 256 (get_or xs 0 0 ∷ get_or xs 1 0 ∷ []))))
    → (next && are_characters_after 2 [] (take (length xs - 2) (drop 2 xs))) ≡ (all && are_characters_after 2 [] xs)
two-more all next [] h e = absurd (omega arith)
two-more all next (a ∷ []) h e = absurd (omega arith)
two-more all next (a ∷ b ∷ xs) h e =
    ap (λ (l : List ℕ). next && are_characters_after 2 [] l) (take_all (length (a ∷ b ∷ xs) - 2) xs (omega arith))
    ∙ and-more all next (are_characters_after 2 [] xs) (not (is_wrong_unit 2 (a ∷ b ∷ []))) e

-- a unit of four octets more
pub four-more : (all next : Bool) (xs : List ℕ) → 4 ≤ length xs
    → next
    ≡ (all
    && not (is_no_character (value_of 256 (get_or xs 0 0 ∷ get_or xs 1 0 ∷ get_or xs 2 0 ∷ get_or xs 3 0 ∷ []))))
    → (next && are_characters_after 4 [] (take (length xs - 4) (drop 4 xs))) ≡ (all && are_characters_after 4 [] xs)
four-more all next [] h e = absurd (omega arith)
four-more all next (a ∷ []) h e = absurd (omega arith)
four-more all next (a ∷ b ∷ []) h e = absurd (omega arith)
four-more all next (a ∷ b ∷ c ∷ []) h e = absurd (omega arith)
four-more all next (a ∷ b ∷ c ∷ d ∷ xs) h e =
    ap (λ (l : List ℕ). next && are_characters_after 4 [] l)
    (take_all (length (a ∷ b ∷ c ∷ d ∷ xs) - 4) xs (omega arith))
    ∙ and-more all next (are_characters_after 4 [] xs) (not (is_wrong_unit 4 (a ∷ b ∷ c ∷ d ∷ []))) e

-- fewer octets than a unit has
pub two-few : (xs : List ℕ) → length xs ≤ 1 → are_characters_after 2 [] xs ≡ true
two-few [] h = refl
two-few (a ∷ []) h = refl
two-few (a ∷ b ∷ xs) h = absurd (omega (arith, h))

pub four-few : (xs : List ℕ) → length xs ≤ 3 → are_characters_after 4 [] xs ≡ true
four-few [] h = refl
four-few (a ∷ []) h = refl
four-few (a ∷ b ∷ []) h = refl
four-few (a ∷ b ∷ c ∷ []) h = refl
four-few (a ∷ b ∷ c ∷ d ∷ xs) h = absurd (omega (arith, h))
