-- Texts of a names file, octet by octet.
use Rattle.std.proofs.Common.{◌≡◌, ℕ, suc, ◌+◌, ◌-◌, ◌*◌, ◌^◌, ◌<◌, ◌≤◌, ◌==◌, Bool, true, false, ◌&&◌, ◌||◌, not, cond}
use Rattle.std.proofs.Common.{List, [], ◌∷◌, ◌++◌, length, take, drop, get_or, refl, sym, ap, subst, ◌∙◌, arith, inl}
use Rattle.std.proofs.Common.{inr}
use Rattle.std.specs.Prelude.{nat_le, nat_lt, slice_index}
use Rattle.std.specs.List.{list_all, position_or_len, before_first, after_first}
use Rattle.std.specs.List as std_list
use Rattle.std.proofs.Math.Nat.{pow-succ', one-le-pow, mul-le-mul}
use Rattle.std.proofs.lemmas.Bool.{or_cases, cases_lt, and_parts, and_from, and_left, and_right, leb-true, lt-leb}
use Rattle.std.proofs.lemmas.Bool.{le-leb, eqb-true, eqb-false, ne_eqb, not-true, le-ltb}
use Rattle.std.proofs.lemmas.List.{take_all, take_more, take_rest}
use Rattle.std.proofs.lemmas.List.Splits.{slice_split_first}
use Rattle.std.specs.List.{onto_first}
use Rattle.tlv_value.specs.Names.{are_first_arcs, dotted_parts, entry, entry_line, is_arc, is_blank, is_dotted, is_name}
use Rattle.tlv_value.specs.Names.{file_lines, may_begin, names_line, no_name, pair_line, without_first_blanks}
use Rattle.tlv_value.specs.Names.{without_last_blanks, without_outer_blanks}
use Rattle.std.specs.Str.Lines.{strip_carriage_return}
use Rattle.std.specs.Char.{is_ascii_digit}
use Rattle.std.specs.Str.Parse.{AllDigits, digits_value}
use Rattle.std.proofs.lemmas.Str.{digit_value_digit}
use Rattle.std.proofs.lemmas.Str.Parse.{numerals_by_weight, tells_digits}

abbrev is_mark : ℕ → ℕ → Bool
is_mark mark x = x == mark

take-more : (n x : ℕ) (xs : List ℕ) → take (1 + n) (x ∷ xs) ≡ x ∷ take n xs
take-more n x xs = let e : 1 + n ≡ suc n = omega arith in rw e refl

drop-more : (n x : ℕ) (xs : List ℕ) → drop (1 + n + 1) (x ∷ xs) ≡ drop (n + 1) xs
drop-more n x xs = let e : 1 + n + 1 ≡ suc (n + 1) = omega arith in rw e refl

drop-one : (n x : ℕ) (xs : List ℕ) → drop (1 + n) (x ∷ xs) ≡ drop n xs
drop-one n x xs = let e : 1 + n ≡ suc n = omega arith in rw e refl

-- the first line ends before the first LF

line-at : (b : Bool) (x n : ℕ) (xs : List ℕ)
    → onto_first x (file_lines xs) ≡ (x ∷ take n xs) ∷ file_lines (drop (n + 1) xs)
    → cond b ([] ∷ file_lines xs) (onto_first x (file_lines xs))
    ≡ take (cond (not b) (1 + n) 0) (x ∷ xs) ∷ file_lines (drop (cond (not b) (1 + n) 0 + 1) (x ∷ xs))
line-at true x n xs h = refl
line-at false x n xs h = rw (take-more n x xs, drop-more n x xs) h

pub first_line : (xs : List ℕ) → 0 < length xs
    → file_lines xs ≡ before_first (is_mark 10) xs ∷ file_lines (after_first (is_mark 10) xs)
first_line [] some = absurd (omega arith)
first_line (x ∷ []) some = line-at (x == 10) x 0 [] refl
first_line (x ∷ y ∷ ys) some =
    line-at (x == 10) x (position_or_len (is_mark 10) (y ∷ ys)) (y ∷ ys)
    (ap (onto_first x) (first_line (y ∷ ys) (omega arith)))

-- the blanks after the first

blanks-at : (b : Bool) (x n : ℕ) (xs : List ℕ) → is_blank x ≡ b
    → without_first_blanks (drop n xs) ≡ without_first_blanks (drop (n + 1) xs)
    → without_first_blanks (drop (cond (not b) (1 + n) 0) (x ∷ xs))
    ≡ without_first_blanks (drop (cond (not b) (1 + n) 0 + 1) (x ∷ xs))
blanks-at true x n xs e h = rw e refl
blanks-at false x n xs e h = rw (drop-one n x xs, drop-more n x xs) h

pub blanks_from_first : (xs : List ℕ)
    → without_first_blanks (drop (position_or_len is_blank xs) xs) ≡ without_first_blanks (after_first is_blank xs)
blanks_from_first [] = refl
blanks_from_first (x ∷ xs) = blanks-at (is_blank x) x (position_or_len is_blank xs) xs refl (blanks_from_first xs)

-- blanks at the end

all-push : (xs : List ℕ) (x : ℕ) → list_all is_blank (xs ++ x ∷ []) ≡ (list_all is_blank xs && is_blank x)
all-push [] x = elim (is_blank x) as (λ b. (b && true) ≡ (true && b)) [ true ↦ refl | false ↦ refl ]
all-push (y ∷ xs) x =
    elim (is_blank y) as (λ b. (b && list_all is_blank (xs ++ x ∷ [])) ≡ ((b && list_all is_blank xs) && is_blank x))
    [ true ↦ all-push xs x | false ↦ refl ]

pub last_blank : (xs : List ℕ) (x : ℕ) → is_blank x ≡ true → without_last_blanks (xs ++ x ∷ []) ≡ without_last_blanks xs
last_blank [] x e = rw e refl
last_blank (y ∷ xs) x e =
    let same : list_all is_blank (xs ++ x ∷ []) ≡ list_all is_blank xs =
    all-push xs x ∙ rw e (elim (list_all is_blank xs) as (λ b. (b && true) ≡ b) [ true ↦ refl | false ↦ refl ]) in
    rw (same, last_blank xs x e) refl

pub last_no_blank : (xs : List ℕ) (x : ℕ) → is_blank x ≡ false → without_last_blanks (xs ++ x ∷ []) ≡ xs ++ x ∷ []
last_no_blank [] x e = rw e refl
last_no_blank (y ∷ xs) x e =
    let some : list_all is_blank (xs ++ x ∷ []) ≡ false =
    all-push xs x ∙ and_right (list_all is_blank xs) (is_blank x) e in
    rw (some, and_right (is_blank y) false refl, last_no_blank xs x e) refl

-- the arcs between dots

pub one_part : (xs : List ℕ) → length xs ≤ position_or_len (is_mark 46) xs → dotted_parts xs ≡ xs ∷ []
one_part [] h = refl
one_part (x ∷ xs) h =
    elim (x == 46) as (λ b. suc (length xs) ≤ cond (not b) (1 + position_or_len (is_mark 46) xs) 0
    → cond b ([] ∷ dotted_parts xs) (std_list.onto_first x (dotted_parts xs)) ≡ (x ∷ xs) ∷ []) [
      | true ↦ λ g. absurd (omega arith)
      | false ↦ λ g. ap (std_list.onto_first x) (one_part xs (omega arith))
    ] h

pub first_part : (xs : List ℕ) → (more : List (List ℕ)) × (dotted_parts xs ≡ before_first (is_mark 46) xs ∷ more)
first_part [] = ([], refl)
first_part (x ∷ xs) =
    let rest = first_part xs in
    elim (x == 46) as (λ b. (more : List (List ℕ))
    × (cond b ([] ∷ dotted_parts xs) (std_list.onto_first x (dotted_parts xs))
    ≡ take (cond (not b) (1 + position_or_len (is_mark 46) xs) 0) (x ∷ xs) ∷ more)) [
      | true ↦ (dotted_parts xs, refl)
      | false ↦ (rest.0, rw (take-more (position_or_len (is_mark 46) xs) x xs) (ap (std_list.onto_first x) rest.1))
    ]

pub no_arc : (xs : List ℕ) → is_arc (before_first (is_mark 46) xs) ≡ false → list_all is_arc (dotted_parts xs) ≡ false
no_arc xs h =
    let first = first_part xs in
    let e : dotted_parts xs ≡ before_first (is_mark 46) xs ∷ first.0 = first.1 in
    rw e (and_left (is_arc (before_first (is_mark 46) xs)) (list_all is_arc first.0) h)

pub last_arc : (xs : List ℕ) → length xs ≤ position_or_len (is_mark 46) xs → is_arc xs ≡ true
    → list_all is_arc (dotted_parts xs) ≡ true
last_arc xs h a = let e : dotted_parts xs ≡ xs ∷ [] = one_part xs h in rw e (and_from (is_arc xs) true a refl)

pub more_parts : (xs : List ℕ) → position_or_len (is_mark 46) xs < length xs
    → dotted_parts xs ≡ before_first (is_mark 46) xs ∷ dotted_parts (after_first (is_mark 46) xs)
more_parts xs h = slice_split_first (is_mark 46) xs 0 h

pub more_arcs : (xs : List ℕ) → position_or_len (is_mark 46) xs < length xs
    → is_arc (before_first (is_mark 46) xs) ≡ true
    → list_all is_arc (dotted_parts xs) ≡ list_all is_arc (dotted_parts (after_first (is_mark 46) xs))
more_arcs xs h a =
    let e : dotted_parts xs ≡ before_first (is_mark 46) xs ∷ dotted_parts (after_first (is_mark 46) xs) =
    more_parts xs h in rw (e, a) refl

-- what is known of an arc
pub some_digit : (arc : List ℕ) → is_arc arc ≡ true → 0 < length arc
some_digit [] h = absurd (cc)
some_digit (d ∷ ds) h = omega arith

pub arc-parts : (arc : List ℕ) → is_arc arc ≡ true
    → (list_all is_ascii_digit arc ≡ true) × (((length arc == 1) || not (slice_index arc 0 == 48)) ≡ true)
arc-parts arc h =
    let outer =
    and_parts (not (length arc == 0) && list_all is_ascii_digit arc)
    ((length arc == 1) || not (slice_index arc 0 == 48)) h in
    ((and_parts (not (length arc == 0)) (list_all is_ascii_digit arc) outer.0).1, outer.1)

pub digit-between : (x : ℕ) → is_ascii_digit x ≡ true → (48 ≤ x) × (x ≤ 57)
digit-between x h = let both = and_parts (nat_le 48 x) (nat_le x 57) h in (leb-true 48 x both.0, leb-true x 57 both.1)

record LongArc (d e : ℕ) : Type 0 where
  first_low : 49 ≤ d
  first_high : d ≤ 57
  second_low : 48 ≤ e
  second_high : e ≤ 57

long-arc : (d e : ℕ) (ds : List ℕ) → is_arc (d ∷ e ∷ ds) ≡ true → LongArc d e
long-arc d e ds h =
    let known = arc-parts (d ∷ e ∷ ds) h in
    let all = and_parts (is_ascii_digit d) (is_ascii_digit e && list_all is_ascii_digit ds) known.0 in
    let more = and_parts (is_ascii_digit e) (list_all is_ascii_digit ds) all.1 in
    let one = digit-between d all.0 in
    let two = digit-between e more.0 in
    let low : 49 ≤ d = elim (or_cases (length (d ∷ e ∷ ds) == 1) (not (d == 48)) known.1) [
      | inl p ↦ let q : length (d ∷ e ∷ ds) ≡ 1 = eqb-true (length (d ∷ e ∷ ds)) 1 p in absurd (omega arith)
      | inr p ↦ let q : d ≡ 48 → ⊥ = eqb-false d 48 (not-true (d == 48) p) in let r : 48 ≤ d = one.0 in omega arith
    ] in
    record { first_low = low; first_high = one.1; second_low = two.0; second_high = two.1 }

-- the number that digits write, each by its place

abbrev weight : List ℕ → ℕ
weight [] = 0
weight (x ∷ xs) = (x - 48) * 10 ^ length xs + weight xs

all-digits : (ds : List ℕ) → list_all is_ascii_digit ds ≡ true → AllDigits 10 ds
all-digits [] h = tt
all-digits (d ∷ ds) h =
    let both = and_parts (is_ascii_digit d) (list_all is_ascii_digit ds) h in
    let known = digit-between d both.0 in
    (omega (arith, digit_value_digit d known, known.1), all-digits ds both.1)

weight-arc : (arc : List ℕ) → is_arc arc ≡ true → weight arc ≡ digits_value 10 arc
weight-arc arc a =
    (numerals_by_weight (AllDigits 10) tells_digits weight (record { empty = refl; more = λ c cs k. refl })).same arc
    (all-digits arc (arc-parts arc a).0)

-- a number of one, two and more digits

pub forty_of_two : (arc : List ℕ) → is_arc arc ≡ true → length arc ≡ 2
    → nat_le (get_or arc 0 0) 51 ≡ nat_le (digits_value 10 arc) 39
forty_of_two [] a h = absurd (omega arith)
forty_of_two (d ∷ []) a h = absurd (omega arith)
forty_of_two (d ∷ e ∷ []) a h =
    let known = long-arc d e [] a in
    let low : 49 ≤ d = known.first_low in
    let e_low : 48 ≤ e = known.second_low in
    let e_high : e ≤ 57 = known.second_high in
    elim (cases_lt 51 d) [
      | inl p ↦ lt-leb d 51 p ∙ sym (lt-leb (weight (d ∷ e ∷ [])) 39 (omega arith))
      | inr p ↦ le-leb d 51 p ∙ sym (le-leb (weight (d ∷ e ∷ [])) 39 (omega arith))
    ]
    ∙ ap (λ (n : ℕ). nat_le n 39) (weight-arc (d ∷ e ∷ []) a)
forty_of_two (d ∷ e ∷ f ∷ ds) a h = absurd (omega arith)

two_digits-ten : (d p : ℕ) → 49 ≤ d → 1 ≤ p → 10 ≤ (d - 48) * (10 * p)
two_digits-ten d p h q =
    let a : 1 ≤ d - 48 = omega arith in
    let b : 10 ≤ 10 * p = omega arith in
    mul-le-mul a b

three_digits-hundred : (d p : ℕ) → 49 ≤ d → 1 ≤ p → 100 ≤ (d - 48) * (10 * (10 * p))
three_digits-hundred d p h q =
    let a : 1 ≤ d - 48 = omega arith in
    let b : 100 ≤ 10 * (10 * p) = omega arith in
    mul-le-mul a b

pub ten_of_more : (arc : List ℕ) → is_arc arc ≡ true → 1 < length arc → 10 ≤ digits_value 10 arc
ten_of_more [] a h = absurd (omega arith)
ten_of_more (d ∷ []) a h = absurd (omega arith)
ten_of_more (d ∷ e ∷ ds) a h =
    let n = length ds in
    let low : 1 ≤ 10 ^ n = one-le-pow n 10 (omega arith) in
    let same : 10 ^ suc n ≡ 10 * 10 ^ n = pow-succ' 10 n in
    let more : 10 ≤ (d - 48) * 10 ^ suc n = rw same (two_digits-ten d (10 ^ n) (long-arc d e ds a).first_low low) in
    let all : 10 ≤ weight (d ∷ e ∷ ds) = omega (arith, more) in
    subst (λ (k : ℕ). 10 ≤ k) (weight-arc (d ∷ e ∷ ds) a) all

pub forty_of_more : (arc : List ℕ) → is_arc arc ≡ true → 2 < length arc → nat_le (digits_value 10 arc) 39 ≡ false
forty_of_more [] a h = absurd (omega arith)
forty_of_more (d ∷ []) a h = absurd (omega arith)
forty_of_more (d ∷ e ∷ []) a h = absurd (omega arith)
forty_of_more (d ∷ e ∷ f ∷ ds) a h =
    let n = length ds in
    let low : 1 ≤ 10 ^ n = one-le-pow n 10 (omega arith) in
    let same : 10 ^ suc (suc n) ≡ 10 * (10 * 10 ^ n) = pow-succ' 10 (suc n) ∙ ap (λ m. 10 * m) (pow-succ' 10 n) in
    let more : 100 ≤ (d - 48) * 10 ^ suc (suc n) =
    rw same (three_digits-hundred d (10 ^ n) (long-arc d e (f ∷ ds) a).first_low low) in
    ap (λ (k : ℕ). nat_le k 39) (sym (weight-arc (d ∷ e ∷ f ∷ ds) a))
    ∙ lt-leb (weight (d ∷ e ∷ f ∷ ds)) 39 (omega (arith, more))

pub three_of_one : (arc : List ℕ) → is_arc arc ≡ true → length arc ≤ 1 → 50 < get_or arc 0 0 → 3 ≤ digits_value 10 arc
three_of_one [] a h g = absurd (omega arith)
three_of_one (d ∷ []) a h g =
    let all : 3 ≤ weight (d ∷ []) = omega arith in
    subst (λ (k : ℕ). 3 ≤ k) (weight-arc (d ∷ []) a) all
three_of_one (d ∷ e ∷ ds) a h g = absurd (omega arith)

pub no_first : (first second : List ℕ) → 3 ≤ digits_value 10 first → may_begin first second ≡ false
no_first first second h =
    let other : (digits_value 10 first == 2) ≡ false = ne_eqb (digits_value 10 first) 2 (λ e. omega arith) in
    let high : nat_lt (digits_value 10 first) 2 ≡ false = le-ltb (digits_value 10 first) 2 (omega arith) in
    rw (other, high) refl

-- the first part of a text, by where it ends

pub first_no_arc : (xs : List ℕ) (end : ℕ) → end ≡ position_or_len (is_mark 46) xs → is_arc (take end xs) ≡ false
    → list_all is_arc (dotted_parts xs) ≡ false
first_no_arc xs end e h = no_arc xs (subst (λ n. is_arc (take n xs) ≡ false) e h)

pub first_arc : (xs : List ℕ) (end : ℕ) → end ≡ position_or_len (is_mark 46) xs
    → list_all is_arc (dotted_parts xs) ≡ true → is_arc (take end xs) ≡ true
first_arc xs end e h =
    let first = first_part xs in
    let all : list_all is_arc (before_first (is_mark 46) xs ∷ first.0) ≡ true =
    subst (λ (ps : List (List ℕ)). list_all is_arc ps ≡ true) first.1 h in
    subst (λ n. is_arc (take n xs) ≡ true) (sym e)
    (and_parts (is_arc (before_first (is_mark 46) xs)) (list_all is_arc first.0) all).0

pub whole_arc : (xs : List ℕ) (end : ℕ) → end ≡ position_or_len (is_mark 46) xs → end ≡ length xs
    → is_arc (take end xs) ≡ true → list_all is_arc (dotted_parts xs) ≡ true
whole_arc xs end e l h =
    let all : take end xs ≡ xs = take_all end xs (omega arith) in
    last_arc xs (omega arith) (subst (λ (ys : List ℕ). is_arc ys ≡ true) all h)

pub rest_arcs : (xs : List ℕ) (end : ℕ) → end ≡ position_or_len (is_mark 46) xs → end < length xs
    → is_arc (take end xs) ≡ true
    → list_all is_arc (dotted_parts xs) ≡ list_all is_arc (dotted_parts (drop (end + 1) xs))
rest_arcs xs end e l h =
    more_arcs xs (omega arith) (subst (λ n. is_arc (take n xs) ≡ true) e h)
    ∙ ap (λ n. list_all is_arc (dotted_parts (drop (n + 1) xs))) (sym e)

pub one_part_alone : (xs : List ℕ) (end : ℕ) → end ≡ position_or_len (is_mark 46) xs → end ≡ length xs
    → are_first_arcs (dotted_parts xs) ≡ false
one_part_alone xs end e l = ap are_first_arcs (one_part xs (omega arith))

pub two_parts : (xs : List ℕ) (end next : ℕ) → end ≡ position_or_len (is_mark 46) xs → end < length xs
    → next ≡ position_or_len (is_mark 46) (drop (end + 1) xs)
    → may_begin (take end xs) (take next (drop (end + 1) xs)) ≡ are_first_arcs (dotted_parts xs)
two_parts xs end next e l f =
    let first : dotted_parts xs ≡ take end xs ∷ dotted_parts (drop (end + 1) xs) =
    more_parts xs (omega arith) ∙ ap (λ n. take n xs ∷ dotted_parts (drop (n + 1) xs)) (sym e) in
    let second = first_part (drop (end + 1) xs) in
    let both : dotted_parts (drop (end + 1) xs) ≡ take next (drop (end + 1) xs) ∷ second.0 =
    second.1 ∙ ap (λ n. take n (drop (end + 1) xs) ∷ second.0) (sym f) in
    sym (ap are_first_arcs (first ∙ ap (λ (ps : List (List ℕ)). take end xs ∷ ps) both))

-- blanks taken from the end

one-more : (xs : List ℕ) (end : ℕ) → 0 < end → end ≤ length xs
    → take end xs ≡ take (end - 1) xs ++ get_or xs (end - 1) 0 ∷ []
one-more xs end h l =
    let e : end - 1 + 1 ≡ end = omega arith in
    ap (λ n. take n xs) (sym e) ∙ take_more xs (end - 1) 0 (omega arith)

pub shorter_end : (xs : List ℕ) (end : ℕ) → 0 < end → end ≤ length xs → is_blank (get_or xs (end - 1) 0) ≡ true
    → without_last_blanks (take end xs) ≡ without_last_blanks (take (end - 1) xs)
shorter_end xs end h l b =
    ap without_last_blanks (one-more xs end h l) ∙ last_blank (take (end - 1) xs) (get_or xs (end - 1) 0) b

pub last_end : (xs : List ℕ) (end : ℕ) → 0 < end → end ≤ length xs → is_blank (get_or xs (end - 1) 0) ≡ false
    → without_last_blanks (take end xs) ≡ take end xs
last_end xs end h l b =
    ap without_last_blanks (one-more xs end h l) ∙ last_no_blank (take (end - 1) xs) (get_or xs (end - 1) 0) b
    ∙ sym (one-more xs end h l)

pub empty_end : (xs : List ℕ) (end : ℕ) → end ≡ 0 → without_last_blanks (take end xs) ≡ take end xs
empty_end xs end e = rw e refl

-- what a line says, if it is not blank

full_text : (text : List ℕ) → 0 < length text → (get_or text 0 0 ≡ 35 → ⊥)
    → entry_line text ≡ pair_line (before_first is_blank text) (without_first_blanks (after_first is_blank text))
full_text [] some mark = absurd (omega arith)
full_text (x ∷ xs) some mark = let e : (x == 35) ≡ false = ne_eqb x 35 mark in rw e refl

pub full_entry : (line text : List ℕ) (end : ℕ) → length line ≤ 400
    → text ≡ without_outer_blanks (strip_carriage_return line)
    → 0 < length text → (get_or text 0 0 ≡ 35 → ⊥)
    → end ≡ position_or_len is_blank text
    → names_line line ≡ pair_line (take end text) (without_first_blanks (drop end text))
full_entry line text end h e some mark at =
    let short : nat_lt 400 (length line) ≡ false = le-ltb 400 (length line) h in
    rw (short, ← e, at, blanks_from_first text) (full_text text some mark)

pub full_pair : (line text name : List ℕ) (end : ℕ) → length line ≤ 400
    → text ≡ without_outer_blanks (strip_carriage_return line) → (length text == 0) ≡ false → (get_or text 0 0 ≡ 35 → ⊥)
    → end ≡ position_or_len is_blank text → name ≡ without_first_blanks (take (length text - end) (drop end text))
    → names_line line ≡ pair_line (take end text) name
full_pair line text name end h e some mark at n =
    let nonempty : length text ≡ 0 → ⊥ = eqb-false (length text) 0 some in
    full_entry line text end h e (omega arith) mark at
    ∙ ap (pair_line (take end text)) (sym (n ∙ ap without_first_blanks (take_rest text end)))

pub no_name_pair : (dotted name : List ℕ) → is_dotted dotted ≡ true → is_name name ≡ false
    → pair_line dotted name ≡ no_name
no_name_pair dotted name d n = rw (d, n) refl

pub named_pair : (dotted name : List ℕ) → is_dotted dotted ≡ true → is_name name ≡ true
    → pair_line dotted name ≡ entry dotted name
named_pair dotted name d n = rw (d, n) refl
