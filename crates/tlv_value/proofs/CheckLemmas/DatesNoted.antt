-- DATE, TIME-OF-DAY and DATE-TIME: the first 64 octets are enough to check them.
use Rattle.std.proofs.Common.{◌≡◌, ℕ, ◌+◌, ◌<◌, Bool, true, false, ◌&&◌, nat_le, eqb, List, [], ◌∷◌}
use Rattle.std.proofs.Common.{if◌then◌else◌, length, take, refl, sym, ap, ◌∙◌, arith}
use Rattle.std.proofs.lemmas.Bool.{leb-true}
use Rattle.std.proofs.lemmas.Bool.Decides.{nat_tests}
use Rattle.std.proofs.lemmas.List.{take_all}
use Rattle.tlv_value.specs.Dates.{clock_form, date_form, date_time_form, is_date_or_time, midnight_form}
use Rattle.tlv_value.specs.Dates.{month_has_day, time_of_day_form}
use Rattle.tlv_value.specs.Times.{Form, month_and_day, two_digits, ◌followed_by◌}
use Rattle.tlv_value.proofs.CheckLemmas.Forms.{and-false, are_two_digits, then-assoc, two-then}

-- a longer text has none of the forms

long-then : (low high n : ℕ) (g : Form) → ((xs : List ℕ) → n < length xs → g xs ≡ false) → (xs : List ℕ)
    → n + 2 < length xs → (two_digits low high followed_by g) xs ≡ false
long-then low high n g e [] h = absurd (omega (arith, h))
long-then low high n g e (x ∷ []) h = absurd (omega (arith, h))
long-then low high n g e (x ∷ y ∷ xs) h =
    two-then low high g x y xs
    ∙ ap (λ (b : Bool). are_two_digits low high x y && b) (e xs (omega (arith, h)))
    ∙ and-false (are_two_digits low high x y)

long-two : (low high : ℕ) (xs : List ℕ) → 2 < length xs → two_digits low high xs ≡ false
long-two low high [] h = absurd (omega (arith, h))
long-two low high (x ∷ []) h = absurd (omega (arith, h))
long-two low high (x ∷ y ∷ []) h = absurd (omega (arith, h))
long-two low high (x ∷ y ∷ z ∷ xs) h = refl

long-clock : (xs : List ℕ) → 6 < length xs → clock_form xs ≡ false
long-clock = long-then 0 23 4 _ (long-then 0 59 2 _ (long-two 0 60))

long-midnight : (xs : List ℕ) → 6 < length xs → midnight_form xs ≡ false
long-midnight = long-then 24 24 4 _ (long-then 0 0 2 _ (long-two 0 0))

long-time : (xs : List ℕ) → 6 < length xs → time_of_day_form xs ≡ false
long-time xs h = rw (long-clock xs h, long-midnight xs h) refl

long-date : (xs : List ℕ) → 8 < length xs → date_form xs ≡ false
long-date = long-then 0 99 6 _ (long-then 0 99 4 _ (long-then 1 12 2 _ (long-two 1 31)))

long-rest : (xs : List ℕ) → 10 < length xs → (month_and_day followed_by time_of_day_form) xs ≡ false
long-rest xs h =
    then-assoc (two_digits 1 12) (two_digits 1 31) time_of_day_form xs
    ∙ long-then 1 12 8 _ (long-then 1 31 6 _ long-time) xs h

long-date_time : (xs : List ℕ) → 14 < length xs → date_time_form xs ≡ false
long-date_time xs h =
    then-assoc (two_digits 0 99) (two_digits 0 99 followed_by month_and_day) time_of_day_form xs
    ∙ long-then 0 99 12 _
    (λ ys g. then-assoc (two_digits 0 99) month_and_day time_of_day_form ys ∙ long-then 0 99 10 _ long-rest ys g) xs h

none-by : (time date : Bool) (a b c d : Bool) → a ≡ false → b ≡ false → c ≡ false
    → (if time then a else if date then b && d else c && d) ≡ false
none-by true date a b c d e f g = e
none-by false true a b c d e f g = rw f refl
none-by false false a b c d e f g = rw g refl

long-none : (number : ℕ) (xs : List ℕ) → 14 < length xs → is_date_or_time number xs ≡ false
long-none number xs h =
    none-by (eqb number 32) (eqb number 31) (time_of_day_form xs) (date_form xs)
    (date_time_form xs) (month_has_day xs) (long-time xs (omega (arith, h))) (long-date xs (omega (arith, h)))
    (long-date_time xs h)

kept-by : (number : ℕ) (c : List ℕ) (short : Bool) → nat_le (length c) 64 ≡ short
    → is_date_or_time number c ≡ (short && is_date_or_time number (take 64 c))
kept-by number c true e = ap (is_date_or_time number) (sym (take_all 64 c (leb-true (length c) 64 e)))
kept-by number c false e = long-none number c (grind (arith, nat_tests))

-- the first 64 octets are enough
pub date-kept : (number : ℕ) (c : List ℕ)
    → is_date_or_time number c ≡ (nat_le (length c) 64 && is_date_or_time number (take 64 c))
date-kept number c = kept-by number c (nat_le (length c) 64) refl
