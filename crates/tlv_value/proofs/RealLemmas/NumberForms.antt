-- Decimal numbers of a REAL, octet by octet.
use Rattle.std.proofs.Common.{◌≡◌, ℕ, Bool, true, false, ◌&&◌, ◌||◌, ◌==◌, if◌then◌else◌, List, [], ◌∷◌, refl, sym, ap}
use Rattle.std.proofs.Common.{ap₂, ◌∙◌, arith}
use Rattle.std.proofs.lemmas.Bool.Decides.{nat_tests}
use Rattle.std.specs.Char.{is_ascii_digit}
use Rattle.tlv_value.specs.TextForms.{Form, digits, maybe, octet_between, sign, ◌or◌, ◌followed_by◌}
use Rattle.tlv_value.specs.Real.{decimal_mark, exponent, marked_digits, some_digits, leading_spaces}
use Rattle.tlv_value.specs.RealState.{after_digits, after_fraction, begin_number, exponent_digit, is_decimal_mark}
use Rattle.tlv_value.specs.RealState.{is_exponent_mark, is_sign, is_whole_number, next_place}
use Rattle.tlv_value.specs.declared.real.decimal_place.NumberForm.{NumberForm}
use Rattle.tlv_value.specs.declared.real.decimal_place.NumberForm.TheVariants.{Nr1, Nr2, Nr3}
use Rattle.tlv_value.specs.declared.real.decimal_place.DecimalPlace.{DecimalPlace}
use Rattle.tlv_value.specs.declared.real.decimal_place.DecimalPlace.TheVariants.{Spaces, Sign, Digits, Mark, Fraction}
use Rattle.tlv_value.specs.declared.real.decimal_place.DecimalPlace.TheVariants.{ExponentMark, ExponentSign}
use Rattle.tlv_value.specs.declared.real.decimal_place.DecimalPlace.TheVariants.{ExponentDigits, Nowhere}
use Rattle.tlv_value.proofs.CheckLemmas.Forms.{digits-then, either-then, if-then, is_either, maybe-then, octet-then}
use Rattle.tlv_value.proofs.CheckLemmas.Forms.{or-false, or-then, then-assoc, then-more}

-- ---- What may follow each part of a number

abbrev pub none : Form
none text = false

abbrev signed_digits : Form
signed_digits = maybe sign followed_by some_digits

-- after the spaces and the sign
abbrev pub number_tail : NumberForm → Form
number_tail Nr1 = some_digits
number_tail Nr2 = marked_digits
number_tail Nr3 = (some_digits or marked_digits) followed_by exponent

abbrev digits_tail : NumberForm → Form
digits_tail Nr1 = digits
digits_tail Nr2 = digits followed_by decimal_mark followed_by digits
digits_tail Nr3 = (digits followed_by exponent) or (digits followed_by ((decimal_mark followed_by digits) followed_by exponent))

abbrev mark_tail : NumberForm → Form
mark_tail Nr1 = none
mark_tail Nr2 = some_digits
mark_tail Nr3 = some_digits followed_by exponent

abbrev fraction_tail : NumberForm → Form
fraction_tail Nr1 = none
fraction_tail Nr2 = digits
fraction_tail Nr3 = digits followed_by exponent

abbrev if_nr3 : NumberForm → Form → Form
if_nr3 Nr1 form = none
if_nr3 Nr2 form = none
if_nr3 Nr3 form = form

abbrev pub place_tail : NumberForm → DecimalPlace → Form
place_tail form Spaces = leading_spaces followed_by (maybe sign followed_by number_tail form)
place_tail form Sign = number_tail form
place_tail form Digits = digits_tail form
place_tail form Mark = mark_tail form
place_tail form Fraction = fraction_tail form
place_tail form ExponentMark = if_nr3 form signed_digits
place_tail form ExponentSign = if_nr3 form some_digits
place_tail form ExponentDigits = if_nr3 form digits
place_tail form Nowhere = none

-- ---- Octets

either-is : (m n x : ℕ) → is_either m n x ≡ (x == m || x == n)
either-is m n x = grind (arith, nat_tests)

digit-no_mark : (x : ℕ) → (is_ascii_digit x && is_decimal_mark x) ≡ false
digit-no_mark x = grind (arith, nat_tests)

digit-no_exponent : (x : ℕ) → (is_ascii_digit x && is_exponent_mark x) ≡ false
digit-no_exponent x = grind (arith, nat_tests)

mark-no_exponent : (x : ℕ) → (is_decimal_mark x && is_exponent_mark x) ≡ false
mark-no_exponent x = grind (arith, nat_tests)

sign-no_digit : (x : ℕ) → is_sign x ≡ true → is_ascii_digit x ≡ false
sign-no_digit x h = grind (arith, nat_tests)

sign-no_mark : (x : ℕ) → is_sign x ≡ true → is_decimal_mark x ≡ false
sign-no_mark x h = grind (arith, nat_tests)

space-no_digit : (x : ℕ) → (x == 0x20) ≡ true → is_ascii_digit x ≡ false
space-no_digit x h = grind (arith, nat_tests)

space-no_mark : (x : ℕ) → (x == 0x20) ≡ true → is_decimal_mark x ≡ false
space-no_mark x h = grind (arith, nat_tests)

space-no_sign : (x : ℕ) → (x == 0x20) ≡ true → is_sign x ≡ false
space-no_sign x h = grind (arith, nat_tests)

-- ---- Parts

mark-then : (g : Form) (x : ℕ) (xs : List ℕ) → (decimal_mark followed_by g) (x ∷ xs) ≡ (is_decimal_mark x && g xs)
mark-then g x xs = either-then 0x2e 0x2c g x xs ∙ ap (λ (b : Bool). b && g xs) (either-is 0x2e 0x2c x)

sign-then : (g : Form) (x : ℕ) (xs : List ℕ) → (sign followed_by g) (x ∷ xs) ≡ (is_sign x && g xs)
sign-then g x xs = either-then 0x2b 0x2d g x xs ∙ ap (λ (b : Bool). b && g xs) (either-is 0x2b 0x2d x)

exponent-is : (x : ℕ) (xs : List ℕ) → exponent (x ∷ xs) ≡ (is_exponent_mark x && signed_digits xs)
exponent-is x xs =
    either-then 0x45 0x65 signed_digits x xs ∙ ap (λ (b : Bool). b && signed_digits xs) (either-is 0x45 0x65 x)

some-is : (x : ℕ) (xs : List ℕ) → some_digits (x ∷ xs) ≡ (is_ascii_digit x && digits xs)
some-is x xs = octet-then 0x30 0x39 digits x xs

some-then : (g : Form) (x : ℕ) (xs : List ℕ) → (some_digits followed_by g) (x ∷ xs) ≡ (is_ascii_digit x && (digits followed_by g) xs)
some-then g x xs =
    then-assoc (octet_between 0x30 0x39) digits g (x ∷ xs) ∙ octet-then 0x30 0x39 (digits followed_by g) x xs

spaces-then : (g : Form) (x : ℕ) (xs : List ℕ)
    → (leading_spaces followed_by g) (x ∷ xs) ≡ (g (x ∷ xs) || (x == 0x20 && (leading_spaces followed_by g) xs))
spaces-then g x xs =
    then-more leading_spaces g x xs
    ∙ ap (λ (b : Bool). g (x ∷ xs) || b) (if-then (x == 0x20) leading_spaces g xs)

-- digits before the exponent
scaled-then : (x : ℕ) (xs : List ℕ)
    → (digits followed_by exponent) (x ∷ xs)
    ≡ ((is_exponent_mark x && signed_digits xs) || (is_ascii_digit x && (digits followed_by exponent) xs))
scaled-then x xs =
    digits-then exponent x xs
    ∙ ap (λ (b : Bool). b || (is_ascii_digit x && (digits followed_by exponent) xs)) (exponent-is x xs)

-- ---- The first digit or mark

begin-two : (d m : Bool) (xs : List ℕ) → (d && m) ≡ false
    → ((d && digits_tail Nr2 xs) || (m && mark_tail Nr2 xs))
    ≡ place_tail Nr2 (if d then Digits else if m then Mark else Nowhere) xs
begin-two true true xs h = absurd cc
begin-two true false xs h = or-false (digits_tail Nr2 xs)
begin-two false true xs h = refl
begin-two false false xs h = refl

begin-three : (d m : Bool) (xs : List ℕ) → (d && m) ≡ false
    → ((d && (digits followed_by exponent) xs)
    || ((d && (digits followed_by ((decimal_mark followed_by digits) followed_by exponent)) xs) || (m && mark_tail Nr3 xs)))
    ≡ place_tail Nr3 (if d then Digits else if m then Mark else Nowhere) xs
begin-three true true xs h = absurd cc
begin-three true false xs h =
    ap (λ (b : Bool). (digits followed_by exponent) xs || b)
    (or-false ((digits followed_by ((decimal_mark followed_by digits) followed_by exponent)) xs))
begin-three false true xs h = refl
begin-three false false xs h = refl

begin-one : (d : Bool) (xs : List ℕ) → (d && digits xs) ≡ place_tail Nr1 (if d then Digits else Nowhere) xs
begin-one true xs = refl
begin-one false xs = refl

begin-step : (form : NumberForm) (x : ℕ) (xs : List ℕ)
    → number_tail form (x ∷ xs) ≡ place_tail form (begin_number form x) xs
begin-step Nr1 x xs = some-is x xs ∙ begin-one (is_ascii_digit x) xs
begin-step Nr2 x xs =
    ap₂ (λ (a b : Bool). a || b) (some-then (decimal_mark followed_by digits) x xs) (mark-then some_digits x xs)
    ∙ begin-two (is_ascii_digit x) (is_decimal_mark x) xs (digit-no_mark x)
begin-step Nr3 x xs =
    or-then some_digits marked_digits exponent (x ∷ xs)
    ∙ ap₂ (λ (a b : Bool). a || b) (some-then exponent x xs)
    (or-then (some_digits followed_by decimal_mark followed_by digits) (decimal_mark followed_by some_digits) exponent (x ∷ xs)
    ∙ ap₂ (λ (a b : Bool). a || b)
    (then-assoc some_digits (decimal_mark followed_by digits) exponent (x ∷ xs)
    ∙ some-then ((decimal_mark followed_by digits) followed_by exponent) x xs)
    (then-assoc decimal_mark some_digits exponent (x ∷ xs) ∙ mark-then (some_digits followed_by exponent) x xs))
    ∙ begin-three (is_ascii_digit x) (is_decimal_mark x) xs (digit-no_mark x)

nothing-begins : (form : NumberForm) (x : ℕ) → is_ascii_digit x ≡ false → is_decimal_mark x ≡ false
    → begin_number form x ≡ Nowhere
nothing-begins Nr1 x d m = rw d refl
nothing-begins Nr2 x d m = rw (d, m) refl
nothing-begins Nr3 x d m = rw (d, m) refl

-- ---- Spaces and the sign

prefix-step : (form : NumberForm) (next : DecimalPlace) (p s : Bool) (xs : List ℕ) → (p ≡ true → s ≡ false)
    → (p ≡ true → next ≡ Nowhere) → (s ≡ true → next ≡ Nowhere)
    → (((s && number_tail form xs) || place_tail form next xs) || (p && place_tail form Spaces xs))
    ≡ place_tail form (if p then Spaces else if s then Sign else next) xs
prefix-step form next true true xs h n k = absurd (let e = h refl in cc)
prefix-step form next true false xs h n k =
    ap (λ (place : DecimalPlace). place_tail form place xs || place_tail form Spaces xs) (n refl)
prefix-step form next false true xs h n k =
    or-false (number_tail form xs || place_tail form next xs)
    ∙ ap (λ (place : DecimalPlace). number_tail form xs || place_tail form place xs) (k refl)
    ∙ or-false (number_tail form xs)
prefix-step form next false false xs h n k = or-false (place_tail form next xs)

spaces-step : (form : NumberForm) (x : ℕ) (xs : List ℕ)
    → place_tail form Spaces (x ∷ xs) ≡ place_tail form (next_place form Spaces x) xs
spaces-step form x xs =
    spaces-then (maybe sign followed_by number_tail form) x xs
    ∙ ap (λ (b : Bool). b || (x == 0x20 && place_tail form Spaces xs))
    (maybe-then sign (number_tail form) (x ∷ xs)
    ∙ ap₂ (λ (a b : Bool). a || b) (sign-then (number_tail form) x xs) (begin-step form x xs))
    ∙ prefix-step form (begin_number form x) (x == 0x20) (is_sign x) xs (space-no_sign x)
    (λ h. nothing-begins form x (space-no_digit x h) (space-no_mark x h))
    (λ h. nothing-begins form x (sign-no_digit x h) (sign-no_mark x h))

-- ---- Digits

digits-two : (d m : Bool) (xs : List ℕ) → (d && m) ≡ false
    → ((m && digits xs) || (d && digits_tail Nr2 xs))
    ≡ place_tail Nr2 (if d then Digits else if m then Fraction else Nowhere) xs
digits-two true true xs h = absurd cc
digits-two true false xs h = refl
digits-two false true xs h = or-false (digits xs)
digits-two false false xs h = refl

abbrev with_mark : Form
with_mark = digits followed_by ((decimal_mark followed_by digits) followed_by exponent)

digits-three : (d m e : Bool) (xs : List ℕ) → (d && m) ≡ false → (d && e) ≡ false → (m && e) ≡ false
    → (((e && signed_digits xs) || (d && (digits followed_by exponent) xs))
    || ((m && (digits followed_by exponent) xs) || (d && with_mark xs)))
    ≡ place_tail Nr3 (if d then Digits else if m then Fraction else if e then ExponentMark else Nowhere) xs
digits-three true true e xs h k l = absurd cc
digits-three true false true xs h k l = absurd cc
digits-three true false false xs h k l = refl
digits-three false true true xs h k l = absurd cc
digits-three false true false xs h k l = or-false ((digits followed_by exponent) xs)
digits-three false false true xs h k l = or-false (signed_digits xs || false) ∙ or-false (signed_digits xs)
digits-three false false false xs h k l = refl

digits-step : (form : NumberForm) (x : ℕ) (xs : List ℕ)
    → digits_tail form (x ∷ xs) ≡ place_tail form (after_digits form x) xs
digits-step Nr1 x xs = begin-one (is_ascii_digit x) xs
digits-step Nr2 x xs =
    digits-then (decimal_mark followed_by digits) x xs
    ∙ ap (λ (b : Bool). b || (is_ascii_digit x && digits_tail Nr2 xs)) (mark-then digits x xs)
    ∙ digits-two (is_ascii_digit x) (is_decimal_mark x) xs (digit-no_mark x)
digits-step Nr3 x xs =
    ap₂ (λ (a b : Bool). a || b) (scaled-then x xs)
    (digits-then ((decimal_mark followed_by digits) followed_by exponent) x xs
    ∙ ap (λ (b : Bool). b || (is_ascii_digit x && with_mark xs))
    (then-assoc decimal_mark digits exponent (x ∷ xs) ∙ mark-then (digits followed_by exponent) x xs))
    ∙ digits-three (is_ascii_digit x) (is_decimal_mark x) (is_exponent_mark x) xs (digit-no_mark x)
    (digit-no_exponent x) (mark-no_exponent x)

-- ---- A mark and digits

if-digit : (form : NumberForm) (d : Bool) (xs : List ℕ)
    → (d && fraction_tail form xs) ≡ place_tail form (if d then Fraction else Nowhere) xs
if-digit form true xs = refl
if-digit form false xs = refl

none-is : (b : Bool) → false ≡ (b && false)
none-is true = refl
none-is false = refl

mark-step : (form : NumberForm) (x : ℕ) (xs : List ℕ)
    → mark_tail form (x ∷ xs) ≡ place_tail form (if is_ascii_digit x then Fraction else Nowhere) xs
mark-step Nr1 x xs = none-is (is_ascii_digit x) ∙ if-digit Nr1 (is_ascii_digit x) xs
mark-step Nr2 x xs = some-is x xs ∙ if-digit Nr2 (is_ascii_digit x) xs
mark-step Nr3 x xs = some-then exponent x xs ∙ if-digit Nr3 (is_ascii_digit x) xs

fraction-three : (d e : Bool) (xs : List ℕ) → (d && e) ≡ false
    → ((e && signed_digits xs) || (d && (digits followed_by exponent) xs))
    ≡ place_tail Nr3 (if d then Fraction else if e then ExponentMark else Nowhere) xs
fraction-three true true xs h = absurd cc
fraction-three true false xs h = refl
fraction-three false true xs h = or-false (signed_digits xs)
fraction-three false false xs h = refl

fraction-step : (form : NumberForm) (x : ℕ) (xs : List ℕ)
    → fraction_tail form (x ∷ xs) ≡ place_tail form (after_fraction form x) xs
fraction-step Nr1 x xs = refl
fraction-step Nr2 x xs = if-digit Nr2 (is_ascii_digit x) xs
fraction-step Nr3 x xs =
    scaled-then x xs ∙ fraction-three (is_ascii_digit x) (is_exponent_mark x) xs (digit-no_exponent x)

-- ---- The exponent

exponent-digit : (form : NumberForm) (d : Bool) (xs : List ℕ)
    → (d && if_nr3 form digits xs) ≡ place_tail form (if d then ExponentDigits else Nowhere) xs
exponent-digit form true xs = refl
exponent-digit form false xs = refl

some-step : (form : NumberForm) (x : ℕ) (xs : List ℕ)
    → if_nr3 form some_digits (x ∷ xs) ≡ place_tail form (exponent_digit x) xs
some-step Nr1 x xs = none-is (is_ascii_digit x) ∙ exponent-digit Nr1 (is_ascii_digit x) xs
some-step Nr2 x xs = none-is (is_ascii_digit x) ∙ exponent-digit Nr2 (is_ascii_digit x) xs
some-step Nr3 x xs = some-is x xs ∙ exponent-digit Nr3 (is_ascii_digit x) xs

exponent-digits : (form : NumberForm) (x : ℕ) (xs : List ℕ)
    → if_nr3 form digits (x ∷ xs) ≡ place_tail form (exponent_digit x) xs
exponent-digits Nr1 x xs = none-is (is_ascii_digit x) ∙ exponent-digit Nr1 (is_ascii_digit x) xs
exponent-digits Nr2 x xs = none-is (is_ascii_digit x) ∙ exponent-digit Nr2 (is_ascii_digit x) xs
exponent-digits Nr3 x xs = exponent-digit Nr3 (is_ascii_digit x) xs

exponent-sign : (form : NumberForm) (s : Bool) (next : DecimalPlace) (xs : List ℕ) → (s ≡ true → next ≡ Nowhere)
    → ((s && if_nr3 form some_digits xs) || place_tail form next xs)
    ≡ place_tail form (if s then ExponentSign else next) xs
exponent-sign form true next xs h =
    ap (λ (place : DecimalPlace). if_nr3 form some_digits xs || place_tail form place xs) (h refl)
    ∙ or-false (if_nr3 form some_digits xs)
exponent-sign form false next xs h = refl

signed-is : (form : NumberForm) (x : ℕ) (xs : List ℕ)
    → if_nr3 form signed_digits (x ∷ xs)
    ≡ ((is_sign x && if_nr3 form some_digits xs) || if_nr3 form some_digits (x ∷ xs))
signed-is Nr1 x xs = none-is (is_sign x) ∙ sym (or-false (is_sign x && false))
signed-is Nr2 x xs = none-is (is_sign x) ∙ sym (or-false (is_sign x && false))
signed-is Nr3 x xs =
    maybe-then sign some_digits (x ∷ xs)
    ∙ ap (λ (b : Bool). b || some_digits (x ∷ xs)) (sign-then some_digits x xs)

no-exponent_digit : (x : ℕ) → is_sign x ≡ true → exponent_digit x ≡ Nowhere
no-exponent_digit x h = rw (sign-no_digit x h) refl

signed-step : (form : NumberForm) (x : ℕ) (xs : List ℕ)
    → if_nr3 form signed_digits (x ∷ xs) ≡ place_tail form (next_place form ExponentMark x) xs
signed-step form x xs =
    signed-is form x xs
    ∙ ap (λ (b : Bool). (is_sign x && if_nr3 form some_digits xs) || b) (some-step form x xs)
    ∙ exponent-sign form (is_sign x) (exponent_digit x) xs (no-exponent_digit x)

-- ---- All places

pub place-step : (form : NumberForm) (place : DecimalPlace) (x : ℕ) (xs : List ℕ)
    → place_tail form place (x ∷ xs) ≡ place_tail form (next_place form place x) xs
place-step form Spaces x xs = spaces-step form x xs
place-step form Sign x xs = begin-step form x xs
place-step form Digits x xs = digits-step form x xs
place-step form Mark x xs = mark-step form x xs
place-step form Fraction x xs = fraction-step form x xs
place-step form ExponentMark x xs = signed-step form x xs
place-step form ExponentSign x xs = some-step form x xs
place-step form ExponentDigits x xs = exponent-digits form x xs
place-step form Nowhere x xs = refl

pub place-end : (form : NumberForm) (place : DecimalPlace) → place_tail form place [] ≡ is_whole_number form place
place-end Nr1 Digits = refl
place-end Nr2 Fraction = refl
place-end Nr3 ExponentDigits = refl
place-end form place = refl
