-- Canonical decimal numbers of a REAL, octet by octet.
use Rattle.std.proofs.Common.{◌≡◌, ℕ, Bool, true, false, ◌&&◌, ◌||◌, ◌==◌, nat_le, if◌then◌else◌, List, [], ◌∷◌, refl, sym, ap}
use Rattle.std.proofs.Common.{ap₂, ◌∙◌, arith}
use Rattle.std.proofs.Math.Bool.{and-true}
use Rattle.std.proofs.lemmas.Bool.Decides.{nat_tests}
use Rattle.std.specs.Char.{is_ascii_digit}
use Rattle.tlv_value.specs.TextForms.{Form, digits, mark, maybe, no_octets, ◌followed_by◌}
use Rattle.tlv_value.specs.Real.{canonical_exponent, canonical_mantissa, canonical_nr3_form, nonzero_digit}
use Rattle.tlv_value.specs.RealState.{begin_exponent, begin_mantissa, is_nonzero_digit, is_whole_canonical}
use Rattle.tlv_value.specs.RealState.{next_canonical_place}
use Rattle.tlv_value.specs.declared.real.canonical_place.CanonicalPlace.{CanonicalPlace}
use Rattle.tlv_value.specs.declared.real.canonical_place.CanonicalPlace.TheVariants.{Begin, Minus, NonzeroDigit}
use Rattle.tlv_value.specs.declared.real.canonical_place.CanonicalPlace.TheVariants.{ZeroDigit, Point, Scale}
use Rattle.tlv_value.specs.declared.real.canonical_place.CanonicalPlace.TheVariants.{ScalePlus, ScaleMinus, ScaleZero}
use Rattle.tlv_value.specs.declared.real.canonical_place.CanonicalPlace.TheVariants.{ScaleDigits, Other}
use Rattle.tlv_value.proofs.CheckLemmas.Forms.{and-false, digits-then, maybe-then, octet-then, or-false, then-assoc}
use Rattle.tlv_value.proofs.RealLemmas.NumberForms.{none}

-- ---- What may follow each part of a number

abbrev after_point : Form
after_point = mark 0x45 followed_by canonical_exponent

abbrev point_tail : Form
point_tail = mark 0x2e followed_by after_point

-- digits of which the last is not 0, and the point
abbrev zero_tail : Form
zero_tail = (digits followed_by nonzero_digit) followed_by point_tail

abbrev nonzero_tail : Form
nonzero_tail = maybe (digits followed_by nonzero_digit) followed_by point_tail

abbrev mantissa_tail : Form
mantissa_tail = canonical_mantissa followed_by point_tail

abbrev scale_digits : Form
scale_digits = nonzero_digit followed_by digits

abbrev pub canonical_tail : CanonicalPlace → Form
canonical_tail Begin = canonical_nr3_form
canonical_tail Minus = mantissa_tail
canonical_tail NonzeroDigit = nonzero_tail
canonical_tail ZeroDigit = zero_tail
canonical_tail Point = after_point
canonical_tail Scale = canonical_exponent
canonical_tail ScalePlus = mark 0x30
canonical_tail ScaleMinus = scale_digits
canonical_tail ScaleZero = no_octets
canonical_tail ScaleDigits = digits
canonical_tail Other = none

-- ---- Octets

same-octet : (m x : ℕ) → (nat_le m x && nat_le x m) ≡ (x == m)
same-octet m x = grind (arith, nat_tests)

digit-parts : (x : ℕ) → is_ascii_digit x ≡ (is_nonzero_digit x || x == 0x30)
digit-parts x = grind (arith, nat_tests)

nonzero-no_zero : (x : ℕ) → (is_nonzero_digit x && x == 0x30) ≡ false
nonzero-no_zero x = grind (arith, nat_tests)

nonzero-no_point : (x : ℕ) → (is_nonzero_digit x && x == 0x2e) ≡ false
nonzero-no_point x = grind (arith, nat_tests)

zero-no_point : (x : ℕ) → (x == 0x30 && x == 0x2e) ≡ false
zero-no_point x = grind (arith, nat_tests)

minus-no_digit : (x : ℕ) → (x == 0x2d) ≡ true → is_nonzero_digit x ≡ false
minus-no_digit x h = grind (arith, nat_tests)

plus-no_digit : (x : ℕ) → (x == 0x2b) ≡ true → is_nonzero_digit x ≡ false
plus-no_digit x h = grind (arith, nat_tests)

plus-no_minus : (x : ℕ) → (x == 0x2b) ≡ true → (x == 0x2d) ≡ false
plus-no_minus x h = grind (arith, nat_tests)

-- ---- Parts

octet-then_is : (m : ℕ) (g : Form) (x : ℕ) (xs : List ℕ) → (mark m followed_by g) (x ∷ xs) ≡ (x == m && g xs)
octet-then_is m g x xs = octet-then m m g x xs ∙ ap (λ (b : Bool). b && g xs) (same-octet m x)

octet-alone : (m x : ℕ) (xs : List ℕ) → mark m (x ∷ xs) ≡ (x == m && no_octets xs)
octet-alone m x [] = same-octet m x ∙ sym (and-true (x == m))
octet-alone m x (y ∷ ys) = sym (and-false (x == m))

nonzero-then : (g : Form) (x : ℕ) (xs : List ℕ) → (nonzero_digit followed_by g) (x ∷ xs) ≡ (is_nonzero_digit x && g xs)
nonzero-then g x xs = octet-then 0x31 0x39 g x xs

-- ---- The mantissa

begin-by : (n : Bool) (xs : List ℕ)
    → (n && nonzero_tail xs) ≡ canonical_tail (if n then NonzeroDigit else Other) xs
begin-by true xs = refl
begin-by false xs = refl

mantissa-step : (x : ℕ) (xs : List ℕ) → mantissa_tail (x ∷ xs) ≡ canonical_tail (begin_mantissa x) xs
mantissa-step x xs =
    then-assoc nonzero_digit (maybe (digits followed_by nonzero_digit)) point_tail (x ∷ xs)
    ∙ nonzero-then nonzero_tail x xs
    ∙ begin-by (is_nonzero_digit x) xs

minus-by : (minus : Bool) (next : CanonicalPlace) (xs : List ℕ) → (minus ≡ true → next ≡ Other)
    → ((minus && mantissa_tail xs) || canonical_tail next xs)
    ≡ canonical_tail (if minus then Minus else next) xs
minus-by true next xs h =
    ap (λ (place : CanonicalPlace). mantissa_tail xs || canonical_tail place xs) (h refl) ∙ or-false (mantissa_tail xs)
minus-by false next xs h = refl

no-mantissa : (x : ℕ) → (x == 0x2d) ≡ true → begin_mantissa x ≡ Other
no-mantissa x h = rw (minus-no_digit x h) refl

number-step : (x : ℕ) (xs : List ℕ)
    → canonical_nr3_form (x ∷ xs) ≡ canonical_tail (next_canonical_place Begin x) xs
number-step x xs =
    maybe-then (mark 0x2d) mantissa_tail (x ∷ xs)
    ∙ ap₂ (λ (a b : Bool). a || b) (octet-then_is 0x2d mantissa_tail x xs) (mantissa-step x xs)
    ∙ minus-by (x == 0x2d) (begin_mantissa x) xs (no-mantissa x)

-- a digit more, of which the last is not 0
zero-is : (x : ℕ) (xs : List ℕ)
    → zero_tail (x ∷ xs)
    ≡ ((is_nonzero_digit x && point_tail xs) || ((is_nonzero_digit x || x == 0x30) && zero_tail xs))
zero-is x xs =
    then-assoc digits nonzero_digit point_tail (x ∷ xs)
    ∙ digits-then (nonzero_digit followed_by point_tail) x xs
    ∙ ap₂ (λ (a b : Bool). a || b) (nonzero-then point_tail x xs)
    (ap₂ (λ (a b : Bool). a && b) (digit-parts x) (sym (then-assoc digits nonzero_digit point_tail xs)))

or-swap : (a b : Bool) → (a || b) ≡ (b || a)
or-swap true true = refl
or-swap true false = refl
or-swap false b = sym (or-false b)

nonzero-tail_is : (xs : List ℕ) → (point_tail xs || zero_tail xs) ≡ nonzero_tail xs
nonzero-tail_is xs =
    or-swap (point_tail xs) (zero_tail xs) ∙ sym (maybe-then (digits followed_by nonzero_digit) point_tail xs)

zero-by : (n z : Bool) (xs : List ℕ)
    → ((n && point_tail xs) || ((n || z) && zero_tail xs))
    ≡ canonical_tail (if n then NonzeroDigit else if z then ZeroDigit else Other) xs
zero-by true z xs = nonzero-tail_is xs
zero-by false true xs = refl
zero-by false false xs = refl

zero-step : (x : ℕ) (xs : List ℕ) → zero_tail (x ∷ xs) ≡ canonical_tail (next_canonical_place ZeroDigit x) xs
zero-step x xs = zero-is x xs ∙ zero-by (is_nonzero_digit x) (x == 0x30) xs

nonzero-by : (n z p : Bool) (xs : List ℕ) → (n && p) ≡ false → (z && p) ≡ false
    → (((n && point_tail xs) || ((n || z) && zero_tail xs)) || (p && after_point xs))
    ≡ canonical_tail (if n then NonzeroDigit else if z then ZeroDigit else if p then Point else Other) xs
nonzero-by true z true xs h k = absurd cc
nonzero-by true z false xs h k = or-false (point_tail xs || zero_tail xs) ∙ nonzero-tail_is xs
nonzero-by false true true xs h k = absurd cc
nonzero-by false true false xs h k = or-false (zero_tail xs)
nonzero-by false false true xs h k = refl
nonzero-by false false false xs h k = refl

nonzero-step : (x : ℕ) (xs : List ℕ) → nonzero_tail (x ∷ xs) ≡ canonical_tail (next_canonical_place NonzeroDigit x) xs
nonzero-step x xs =
    maybe-then (digits followed_by nonzero_digit) point_tail (x ∷ xs)
    ∙ ap₂ (λ (a b : Bool). a || b) (zero-is x xs) (octet-then_is 0x2e after_point x xs)
    ∙ nonzero-by (is_nonzero_digit x) (x == 0x30) (x == 0x2e) xs (nonzero-no_point x) (zero-no_point x)

-- ---- The exponent

point-by : (e : Bool) (xs : List ℕ) → (e && canonical_exponent xs) ≡ canonical_tail (if e then Scale else Other) xs
point-by true xs = refl
point-by false xs = refl

digits-by : (n : Bool) (xs : List ℕ) → (n && digits xs) ≡ canonical_tail (if n then ScaleDigits else Other) xs
digits-by true xs = refl
digits-by false xs = refl

scale-digits_step : (x : ℕ) (xs : List ℕ) → scale_digits (x ∷ xs) ≡ canonical_tail (begin_exponent x) xs
scale-digits_step x xs = nonzero-then digits x xs ∙ digits-by (is_nonzero_digit x) xs

scale-by : (plus minus : Bool) (next : CanonicalPlace) (xs : List ℕ) → (plus ≡ true → minus ≡ false)
    → (plus ≡ true → next ≡ Other) → (minus ≡ true → next ≡ Other)
    → ((plus && mark 0x30 xs) || ((minus && scale_digits xs) || canonical_tail next xs))
    ≡ canonical_tail (if plus then ScalePlus else if minus then ScaleMinus else next) xs
scale-by true true next xs h k l = absurd (let e = h refl in cc)
scale-by true false next xs h k l =
    ap (λ (place : CanonicalPlace). mark 0x30 xs || canonical_tail place xs) (k refl) ∙ or-false (mark 0x30 xs)
scale-by false true next xs h k l =
    ap (λ (place : CanonicalPlace). scale_digits xs || canonical_tail place xs) (l refl) ∙ or-false (scale_digits xs)
scale-by false false next xs h k l = refl

no-digit : (x : ℕ) → is_nonzero_digit x ≡ false → begin_exponent x ≡ Other
no-digit x h = rw h refl

scale-step : (x : ℕ) (xs : List ℕ) → canonical_exponent (x ∷ xs) ≡ canonical_tail (next_canonical_place Scale x) xs
scale-step x xs =
    ap₂ (λ (a b : Bool). a || b) (octet-then_is 0x2b (mark 0x30) x xs)
    (maybe-then (mark 0x2d) scale_digits (x ∷ xs)
    ∙ ap₂ (λ (a b : Bool). a || b) (octet-then_is 0x2d scale_digits x xs) (scale-digits_step x xs))
    ∙ scale-by (x == 0x2b) (x == 0x2d) (begin_exponent x) xs (plus-no_minus x)
    (λ h. no-digit x (plus-no_digit x h)) (λ h. no-digit x (minus-no_digit x h))

plus-by : (z : Bool) (xs : List ℕ) → (z && no_octets xs) ≡ canonical_tail (if z then ScaleZero else Other) xs
plus-by true xs = refl
plus-by false xs = refl

-- ---- All places

pub canonical-step : (place : CanonicalPlace) (x : ℕ) (xs : List ℕ)
    → canonical_tail place (x ∷ xs) ≡ canonical_tail (next_canonical_place place x) xs
canonical-step Begin x xs = number-step x xs
canonical-step Minus x xs = mantissa-step x xs
canonical-step NonzeroDigit x xs = nonzero-step x xs
canonical-step ZeroDigit x xs = zero-step x xs
canonical-step Point x xs = octet-then_is 0x45 canonical_exponent x xs ∙ point-by (x == 0x45) xs
canonical-step Scale x xs = scale-step x xs
canonical-step ScalePlus x xs = octet-alone 0x30 x xs ∙ plus-by (x == 0x30) xs
canonical-step ScaleMinus x xs = scale-digits_step x xs
canonical-step ScaleZero x xs = refl
canonical-step ScaleDigits x xs = digits-by (is_ascii_digit x) xs
canonical-step Other x xs = refl

pub canonical-end : (place : CanonicalPlace) → canonical_tail place [] ≡ is_whole_canonical place
canonical-end Begin = refl
canonical-end Minus = refl
canonical-end NonzeroDigit = refl
canonical-end ZeroDigit = refl
canonical-end Point = refl
canonical-end Scale = refl
canonical-end ScalePlus = refl
canonical-end ScaleMinus = refl
canonical-end ScaleZero = refl
canonical-end ScaleDigits = refl
canonical-end Other = refl
