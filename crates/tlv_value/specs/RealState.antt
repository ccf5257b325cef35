-- What must be kept of the contents of a REAL so that the findings on them can be reported at their end: the part of
-- the encoding that has come last, and whether the octets so far are canonical.
use Rattle.std.specs.Prelude.{ℕ, ◌-◌, ◌%◌, Bool, true, false, ◌&&◌, ◌||◌, not, ◌==◌, nat_le}
use Rattle.std.specs.Prelude.{if◌then◌else◌, List, [], ◌∷◌}
use Rattle.std.specs.Char.{is_ascii_digit}
use Rattle.tlv_value.specs.ContentsOctets.{is_padded_integer}
use Rattle.tlv_value.specs.Real.{base_bits, has_size_octet, scale_bits}
use Rattle.tlv_value.specs.declared.real.RealCheck.{RealCheck}
use Rattle.tlv_value.specs.declared.real.RealPart.{RealPart}
use Rattle.tlv_value.specs.declared.real.RealPart.TheVariants.{Nothing, Special, ExponentSize, Exponent, SecondExponent}
use Rattle.tlv_value.specs.declared.real.RealPart.TheVariants.{BeforeMantissa, Mantissa, Decimal, Formless}
use Rattle.tlv_value.specs.declared.real.decimal_place.NumberForm.{NumberForm}
use Rattle.tlv_value.specs.declared.real.decimal_place.NumberForm.TheVariants.{Nr1, Nr2, Nr3}
use Rattle.tlv_value.specs.declared.real.decimal_place.DecimalPlace.{DecimalPlace}
use Rattle.tlv_value.specs.declared.real.decimal_place.DecimalPlace.TheVariants.{Spaces, Sign, Digits, Mark, Fraction}
use Rattle.tlv_value.specs.declared.real.decimal_place.DecimalPlace.TheVariants.{ExponentMark, ExponentSign}
use Rattle.tlv_value.specs.declared.real.decimal_place.DecimalPlace.TheVariants.{ExponentDigits, Nowhere}
use Rattle.tlv_value.specs.declared.real.canonical_place.CanonicalPlace.{CanonicalPlace}
use Rattle.tlv_value.specs.declared.real.canonical_place.CanonicalPlace.TheVariants.{Begin, Minus, NonzeroDigit}
use Rattle.tlv_value.specs.declared.real.canonical_place.CanonicalPlace.TheVariants.{ZeroDigit, Point, Scale}
use Rattle.tlv_value.specs.declared.real.canonical_place.CanonicalPlace.TheVariants.{ScalePlus, ScaleMinus, ScaleZero}
use Rattle.tlv_value.specs.declared.real.canonical_place.CanonicalPlace.TheVariants.{ScaleDigits, Other}

-- ---- Octets of a number

abbrev pub is_sign : ℕ → Bool
is_sign x = x == 0x2b || x == 0x2d

abbrev pub is_decimal_mark : ℕ → Bool
is_decimal_mark x = x == 0x2e || x == 0x2c

abbrev pub is_exponent_mark : ℕ → Bool
is_exponent_mark x = x == 0x45 || x == 0x65

abbrev pub is_nonzero_digit : ℕ → Bool
is_nonzero_digit x = nat_le 0x31 x && nat_le x 0x39

-- ---- A number of ISO 6093: the place after one octet more

-- the first octet that is no space and no sign
abbrev pub begin_number : NumberForm → ℕ → DecimalPlace
begin_number Nr1 x = if is_ascii_digit x then Digits else Nowhere
begin_number Nr2 x = if is_ascii_digit x then Digits else if is_decimal_mark x then Mark else Nowhere
begin_number Nr3 x = if is_ascii_digit x then Digits else if is_decimal_mark x then Mark else Nowhere

abbrev pub after_digits : NumberForm → ℕ → DecimalPlace
after_digits Nr1 x = if is_ascii_digit x then Digits else Nowhere
after_digits Nr2 x = if is_ascii_digit x then Digits else if is_decimal_mark x then Fraction else Nowhere
after_digits Nr3 x =
    if is_ascii_digit x then Digits
    else if is_decimal_mark x then Fraction
    else if is_exponent_mark x then ExponentMark
    else Nowhere

abbrev pub after_fraction : NumberForm → ℕ → DecimalPlace
after_fraction Nr1 x = Nowhere
after_fraction Nr2 x = if is_ascii_digit x then Fraction else Nowhere
after_fraction Nr3 x =
    if is_ascii_digit x then Fraction else if is_exponent_mark x then ExponentMark else Nowhere

abbrev pub exponent_digit : ℕ → DecimalPlace
exponent_digit x = if is_ascii_digit x then ExponentDigits else Nowhere

abbrev pub next_place : NumberForm → DecimalPlace → ℕ → DecimalPlace
next_place form Spaces x = if x == 0x20 then Spaces else if is_sign x then Sign else begin_number form x
next_place form Sign x = begin_number form x
next_place form Digits x = after_digits form x
next_place form Mark x = if is_ascii_digit x then Fraction else Nowhere
next_place form Fraction x = after_fraction form x
next_place form ExponentMark x = if is_sign x then ExponentSign else exponent_digit x
next_place form ExponentSign x = exponent_digit x
next_place form ExponentDigits x = exponent_digit x
next_place form Nowhere x = Nowhere

-- a number of the form may end here
abbrev pub is_whole_number : NumberForm → DecimalPlace → Bool
is_whole_number Nr1 Digits = true
is_whole_number Nr2 Fraction = true
is_whole_number Nr3 ExponentDigits = true
is_whole_number form place = false

-- ---- The same of a canonical number

abbrev pub begin_mantissa : ℕ → CanonicalPlace
begin_mantissa x = if is_nonzero_digit x then NonzeroDigit else Other

abbrev pub begin_exponent : ℕ → CanonicalPlace
begin_exponent x = if is_nonzero_digit x then ScaleDigits else Other

abbrev pub next_canonical_place : CanonicalPlace → ℕ → CanonicalPlace
next_canonical_place Begin x = if x == 0x2d then Minus else begin_mantissa x
next_canonical_place Minus x = begin_mantissa x
next_canonical_place NonzeroDigit x =
    if is_nonzero_digit x then NonzeroDigit else if x == 0x30 then ZeroDigit else if x == 0x2e then Point else Other
next_canonical_place ZeroDigit x =
    if is_nonzero_digit x then NonzeroDigit else if x == 0x30 then ZeroDigit else Other
next_canonical_place Point x = if x == 0x45 then Scale else Other
next_canonical_place Scale x = if x == 0x2b then ScalePlus else if x == 0x2d then ScaleMinus else begin_exponent x
next_canonical_place ScalePlus x = if x == 0x30 then ScaleZero else Other
next_canonical_place ScaleMinus x = begin_exponent x
next_canonical_place ScaleZero x = Other
next_canonical_place ScaleDigits x = if is_ascii_digit x then ScaleDigits else Other
next_canonical_place Other x = Other

-- a canonical number may end here
abbrev pub is_whole_canonical : CanonicalPlace → Bool
is_whole_canonical ScaleZero = true
is_whole_canonical ScaleDigits = true
is_whole_canonical place = false

-- ---- The contents: the part after one octet more

abbrev pub begin_binary : ℕ → RealPart
begin_binary x =
    if base_bits x == 3 then Formless
    else if has_size_octet x then ExponentSize
    else Exponent false (x % 4)

abbrev pub begin_decimal : ℕ → RealPart
begin_decimal x =
    if x == 1 then Decimal Nr1 Spaces Other
    else if x == 2 then Decimal Nr2 Spaces Other
    else if x == 3 then Decimal Nr3 Spaces Begin
    else Formless

abbrev pub begin_real : ℕ → RealPart
begin_real x =
    if nat_le 0x80 x then begin_binary x
    else if nat_le 0x40 x then (if nat_le x 0x43 then Special else Formless)
    else begin_decimal x

abbrev pub next_part : RealPart → ℕ → RealPart
next_part Nothing x = begin_real x
next_part Special x = Formless
next_part ExponentSize x = if x == 0 then Formless else Exponent true (x - 1)
next_part (Exponent has_size later) x =
    if later == 0 then BeforeMantissa 0 else SecondExponent has_size x (later - 1)
next_part (SecondExponent has_size first later) x =
    if has_size && is_padded_integer (first ∷ x ∷ []) then Formless else BeforeMantissa later
next_part (BeforeMantissa left) x = if left == 0 then Mantissa x else BeforeMantissa (left - 1)
next_part (Mantissa last) x = Mantissa x
next_part (Decimal form place canonical) x =
    Decimal form (next_place form place x) (next_canonical_place canonical x)
next_part Formless x = Formless

-- 11.3.1: with this octet after this part, the contents may still be canonical. Of a decimal number its place says it
abbrev pub may_be_canonical : RealPart → ℕ → Bool
may_be_canonical Nothing x = not (nat_le 0x80 x) || (base_bits x == 0 && scale_bits x == 0)
may_be_canonical ExponentSize x = not (nat_le x 3)
may_be_canonical (SecondExponent has_size first later) x = not (is_padded_integer (first ∷ x ∷ []))
may_be_canonical (BeforeMantissa left) x = not (left == 0) || not (x == 0)
may_be_canonical part x = true

-- the exponent of the number has begun
abbrev pub in_exponent : DecimalPlace → Bool
in_exponent ExponentMark = true
in_exponent ExponentSign = true
in_exponent ExponentDigits = true
in_exponent place = false

-- 8.5.2: with this octet after this part, the number may still be zero
abbrev pub may_be_zero : RealPart → ℕ → Bool
may_be_zero (BeforeMantissa left) x = not (left == 0) || x == 0
may_be_zero (Mantissa last) x = x == 0
may_be_zero (Decimal form place canonical) x = in_exponent place || not (is_nonzero_digit x)
may_be_zero part x = true

abbrev pub new_real_check : RealCheck
new_real_check = record { part = Nothing; is_canonical_so_far = true; is_zero_so_far = true }

abbrev pub real_check_next : RealCheck → ℕ → RealCheck
real_check_next s x = record {
  part = next_part s.part x;
  is_canonical_so_far = s.is_canonical_so_far && may_be_canonical s.part x;
  is_zero_so_far = s.is_zero_so_far && may_be_zero s.part x;
}

-- the state after more octets
abbrev pub real_check_after : RealCheck → List ℕ → RealCheck
real_check_after s [] = s
real_check_after s (x ∷ xs) = real_check_after (real_check_next s x) xs

-- ---- The end of the contents

-- 8.5: the octets so far are of a form
abbrev pub ends_form : RealPart → Bool
ends_form Nothing = true
ends_form Special = true
ends_form (Mantissa last) = true
ends_form (Decimal form place canonical) = is_whole_number form place
ends_form part = false

abbrev pub is_of_form : RealCheck → Bool
is_of_form s = ends_form s.part

-- 8.5.2: they are a number
abbrev pub is_number_end : RealPart → Bool
is_number_end (Mantissa last) = true
is_number_end (Decimal form place canonical) = is_whole_number form place
is_number_end part = false

-- they are a number, and it is zero
abbrev pub is_zero : RealCheck → Bool
is_zero s = s.is_zero_so_far && is_number_end s.part

abbrev pub ends_canonical : RealPart → Bool
ends_canonical Nothing = true
ends_canonical Special = true
ends_canonical (Mantissa last) = last % 2 == 1
ends_canonical (Decimal form place canonical) = is_whole_canonical canonical
ends_canonical part = false

-- 11.3: they are canonical
abbrev pub is_canonical : RealCheck → Bool
is_canonical s = s.is_canonical_so_far && ends_canonical s.part
