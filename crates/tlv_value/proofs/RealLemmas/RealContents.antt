-- The contents of a REAL, octet by octet: what is kept of them says whether they are of a form.
use Rattle.std.proofs.Common.{◌≡◌, ℕ, zero, suc, ◌+◌, ◌-◌, ◌%◌, Bool, true, false, ◌&&◌, not, ◌==◌, nat_le}
use Rattle.std.proofs.Common.{if◌then◌else◌, List, [], ◌∷◌, length, take, drop, refl, sym, ap, ◌∙◌, arith}
use Rattle.std.proofs.lemmas.Bool.Decides.{nat_tests}
use Rattle.tlv_value.specs.TextForms.{maybe, sign}
use Rattle.tlv_value.specs.ContentsOctets.{first_octet, is_padded_integer}
use Rattle.tlv_value.specs.Real.{base_bits, has_size_octet, is_binary_form}
use Rattle.tlv_value.specs.Real.{is_decimal_form, is_real_form, is_special_form, leading_spaces}
use Rattle.tlv_value.specs.RealState.{begin_binary, begin_decimal, ends_form}
use Rattle.tlv_value.specs.RealState.{is_of_form, new_real_check, next_part, real_check_after}
use Rattle.tlv_value.specs.RealState.{real_check_next}
use Rattle.tlv_value.specs.declared.real.RealCheck.{RealCheck}
use Rattle.tlv_value.specs.declared.real.RealPart.{RealPart}
use Rattle.tlv_value.specs.declared.real.RealPart.TheVariants.{Nothing, Special, ExponentSize, Exponent, SecondExponent}
use Rattle.tlv_value.specs.declared.real.RealPart.TheVariants.{BeforeMantissa, Mantissa, Decimal, Formless}
use Rattle.tlv_value.specs.declared.real.decimal_place.NumberForm.TheVariants.{Nr1, Nr2, Nr3}
use Rattle.tlv_value.specs.declared.real.decimal_place.DecimalPlace.TheVariants.{Spaces}
use Rattle.tlv_value.specs.declared.real.canonical_place.CanonicalPlace.TheVariants.{Begin, Other}
use Rattle.tlv_value.proofs.CheckLemmas.Forms.{and-false, then-assoc}
use Rattle.tlv_value.proofs.RealLemmas.NumberForms.{number_tail, place-end, place-step, place_tail}

-- ---- What the octets after each part must be

abbrev some : List ℕ → Bool
some octets = not (length octets == 0)

abbrev pub part_form : RealPart → List ℕ → Bool
part_form Nothing c = is_real_form c
part_form Special c = length c == 0
part_form ExponentSize c =
    not (first_octet c == 0) && not (is_padded_integer (take (first_octet c) (drop 1 c)))
    && some (drop (first_octet c) (drop 1 c))
part_form (Exponent has_size later) c =
    not (has_size && is_padded_integer (take (later + 1) c)) && some (drop (later + 1) c)
part_form (SecondExponent has_size first later) c =
    not (has_size && is_padded_integer (first ∷ take (later + 1) c)) && some (drop (later + 1) c)
part_form (BeforeMantissa left) c = some (drop left c)
part_form (Mantissa last) c = true
part_form (Decimal form place canonical) c = place_tail form place c
part_form Formless c = false

-- ---- Numbers and lists

pub not-empty : (x : ℕ) (xs : List ℕ) → (length (x ∷ xs) == 0) ≡ false
not-empty x xs = grind (arith, nat_tests)

pub none-dropped : (n : ℕ) → drop {A = ℕ} n [] ≡ []
none-dropped zero = refl
none-dropped (suc n) = refl

pub not-zero : (n : ℕ) → (n + 1 == 0) ≡ false
not-zero n = grind (arith, nat_tests)

pub one-less : (n : ℕ) → suc n - 1 ≡ n
one-less n = omega arith

pub less-and_more : (n : ℕ) → suc n - 1 + 1 ≡ suc n
less-and_more n = omega arith

pub above-zero : (n : ℕ) → (suc n == 0) ≡ false
above-zero n = grind (arith, nat_tests)

pub one-more : (n : ℕ) → n + 1 ≡ suc n
one-more n = omega arith

-- ---- The first octet

binary-by : (b h : Bool) (e : ℕ) (rest : List ℕ)
    → (not b
    && not ((if h then first_octet rest else e + 1) == 0)
    && not (h
    && is_padded_integer (take (if h then first_octet rest else e + 1) (if h then drop 1 rest else rest)))
    && some (drop (if h then first_octet rest else e + 1) (if h then drop 1 rest else rest)))
    ≡ part_form (if b then Formless else if h then ExponentSize else Exponent false e) rest
binary-by true h e rest = refl
binary-by false true e rest = refl
binary-by false false e rest = rw (not-zero e) refl

special-by : (low high : Bool) (rest : List ℕ) → low ≡ true
    → (low && high && length rest == 0) ≡ part_form (if high then Special else Formless) rest
special-by true true rest h = refl
special-by true false rest h = refl
special-by false high rest h = absurd cc

decimal-by : (a b d : Bool) (rest : List ℕ)
    → (if a then place_tail Nr1 Spaces rest
    else if b then place_tail Nr2 Spaces rest
    else d && place_tail Nr3 Spaces rest)
    ≡ part_form
    (if a then Decimal Nr1 Spaces Other
    else if b then Decimal Nr2 Spaces Other
    else if d then Decimal Nr3 Spaces Begin
    else Formless)
    rest
decimal-by true b d rest = refl
decimal-by false true d rest = refl
decimal-by false false true rest = refl
decimal-by false false false rest = refl

decimal-begins : (x : ℕ) (rest : List ℕ) → is_decimal_form x rest ≡ part_form (begin_decimal x) rest
decimal-begins x rest =
    rw (
      then-assoc leading_spaces (maybe sign) (number_tail Nr1) rest,
      then-assoc leading_spaces (maybe sign) (number_tail Nr2) rest,
      then-assoc leading_spaces (maybe sign) (number_tail Nr3) rest,
    )
    (decimal-by (x == 1) (x == 2) (x == 3) rest)

begins-by : (a b : Bool) (x : ℕ) (rest : List ℕ) → nat_le 0x80 x ≡ a → nat_le 0x40 x ≡ b
    → (if a then is_binary_form x rest else if b then is_special_form x rest else is_decimal_form x rest)
    ≡ part_form
    (if a then begin_binary x
    else if b then (if nat_le x 0x43 then Special else Formless)
    else begin_decimal x)
    rest
begins-by true b x rest e f = binary-by (base_bits x == 3) (has_size_octet x) (x % 4) rest
begins-by false true x rest e f = special-by (nat_le 0x40 x) (nat_le x 0x43) rest f
begins-by false false x rest e f = decimal-begins x rest

-- ---- One octet more

size-step : (x : ℕ) (xs : List ℕ) → part_form ExponentSize (x ∷ xs) ≡ part_form (next_part ExponentSize x) xs
size-step zero xs = refl
size-step (suc n) xs = rw (above-zero n, less-and_more n) refl

exponent-step : (has_size : Bool) (later x : ℕ) (xs : List ℕ)
    → part_form (Exponent has_size later) (x ∷ xs) ≡ part_form (next_part (Exponent has_size later) x) xs
exponent-step true zero x xs = refl
exponent-step false zero x xs = refl
exponent-step has_size (suc n) x xs = rw (one-more (suc n), above-zero n, one-less n, one-more n) refl

second-by : (bad : Bool) (later : ℕ) (xs : List ℕ)
    → (not bad && some (drop later xs)) ≡ part_form (if bad then Formless else BeforeMantissa later) xs
second-by true later xs = refl
second-by false later xs = refl

second-step : (has_size : Bool) (first later x : ℕ) (xs : List ℕ)
    → part_form (SecondExponent has_size first later) (x ∷ xs)
    ≡ part_form (next_part (SecondExponent has_size first later) x) xs
second-step has_size first later x xs =
    rw (one-more later) (second-by (has_size && is_padded_integer (first ∷ x ∷ [])) later xs)

left-step : (left x : ℕ) (xs : List ℕ)
    → part_form (BeforeMantissa left) (x ∷ xs) ≡ part_form (next_part (BeforeMantissa left) x) xs
left-step zero x xs = ap not (not-empty x xs)
left-step (suc n) x xs = rw (above-zero n, one-less n) refl

pub form-step : (part : RealPart) (x : ℕ) (xs : List ℕ) → part_form part (x ∷ xs) ≡ part_form (next_part part x) xs
form-step Nothing x xs = begins-by (nat_le 0x80 x) (nat_le 0x40 x) x xs refl refl
form-step Special x xs = not-empty x xs
form-step ExponentSize x xs = size-step x xs
form-step (Exponent has_size later) x xs = exponent-step has_size later x xs
form-step (SecondExponent has_size first later) x xs = second-step has_size first later x xs
form-step (BeforeMantissa left) x xs = left-step left x xs
form-step (Mantissa last) x xs = refl
form-step (Decimal form place canonical) x xs = place-step form place x xs
form-step Formless x xs = refl

pub form-end : (part : RealPart) → part_form part [] ≡ ends_form part
form-end Nothing = refl
form-end Special = refl
form-end ExponentSize = refl
form-end (Exponent has_size later) =
    rw (none-dropped (later + 1)) (and-false (not (has_size && is_padded_integer (take (later + 1) []))))
form-end (SecondExponent has_size first later) =
    rw (none-dropped (later + 1)) (and-false (not (has_size && is_padded_integer (first ∷ take (later + 1) []))))
form-end (BeforeMantissa left) = rw (none-dropped left) refl
form-end (Mantissa last) = refl
form-end (Decimal form place canonical) = place-end form place
form-end Formless = refl

form-after : (s : RealCheck) (c : List ℕ) → is_of_form (real_check_after s c) ≡ part_form s.part c
form-after s [] = sym (form-end s.part)
form-after s (x ∷ xs) = form-after (real_check_next s x) xs ∙ sym (form-step s.part x xs)

pub real-of_form : (c : List ℕ) → is_of_form (real_check_after new_real_check c) ≡ is_real_form c
real-of_form c = form-after new_real_check c
