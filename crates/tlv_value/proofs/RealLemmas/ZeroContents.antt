-- The contents of a REAL, octet by octet: what is kept of them says whether they are a number that is zero.
use Rattle.std.proofs.Common.{◌≡◌, ◌⊎◌, inl, inr, ℕ, zero, suc, ◌+◌, ◌%◌, Bool, true, false, ◌&&◌, ◌||◌, not, ◌==◌, nat_le}
use Rattle.std.proofs.Common.{if◌then◌else◌, List, [], ◌∷◌, drop, refl, sym, ap, ◌∙◌, arith}
use Rattle.std.proofs.lemmas.Bool.Decides.{nat_tests}
use Rattle.std.specs.Char.{is_ascii_digit}
use Rattle.std.specs.List.{list_all, list_any}
use Rattle.tlv_value.specs.AllChecks.{type_findings}
use Rattle.tlv_value.specs.ContentsOctets.{first_octet, is_padded_integer}
use Rattle.tlv_value.specs.Real.{base_bits, before_exponent, has_size_octet, is_decimal_zero, is_real_form}
use Rattle.tlv_value.specs.Real.{is_zero_number, mantissa_octets}
use Rattle.tlv_value.specs.RealState.{after_digits, after_fraction, begin_binary, begin_decimal, begin_number}
use Rattle.tlv_value.specs.RealState.{ends_form, is_canonical, is_of_form, is_whole_number}
use Rattle.tlv_value.specs.RealState.{is_number_end, exponent_digit, in_exponent, is_decimal_mark, is_exponent_mark}
use Rattle.tlv_value.specs.RealState.{is_nonzero_digit, is_sign, is_zero, may_be_zero, new_real_check, next_part}
use Rattle.tlv_value.specs.RealState.{next_place, real_check_after, real_check_next}
use Rattle.tlv_value.specs.declared.real.RealCheck.{RealCheck}
use Rattle.tlv_value.specs.declared.real.RealPart.{RealPart}
use Rattle.tlv_value.specs.declared.real.RealPart.TheVariants.{Nothing, Special, ExponentSize, Exponent, SecondExponent}
use Rattle.tlv_value.specs.declared.real.RealPart.TheVariants.{BeforeMantissa, Mantissa, Decimal, Formless}
use Rattle.tlv_value.specs.declared.real.decimal_place.NumberForm.{NumberForm}
use Rattle.tlv_value.specs.declared.real.decimal_place.NumberForm.TheVariants.{Nr1, Nr2, Nr3}
use Rattle.tlv_value.specs.declared.real.decimal_place.DecimalPlace.{DecimalPlace}
use Rattle.tlv_value.specs.declared.real.decimal_place.DecimalPlace.TheVariants.{Spaces, Sign, Digits, Mark, Fraction}
use Rattle.tlv_value.specs.declared.real.decimal_place.DecimalPlace.TheVariants.{ExponentMark, ExponentSign}
use Rattle.tlv_value.specs.declared.real.decimal_place.DecimalPlace.TheVariants.{ExponentDigits, Nowhere}
use Rattle.tlv_value.specs.declared.real.canonical_place.CanonicalPlace.TheVariants.{Begin, Other}
use Rattle.tlv_value.proofs.CheckLemmas.Forms.{and-false}
use Rattle.tlv_value.proofs.RealLemmas.NumberForms.{place_tail}
use Rattle.tlv_value.proofs.RealLemmas.RealContents.{above-zero, form-end, form-step, less-and_more}
use Rattle.tlv_value.proofs.RealLemmas.RealContents.{one-less, one-more, part_form, real-of_form}
use Rattle.tlv_value.proofs.RealLemmas.CanonicalContents.{real-canonical, real-clear}

abbrev are_zeros : List ℕ → Bool
are_zeros octets = list_all (λ octet. octet == 0) octets

-- ---- What the octets after each part must be, if they are of a form

abbrev zero_of : RealPart → List ℕ → Bool
zero_of Nothing c = is_zero_number c
zero_of Special c = false
zero_of ExponentSize c = are_zeros (drop (first_octet c) (drop 1 c))
zero_of (Exponent has_size later) c = are_zeros (drop (later + 1) c)
zero_of (SecondExponent has_size first later) c = are_zeros (drop (later + 1) c)
zero_of (BeforeMantissa left) c = are_zeros (drop left c)
zero_of (Mantissa last) c = are_zeros c
zero_of (Decimal form place canonical) c = in_exponent place || is_decimal_zero c
zero_of Formless c = false

abbrev ZeroStep : RealPart → ℕ → List ℕ → Type 0
ZeroStep part x xs =
    part_form (next_part part x) xs ≡ true
    → zero_of part (x ∷ xs) ≡ (may_be_zero part x && zero_of (next_part part x) xs)

-- ---- The first octet

zero-binary_by : (b h : Bool) (e : ℕ) (rest : List ℕ)
    → part_form (if b then Formless else if h then ExponentSize else Exponent false e) rest ≡ true
    → are_zeros (drop (if h then first_octet rest else e + 1) (if h then drop 1 rest else rest))
    ≡ zero_of (if b then Formless else if h then ExponentSize else Exponent false e) rest
zero-binary_by true h e rest k = absurd (cc k)
zero-binary_by false true e rest k = refl
zero-binary_by false false e rest k = refl

zero-special_by : (high : Bool) (rest : List ℕ)
    → part_form (if high then Special else Formless) rest ≡ true
    → false ≡ zero_of (if high then Special else Formless) rest
zero-special_by true rest k = refl
zero-special_by false rest k = refl

zero-decimal_by : (a b d : Bool) (rest : List ℕ)
    → part_form
    (if a then Decimal Nr1 Spaces Other
    else if b then Decimal Nr2 Spaces Other
    else if d then Decimal Nr3 Spaces Begin
    else Formless)
    rest
    ≡ true
    → is_decimal_zero rest
    ≡ zero_of
    (if a then Decimal Nr1 Spaces Other
    else if b then Decimal Nr2 Spaces Other
    else if d then Decimal Nr3 Spaces Begin
    else Formless)
    rest
zero-decimal_by true b d rest k = refl
zero-decimal_by false true d rest k = refl
zero-decimal_by false false true rest k = refl
zero-decimal_by false false false rest k = absurd (cc k)

zero-begins_by : (a b : Bool) (x : ℕ) (rest : List ℕ)
    → part_form
    (if a then begin_binary x
    else if b then (if nat_le x 0x43 then Special else Formless)
    else begin_decimal x)
    rest
    ≡ true
    → (if a then are_zeros (mantissa_octets x rest) else not b && is_decimal_zero rest)
    ≡ zero_of
    (if a then begin_binary x
    else if b then (if nat_le x 0x43 then Special else Formless)
    else begin_decimal x)
    rest
zero-begins_by true b x rest k = zero-binary_by (base_bits x == 3) (has_size_octet x) (x % 4) rest k
zero-begins_by false true x rest k = zero-special_by (nat_le x 0x43) rest k
zero-begins_by false false x rest k = zero-decimal_by (x == 1) (x == 2) (x == 3) rest k

-- ---- A decimal number

-- a place that no number has, or one in the exponent if and only if this is so
abbrev IsIn : Bool → DecimalPlace → Type 0
IsIn begun place = (place ≡ Nowhere) ⊎ (in_exponent place ≡ begun)

if-in : (begun b : Bool) (p q : DecimalPlace) → (b ≡ true → IsIn begun p) → (b ≡ false → IsIn begun q)
    → IsIn begun (if b then p else q)
if-in begun true p q e f = e refl
if-in begun false p q e f = f refl

space-in_none : (x : ℕ) → (x == 0x20) ≡ true → false ≡ is_exponent_mark x
space-in_none x e = grind (arith, nat_tests)

sign-in_none : (x : ℕ) → is_sign x ≡ true → false ≡ is_exponent_mark x
sign-in_none x e = grind (arith, nat_tests)

digit-in_none : (x : ℕ) → is_ascii_digit x ≡ true → false ≡ is_exponent_mark x
digit-in_none x e = grind (arith, nat_tests)

mark-in_none : (x : ℕ) → is_decimal_mark x ≡ true → false ≡ is_exponent_mark x
mark-in_none x e = grind (arith, nat_tests)

nonzero-in_none : (x : ℕ) → is_exponent_mark x ≡ true → is_nonzero_digit x ≡ false
nonzero-in_none x e = grind (arith, nat_tests)

module _ (x : ℕ) where
  abbrev Next : DecimalPlace → Type 0
  Next place = IsIn (is_exponent_mark x) place

  digit-next : (q : DecimalPlace) → Next q → Next (if is_ascii_digit x then Digits else q)
  digit-next q h = if-in (is_exponent_mark x) (is_ascii_digit x) Digits q (λ e. inr (digit-in_none x e)) (λ e. h)

  fraction-next : (q : DecimalPlace) → Next q → Next (if is_ascii_digit x then Fraction else q)
  fraction-next q h = if-in (is_exponent_mark x) (is_ascii_digit x) Fraction q (λ e. inr (digit-in_none x e)) (λ e. h)

  mark-next : (p q : DecimalPlace) → in_exponent p ≡ false → Next q → Next (if is_decimal_mark x then p else q)
  mark-next p q none h =
      if-in (is_exponent_mark x) (is_decimal_mark x) p q (λ e. inr (none ∙ mark-in_none x e)) (λ e. h)

  e-next : Next (if is_exponent_mark x then ExponentMark else Nowhere)
  e-next =
      if-in (is_exponent_mark x) (is_exponent_mark x) ExponentMark Nowhere (λ e. inr (sym e)) (λ e. inl refl)

  begin-next : (form : NumberForm) → Next (begin_number form x)
  begin-next Nr1 = digit-next Nowhere (inl refl)
  begin-next Nr2 = digit-next _ (mark-next Mark Nowhere refl (inl refl))
  begin-next Nr3 = digit-next _ (mark-next Mark Nowhere refl (inl refl))

  digits-next : (form : NumberForm) → Next (after_digits form x)
  digits-next Nr1 = digit-next Nowhere (inl refl)
  digits-next Nr2 = digit-next _ (mark-next Fraction Nowhere refl (inl refl))
  digits-next Nr3 = digit-next _ (mark-next Fraction _ refl e-next)

  after-fraction : (form : NumberForm) → Next (after_fraction form x)
  after-fraction Nr1 = inl refl
  after-fraction Nr2 = fraction-next Nowhere (inl refl)
  after-fraction Nr3 = fraction-next _ e-next

  spaces-next : (form : NumberForm) → Next (next_place form Spaces x)
  spaces-next form =
      if-in (is_exponent_mark x) (x == 0x20) Spaces _ (λ e. inr (space-in_none x e))
      (λ e. if-in (is_exponent_mark x) (is_sign x) Sign _ (λ s. inr (sign-in_none x s)) (λ s. begin-next form))

  -- in the exponent
  in-digits : IsIn true (exponent_digit x)
  in-digits = if-in true (is_ascii_digit x) ExponentDigits Nowhere (λ e. inr refl) (λ e. inl refl)

  place-next : (form : NumberForm) (place : DecimalPlace)
      → IsIn (in_exponent place || is_exponent_mark x) (next_place form place x)
  place-next form Spaces = spaces-next form
  place-next form Sign = begin-next form
  place-next form Digits = digits-next form
  place-next form Mark = fraction-next Nowhere (inl refl)
  place-next form Fraction = after-fraction form
  place-next form ExponentMark = if-in true (is_sign x) ExponentSign _ (λ e. inr refl) (λ e. in-digits)
  place-next form ExponentSign = in-digits
  place-next form ExponentDigits = in-digits
  place-next form Nowhere = inl refl

not-or : (a b : Bool) → not (a || b) ≡ (not a && not b)
not-or true b = refl
not-or false b = refl

-- with the place after x in the exponent or not
decimal-by : (begun e : Bool) (x : ℕ) (xs : List ℕ) → is_exponent_mark x ≡ e
    → (begun || is_decimal_zero (x ∷ xs))
    ≡ ((begun || not (is_nonzero_digit x)) && ((begun || e) || is_decimal_zero xs))
decimal-by true e x xs k = refl
decimal-by false true x xs k = rw (k, nonzero-in_none x k) refl
decimal-by false false x xs k = rw k (not-or (is_nonzero_digit x) (list_any is_nonzero_digit (before_exponent xs)))

decimal-step : (form : NumberForm) (place : DecimalPlace) (x : ℕ) (xs : List ℕ) (next : DecimalPlace)
    → IsIn (in_exponent place || is_exponent_mark x) next → place_tail form next xs ≡ true
    → (in_exponent place || is_decimal_zero (x ∷ xs))
    ≡ ((in_exponent place || not (is_nonzero_digit x)) && (in_exponent next || is_decimal_zero xs))
decimal-step form place x xs next (inl e) k =
    absurd (cc (sym (ap (λ (p : DecimalPlace). place_tail form p xs) e) ∙ k))
decimal-step form place x xs next (inr e) k =
    decimal-by (in_exponent place) (is_exponent_mark x) x xs refl
    ∙ ap (λ (b : Bool). (in_exponent place || not (is_nonzero_digit x)) && (b || is_decimal_zero xs)) (sym e)

-- ---- One octet more

zero-size : (x : ℕ) (xs : List ℕ) → ZeroStep ExponentSize x xs
zero-size zero xs k = absurd (cc k)
zero-size (suc n) xs k = rw (above-zero n, less-and_more n) refl

zero-exponent : (has_size : Bool) (later x : ℕ) (xs : List ℕ) → ZeroStep (Exponent has_size later) x xs
zero-exponent has_size zero x xs k = refl
zero-exponent has_size (suc n) x xs k = rw (one-more (suc n), above-zero n, one-less n, one-more n) refl

zero-second_by : (bad : Bool) (later : ℕ) (xs : List ℕ)
    → part_form (if bad then Formless else BeforeMantissa later) xs ≡ true
    → are_zeros (drop later xs) ≡ zero_of (if bad then Formless else BeforeMantissa later) xs
zero-second_by true later xs k = absurd (cc k)
zero-second_by false later xs k = refl

zero-second : (has_size : Bool) (first later x : ℕ) (xs : List ℕ)
    → ZeroStep (SecondExponent has_size first later) x xs
zero-second has_size first later x xs k =
    rw (one-more later) (zero-second_by (has_size && is_padded_integer (first ∷ x ∷ [])) later xs k)

zero-left : (left x : ℕ) (xs : List ℕ) → ZeroStep (BeforeMantissa left) x xs
zero-left zero x xs k = refl
zero-left (suc n) x xs k = rw (above-zero n, one-less n) refl

zero-step : (part : RealPart) (x : ℕ) (xs : List ℕ) → ZeroStep part x xs
zero-step Nothing x xs k = zero-begins_by (nat_le 0x80 x) (nat_le 0x40 x) x xs k
zero-step Special x xs k = absurd (cc k)
zero-step ExponentSize x xs k = zero-size x xs k
zero-step (Exponent has_size later) x xs k = zero-exponent has_size later x xs k
zero-step (SecondExponent has_size first later) x xs k = zero-second has_size first later x xs k
zero-step (BeforeMantissa left) x xs k = zero-left left x xs k
zero-step (Mantissa last) x xs k = refl
zero-step (Decimal form place canonical) x xs k =
    decimal-step form place x xs (next_place form place x) (place-next x form place) k
zero-step Formless x xs k = absurd (cc k)

-- ---- All octets

zero-combine : (form here may next : Bool) → (form ≡ true → here ≡ (may && next))
    → (form && here) ≡ (may && (form && next))
zero-combine true here may next e = e refl
zero-combine false here may next e = sym (and-false may)

number-end : (form begun : Bool) → (form && (begun || true)) ≡ form
number-end true true = refl
number-end true false = refl
number-end false begun = refl

part-end : (part : RealPart) → (ends_form part && zero_of part []) ≡ is_number_end part
part-end Nothing = refl
part-end Special = refl
part-end ExponentSize = refl
part-end (Exponent has_size later) = refl
part-end (SecondExponent has_size first later) = refl
part-end (BeforeMantissa left) = refl
part-end (Mantissa last) = refl
part-end (Decimal form place canonical) = number-end (is_whole_number form place) (in_exponent place)
part-end Formless = refl

zero-end : (part : RealPart) → (part_form part [] && zero_of part []) ≡ is_number_end part
zero-end part = ap (λ (f : Bool). f && zero_of part []) (form-end part) ∙ part-end part

and-assoc : (a b c : Bool) → ((a && b) && c) ≡ (a && (b && c))
and-assoc true b c = refl
and-assoc false b c = refl

zero-after : (s : RealCheck) (c : List ℕ)
    → is_zero (real_check_after s c) ≡ (s.is_zero_so_far && (part_form s.part c && zero_of s.part c))
zero-after s [] = ap (λ (b : Bool). s.is_zero_so_far && b) (sym (zero-end s.part))
zero-after s (x ∷ xs) =
    zero-after (real_check_next s x) xs
    ∙ and-assoc s.is_zero_so_far (may_be_zero s.part x)
    (part_form (next_part s.part x) xs && zero_of (next_part s.part x) xs)
    ∙ ap (λ (b : Bool). s.is_zero_so_far && b)
    (sym (ap (λ (f : Bool). f && zero_of s.part (x ∷ xs)) (form-step s.part x xs)
    ∙ zero-combine (part_form (next_part s.part x) xs) (zero_of s.part (x ∷ xs)) (may_be_zero s.part x)
    (zero_of (next_part s.part x) xs) (zero-step s.part x xs)))

pub real-zero : (c : List ℕ) → is_zero (real_check_after new_real_check c) ≡ (is_real_form c && is_zero_number c)
real-zero c = zero-after new_real_check c

-- nothing is found on contents of a form that are canonical, if they are no number that is zero
and-three : (a b c : Bool) → (a && b && not c) ≡ true → (a ≡ true) × (b ≡ true) × (c ≡ false)
and-three true true true e = absurd (cc e)
and-three true true false e = (refl, refl, refl)
and-three true false c e = absurd (cc e)
and-three false b c e = absurd (cc e)

pub real-cleared : (c : List ℕ) (s : RealCheck) → s ≡ real_check_after new_real_check c
    → (is_of_form s && is_canonical s && not (is_zero s)) ≡ true → type_findings 9 c ≡ []
real-cleared c s e h =
    let parts = and-three (is_of_form s) (is_canonical s) (is_zero s) h in
    real-clear c (sym (ap is_of_form e ∙ real-of_form c) ∙ parts.0)
    (sym (ap is_canonical e ∙ real-canonical c) ∙ parts.1)
    (sym (ap is_zero e ∙ real-zero c) ∙ parts.2)
