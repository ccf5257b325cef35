-- The contents of a REAL, octet by octet: what is kept of them says whether they are canonical.
use Rattle.std.proofs.Common.{◌≡◌, ℕ, zero, suc, ◌+◌, ◌%◌, Bool, true, false, ◌&&◌, ◌||◌, not, ◌==◌, nat_le}
use Rattle.std.proofs.Common.{if◌then◌else◌, List, [], ◌∷◌, length, take, drop, refl, sym, ap, ◌∙◌, arith}
use Rattle.std.proofs.lemmas.Bool.Decides.{nat_tests}
use Rattle.tlv_value.specs.AllChecks.{type_findings}
use Rattle.tlv_value.specs.ContentsOctets.{first_octet, is_padded_integer}
use Rattle.tlv_value.specs.Real.{base_bits, canonical_nr3_form, has_size_octet, is_canonical_binary}
use Rattle.tlv_value.specs.Real.{is_canonical_mantissa}
use Rattle.tlv_value.specs.Real.{is_canonical_real, is_real_form, is_special_form, is_zero_number, scale_bits}
use Rattle.tlv_value.specs.RealState.{begin_binary, begin_decimal, ends_canonical, is_canonical}
use Rattle.tlv_value.specs.RealState.{may_be_canonical, new_real_check, next_part, real_check_after}
use Rattle.tlv_value.specs.RealState.{real_check_next}
use Rattle.tlv_value.specs.ValueCheckState.{last_octet_after}
use Rattle.tlv_value.specs.declared.real.RealCheck.{RealCheck}
use Rattle.tlv_value.specs.declared.real.RealPart.{RealPart}
use Rattle.tlv_value.specs.declared.real.RealPart.TheVariants.{Nothing, Special, ExponentSize, Exponent, SecondExponent}
use Rattle.tlv_value.specs.declared.real.RealPart.TheVariants.{BeforeMantissa, Mantissa, Decimal, Formless}
use Rattle.tlv_value.specs.declared.real.decimal_place.NumberForm.TheVariants.{Nr1, Nr2, Nr3}
use Rattle.tlv_value.specs.declared.real.decimal_place.DecimalPlace.TheVariants.{Spaces}
use Rattle.tlv_value.specs.declared.real.canonical_place.CanonicalPlace.TheVariants.{Begin, Other}
use Rattle.tlv_value.proofs.CheckLemmas.Forms.{and-false}
use Rattle.tlv_value.proofs.CheckLemmas.LastAndPadded.{last_of_all}
use Rattle.tlv_value.proofs.RealLemmas.CanonicalForms.{canonical-end, canonical-step, canonical_tail}
use Rattle.tlv_value.proofs.RealLemmas.RealContents.{above-zero, less-and_more, none-dropped, not-empty, one-less}
use Rattle.tlv_value.proofs.RealLemmas.RealContents.{one-more}

-- ---- What the octets after each part must be

abbrev pub part_canonical : RealPart → List ℕ → Bool
part_canonical Nothing c = is_canonical_real c
part_canonical Special c = length c == 0
part_canonical ExponentSize c =
    not (nat_le (first_octet c) 3) && not (is_padded_integer (take (first_octet c) (drop 1 c)))
    && is_canonical_mantissa (drop (first_octet c) (drop 1 c))
part_canonical (Exponent has_size later) c =
    not (is_padded_integer (take (later + 1) c)) && is_canonical_mantissa (drop (later + 1) c)
part_canonical (SecondExponent has_size first later) c =
    not (is_padded_integer (first ∷ take (later + 1) c)) && is_canonical_mantissa (drop (later + 1) c)
part_canonical (BeforeMantissa left) c = is_canonical_mantissa (drop left c)
part_canonical (Mantissa last) c = last_octet_after last c % 2 == 1
part_canonical (Decimal form place canonical) c = canonical_tail canonical c
part_canonical Formless c = false

and-assoc : (a b c : Bool) → ((a && b) && c) ≡ (a && (b && c))
and-assoc true b c = refl
and-assoc false b c = refl

-- ---- The first octet

canonical-binary_by : (a s b h : Bool) (e : ℕ) (rest : List ℕ) → (a && b) ≡ false
    → (a && s
    && not (h && nat_le (if h then first_octet rest else e + 1) 3)
    && not (is_padded_integer (take (if h then first_octet rest else e + 1) (if h then drop 1 rest else rest)))
    && is_canonical_mantissa (drop (if h then first_octet rest else e + 1) (if h then drop 1 rest else rest)))
    ≡ ((a && s) && part_canonical (if b then Formless else if h then ExponentSize else Exponent false e) rest)
canonical-binary_by false s b h e rest k = refl
canonical-binary_by true false b h e rest k = refl
canonical-binary_by true true true h e rest k = absurd cc
canonical-binary_by true true false true e rest k = refl
canonical-binary_by true true false false e rest k = refl

base-is_one : (n : ℕ) → (n == 0 && n == 3) ≡ false
base-is_one n = grind (arith, nat_tests)

canonical-special_by : (low high : Bool) (rest : List ℕ) → low ≡ true
    → (low && high && length rest == 0) ≡ part_canonical (if high then Special else Formless) rest
canonical-special_by true true rest h = refl
canonical-special_by true false rest h = refl
canonical-special_by false high rest h = absurd cc

canonical-decimal_by : (a b d : Bool) (rest : List ℕ) → (a && d) ≡ false → (b && d) ≡ false
    → (d && canonical_nr3_form rest)
    ≡ part_canonical
    (if a then Decimal Nr1 Spaces Other
    else if b then Decimal Nr2 Spaces Other
    else if d then Decimal Nr3 Spaces Begin
    else Formless)
    rest
canonical-decimal_by true b true rest h k = absurd cc
canonical-decimal_by true b false rest h k = refl
canonical-decimal_by false true true rest h k = absurd cc
canonical-decimal_by false true false rest h k = refl
canonical-decimal_by false false true rest h k = refl
canonical-decimal_by false false false rest h k = refl

not-one_and_three : (x : ℕ) → (x == 1 && x == 3) ≡ false
not-one_and_three x = grind (arith, nat_tests)

not-two_and_three : (x : ℕ) → (x == 2 && x == 3) ≡ false
not-two_and_three x = grind (arith, nat_tests)

canonical-begins_by : (a b : Bool) (x : ℕ) (rest : List ℕ) → nat_le 0x80 x ≡ a → nat_le 0x40 x ≡ b
    → (if a then is_canonical_binary x rest
    else if b then is_special_form x rest
    else x == 3 && canonical_nr3_form rest)
    ≡ ((not a || (base_bits x == 0 && scale_bits x == 0))
    && part_canonical
    (if a then begin_binary x
    else if b then (if nat_le x 0x43 then Special else Formless)
    else begin_decimal x)
    rest)
canonical-begins_by true b x rest e f =
    canonical-binary_by (base_bits x == 0) (scale_bits x == 0) (base_bits x == 3) (has_size_octet x) (x % 4) rest
    (base-is_one (base_bits x))
canonical-begins_by false true x rest e f = canonical-special_by (nat_le 0x40 x) (nat_le x 0x43) rest f
canonical-begins_by false false x rest e f =
    canonical-decimal_by (x == 1) (x == 2) (x == 3) rest (not-one_and_three x) (not-two_and_three x)

-- ---- One octet more

abbrev CanonicalStep : RealPart → ℕ → List ℕ → Type 0
CanonicalStep part x xs =
    part_canonical part (x ∷ xs) ≡ (may_be_canonical part x && part_canonical (next_part part x) xs)

canonical-size : (x : ℕ) (xs : List ℕ) → CanonicalStep ExponentSize x xs
canonical-size zero xs = refl
canonical-size (suc n) xs =
    rw (above-zero n, less-and_more n)
    (and-assoc (not (nat_le (suc n) 3)) (not (is_padded_integer (take (suc n) xs)))
    (is_canonical_mantissa (drop (suc n) xs)))

canonical-exponent : (has_size : Bool) (later x : ℕ) (xs : List ℕ) → CanonicalStep (Exponent has_size later) x xs
canonical-exponent has_size zero x xs = refl
canonical-exponent has_size (suc n) x xs = rw (one-more (suc n), above-zero n, one-less n, one-more n) refl

canonical-second_by : (has_size padded : Bool) (later : ℕ) (xs : List ℕ)
    → (not padded && is_canonical_mantissa (drop later xs))
    ≡ (not padded && part_canonical (if has_size && padded then Formless else BeforeMantissa later) xs)
canonical-second_by has_size true later xs = refl
canonical-second_by true false later xs = refl
canonical-second_by false false later xs = refl

canonical-second : (has_size : Bool) (first later x : ℕ) (xs : List ℕ)
    → CanonicalStep (SecondExponent has_size first later) x xs
canonical-second has_size first later x xs =
    rw (one-more later) (canonical-second_by has_size (is_padded_integer (first ∷ x ∷ [])) later xs)

canonical-left : (left x : ℕ) (xs : List ℕ) → CanonicalStep (BeforeMantissa left) x xs
canonical-left zero x xs = ap (λ (last : ℕ). not (x == 0) && last % 2 == 1) (sym (last_of_all (x ∷ xs)))
canonical-left (suc n) x xs = rw (above-zero n, one-less n) refl

canonical-part_step : (part : RealPart) (x : ℕ) (xs : List ℕ) → CanonicalStep part x xs
canonical-part_step Nothing x xs = canonical-begins_by (nat_le 0x80 x) (nat_le 0x40 x) x xs refl refl
canonical-part_step Special x xs = not-empty x xs
canonical-part_step ExponentSize x xs = canonical-size x xs
canonical-part_step (Exponent has_size later) x xs = canonical-exponent has_size later x xs
canonical-part_step (SecondExponent has_size first later) x xs = canonical-second has_size first later x xs
canonical-part_step (BeforeMantissa left) x xs = canonical-left left x xs
canonical-part_step (Mantissa last) x xs = refl
canonical-part_step (Decimal form place canonical) x xs = canonical-step canonical x xs
canonical-part_step Formless x xs = refl

canonical-part_end : (part : RealPart) → part_canonical part [] ≡ ends_canonical part
canonical-part_end Nothing = refl
canonical-part_end Special = refl
canonical-part_end ExponentSize = refl
canonical-part_end (Exponent has_size later) =
    rw (none-dropped (later + 1)) (and-false (not (is_padded_integer (take (later + 1) []))))
canonical-part_end (SecondExponent has_size first later) =
    rw (none-dropped (later + 1)) (and-false (not (is_padded_integer (first ∷ take (later + 1) []))))
canonical-part_end (BeforeMantissa left) = rw (none-dropped left) refl
canonical-part_end (Mantissa last) = refl
canonical-part_end (Decimal form place canonical) = canonical-end canonical
canonical-part_end Formless = refl

canonical-after : (s : RealCheck) (c : List ℕ)
    → is_canonical (real_check_after s c) ≡ (s.is_canonical_so_far && part_canonical s.part c)
canonical-after s [] = ap (λ (b : Bool). s.is_canonical_so_far && b) (sym (canonical-part_end s.part))
canonical-after s (x ∷ xs) =
    canonical-after (real_check_next s x) xs
    ∙ and-assoc s.is_canonical_so_far (may_be_canonical s.part x) (part_canonical (next_part s.part x) xs)
    ∙ ap (λ (b : Bool). s.is_canonical_so_far && b) (sym (canonical-part_step s.part x xs))

pub real-canonical : (c : List ℕ) → is_canonical (real_check_after new_real_check c) ≡ is_canonical_real c
real-canonical c = canonical-after new_real_check c

-- nothing is found on canonical contents that are no number that is zero
pub real-clear : (c : List ℕ) → is_real_form c ≡ true → is_canonical_real c ≡ true
    → (is_real_form c && is_zero_number c) ≡ false → type_findings 9 c ≡ []
real-clear c form canonical nonzero =
    let number : is_zero_number c ≡ false = sym (ap (λ (b : Bool). b && is_zero_number c) form) ∙ nonzero in
    rw (form, canonical, number) refl
