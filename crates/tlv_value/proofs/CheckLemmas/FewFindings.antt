-- There are few findings on the contents of a primitive, since most conditions are of one type alone.
use Rattle.std.proofs.Common.{◌≡◌, ℕ, ◌+◌, ◌≤◌, Bool, true, false, ◌&&◌, ◌==◌, not, nat_le, nat_lt, List, [], ◌∷◌}
use Rattle.std.proofs.Common.{◌++◌, ◌||◌, if◌then◌else◌, length, eqb, ◌%◌, ◌^◌, refl, arith}
use Rattle.std.proofs.lemmas.Bool.{and_parts, eqb-true}
use Rattle.std.specs.List.{list_any}
use Rattle.std.proofs.lemmas.Bool.Decides.{nat_tests}
use Rattle.tlv_head.specs.Header.{HeaderValue, is_universal}
use Rattle.tlv_head.specs.UniversalTypes as universal
use Rattle.tlv_value.specs.declared.finding.Finding.{Finding}
use Rattle.tlv_value.specs.Characters.{has_wrong_unit}
use Rattle.tlv_value.specs.AllChecks.{all_contents_findings, is_iri, time_has_day, type_conditions}
use Rattle.tlv_value.specs.Arcs.{parts_of}
use Rattle.tlv_value.specs.Checks.{allows, begins_with, canonical_form, findings_by, first_octet, is_padded_integer}
use Rattle.tlv_value.specs.Checks.{is_short_time, last_octet, time_form}
use Rattle.tlv_value.specs.Dates.{is_date_or_time}
use Rattle.tlv_value.specs.Real.{is_canonical_real, is_real_form, is_zero_number}
use Rattle.tlv_head.specs.declared.type_table.Rule.TheVariants as rules
use Rattle.tlv_head.specs.Lists.{is_among}
use Rattle.tlv_value.specs.Types.{has_rule, wide_string_types}

-- 1, if the condition holds
abbrev one_if : Bool → ℕ
one_if true = 1
one_if false = 0

-- how many conditions hold
abbrev count : List (Finding × Bool) → ℕ
count [] = 0
count (row ∷ rows) = one_if row.1 + count rows

found-few : (rows : List (Finding × Bool)) → length (findings_by rows) ≤ count rows
found-few [] = omega arith
found-few (row ∷ rows) = one-more row.1 (found-few rows)
  where
    one-more : (b : Bool) → length (findings_by rows) ≤ count rows
        → length ((if b then row.0 ∷ [] else []) ++ findings_by rows) ≤ one_if b + count rows
    one-more true e = omega (arith, e)
    one-more false e = omega (arith, e)

one-few : (b : Bool) → one_if b ≤ 1
one-few true = omega arith
one-few false = omega arith

-- of two types that exclude each other
either-few : (a b x y : Bool) → (a ≡ true → b ≡ false) → one_if (a && x) + one_if (b && y) ≤ 1
either-few true b x y e = rw (e refl) (omega (arith, one-few x))
either-few false b x y e = omega (arith, one-few (b && y))

either-fewer : (a x b : Bool) → (a ≡ true → b ≡ false) → one_if (a && x) + one_if b ≤ 1
either-fewer true x b e = rw (e refl) (omega (arith, one-few x))
either-fewer false x b e = omega (arith, one-few b)

-- a further condition
fewer : (a x : Bool) → one_if (a && x) ≤ one_if a
fewer true x = one-few x
fewer false x = omega arith

-- an integer has no characters
integer-by : (n : ℕ) (c : List ℕ) (a b : Bool) → eqb n 2 ≡ a → eqb n 10 ≡ b → (a || (b || false)) ≡ true
    → not (allows n c) ≡ false
integer-by n c true b e f h = rw (eqb-true n 2 e) refl
integer-by n c false true e f h = rw (eqb-true n 10 f) refl
integer-by n c false false e f h = absurd cc

integer-allowed : (n : ℕ) (c : List ℕ) → has_rule rules.Shortest n ≡ true → not (allows n c) ≡ false
integer-allowed n c h = integer-by n c (eqb n 2) (eqb n 10) refl refl h

real-no_iri : (n : ℕ) → has_rule rules.RealForm n ≡ true → has_rule rules.IriForm n ≡ false
real-no_iri n e = grind (arith, nat_tests)

real-no_wide : (n : ℕ) → has_rule rules.RealForm n ≡ true → is_among n wide_string_types ≡ false
real-no_wide n e = grind (arith, nat_tests)

type-few : (n : ℕ) (c : List ℕ) → length (findings_by (type_conditions n c)) ≤ 15
type-few n c =
    let l = found-few (type_conditions n c) in
    let boolean-null =
    either-few (has_rule rules.OneOctet n) (has_rule rules.NoOctets n) (not (length c == 1)) (not (length c == 0))
    (λ e. grind (arith, nat_tests, e)) in
    let boolean-integer =
    either-few (has_rule rules.OneOctet n) (has_rule rules.Shortest n) (length c == 1) (length c == 0)
    (λ e. grind (arith, nat_tests, e)) in
    let boolean =
    fewer (has_rule rules.OneOctet n && length c == 1) (not (first_octet c == 0 || first_octet c == 0xff)) in
    let integer-characters =
    either-fewer (has_rule rules.Shortest n) (is_padded_integer c) (not (allows n c)) (integer-allowed n c) in
    let object-bits =
    either-few (n == universal.object_identifier) (has_rule rules.UnusedBits n) (length c == 0) (length c == 0)
    (λ e. grind (arith, nat_tests, e)) in
    let padded-bits =
    either-few (has_rule rules.Subidentifiers n) (has_rule rules.UnusedBits n)
    (list_any (begins_with 0x80) (parts_of c)) (nat_lt 7 (first_octet c))
    (λ e. grind (arith, nat_tests, e)) in
    let last-bits =
    either-few (has_rule rules.Subidentifiers n) (has_rule rules.UnusedBits n) (nat_le 128 (last_octet c))
    (length c == 1) (λ e. grind (arith, nat_tests, e)) in
    let unused = fewer (has_rule rules.UnusedBits n && length c == 1) (nat_le 1 (first_octet c)) in
    let unused-most =
    fewer (has_rule rules.UnusedBits n && length c == 1 && nat_le 1 (first_octet c)) (nat_le (first_octet c) 7) in
    let relative-bits =
    either-few (n == universal.relative_oid) (has_rule rules.UnusedBits n) (length c == 0)
    (nat_le 2 (length c)) (λ e. grind (arith, nat_tests, e)) in
    let bits = fewer (has_rule rules.UnusedBits n && nat_le 2 (length c)) (nat_le (first_octet c) 7) in
    let bits-set =
    fewer (has_rule rules.UnusedBits n && nat_le 2 (length c) && nat_le (first_octet c) 7)
    (not (last_octet c % 2 ^ first_octet c == 0)) in
    let b19 = one-few (is_short_time n c && not (time_form n c)) in
    let real-date =
    either-few (has_rule rules.RealForm n) (has_rule rules.DateForm n) (not (is_real_form c)) (not (is_date_or_time n c))
    (λ e. grind (arith, nat_tests, e)) in
    let real-iri =
    either-few (has_rule rules.RealForm n && is_real_form c) (has_rule rules.IriForm n) (not (is_canonical_real c))
    (not (is_iri n c))
    (λ e. real-no_iri n ((and_parts (has_rule rules.RealForm n) (is_real_form c) e).0)) in
    let zero-wide =
    either-few (has_rule rules.RealForm n && is_real_form c) (is_among n wide_string_types) (is_zero_number c)
    (has_wrong_unit n c)
    (λ e. real-no_wide n ((and_parts (has_rule rules.RealForm n) (is_real_form c) e).0)) in
    let b26 = one-few (is_short_time n c && time_form n c && not (time_has_day n c)) in
    let s04 = one-few (is_short_time n c && time_form n c && not (canonical_form n c)) in
    omega (
      arith,
      l,
      boolean-null,
      boolean-integer,
      integer-characters,
      object-bits,
      padded-bits,
      last-bits,
      relative-bits,
      boolean,
      unused,
      unused-most,
      bits,
      bits-set,
      b19,
      real-date,
      real-iri,
      zero-wide,
      b26,
      s04,
    )

few-by : (universal : Bool) (n : ℕ) (c : List ℕ)
    → length (findings_by (if universal then type_conditions n c else [])) ≤ 15
few-by true n c = type-few n c
few-by false n c = omega arith

pub contents-few : (h : HeaderValue) (c : List ℕ) → length (all_contents_findings h c) ≤ 15
contents-few h c = few-by (is_universal h.class) h.number c
