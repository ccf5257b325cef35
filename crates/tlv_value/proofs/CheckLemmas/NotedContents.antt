-- What is found by what is kept of contents is what is found by the whole contents.
use Rattle.std.proofs.Common.{◌≡◌, ℕ, Bool, true, false, ◌&&◌, ◌||◌, ◌==◌, ◌%◌, ◌^◌, not, eqb, nat_le, nat_lt}
use Rattle.std.proofs.Common.{if◌then◌else◌, List, [], ◌∷◌, ◌++◌, length, take, refl, sym, ap, ap₂, ◌∙◌, subst}
use Rattle.std.proofs.Math.Bool.{and-true}
use Rattle.std.proofs.lemmas.Bool.{eqb-true, leb-true}
use Rattle.std.proofs.lemmas.List.{take_all}
use Rattle.std.specs.List.{list_all}
use Rattle.std.specs.Prelude.{slice_index}
use Rattle.tlv_value.specs.declared.finding.Finding.{Finding}
use Rattle.tlv_value.specs.declared.finding.Finding.TheVariants.{B06, B07, B08, B10, B11, B12, B13, B14, B15, B18, B19}
use Rattle.tlv_value.specs.declared.finding.Finding.TheVariants.{B20, B21, B23, B24, B25, B26, B29, S02, S03, S04}
use Rattle.tlv_value.specs.declared.finding.Finding.TheVariants.{S06}
use Rattle.tlv_value.specs.Characters.{allows_octet, are_whole_characters, has_wrong_unit}
use Rattle.tlv_value.specs.Dates.{month_has_day, month_has_day_in_some_century}
use Rattle.tlv_value.specs.UnitsSoFar.{are_characters_after}
use Rattle.tlv_value.specs.AllChecks.{all_contents_findings, type_conditions, type_findings}
use Rattle.tlv_value.specs.Checks.{allows}
use Rattle.tlv_value.specs.Checks.{findings_by, is_padded_integer}
use Rattle.tlv_head.specs.declared.type_table.Rule.TheVariants as rules
use Rattle.tlv_value.specs.Types.{has_rule}
use Rattle.tlv_value.specs.ValueCheckState.{finding_if, is_allowed}
use Rattle.tlv_value.specs.ValueCheckState.{kept_conditions, new_value_check_of, ValueCheckState}
use Rattle.tlv_value.specs.ValueCheckState.{notes_each, type_number, with_each_noted, with_octets_noted}
use Rattle.tlv_value.specs.RowsSoFar.{full_rows, open_row}
use Rattle.tlv_head.specs.Header.{HeaderValue, is_universal}
use Rattle.tlv_head.specs.UniversalTypes as types
use Rattle.tlv_head.specs.declared.kind.Kind.TheVariants.{Utf8}
use Rattle.std.specs.Str.{is_utf8}
use Rattle.tlv_value.proofs.CheckLemmas.ClearStrings.{all-allowed, fours-kept, twos-kept}
use Rattle.tlv_value.proofs.CheckLemmas.DatesNoted.{date-kept}
use Rattle.tlv_value.proofs.CheckLemmas.EachNoted.{nothing-noted}
use Rattle.tlv_value.proofs.CheckLemmas.Labels.{absolute-kept, relative-kept}
use Rattle.tlv_value.proofs.CheckLemmas.LastAndPadded.{last_of_all, padded_of_all}
use Rattle.tlv_value.proofs.RealLemmas.CanonicalContents.{real-canonical}
use Rattle.tlv_value.proofs.RealLemmas.RealContents.{real-of_form}
use Rattle.tlv_value.proofs.RealLemmas.ZeroContents.{real-zero}
use Rattle.tlv_value.specs.Real.{is_real_form, is_zero_number}
use Rattle.tlv_value.specs.RealState.{is_canonical, is_of_form, new_real_check, real_check_after}
use Rattle.tlv_value.proofs.CheckLemmas.Utf8ByRow.{rows-formed_at}
use Rattle.tlv_value.specs.Times.{Form, canonical_generalized_time_form, canonical_utc_time_form, generalized_time_form}
use Rattle.tlv_value.specs.Times.{utc_time_form}

-- what is noted of all contents of the type with this number
abbrev pub all_noted : ℕ → List ℕ → ValueCheckState
all_noted number c = with_octets_noted (new_value_check_of number (length c)) c

-- what is found by it is what is found by the whole contents
abbrev Same : ℕ → List ℕ → Type 0
Same n c = type_findings n c ≡ findings_by (kept_conditions n (all_noted n c))

first-noted : (c : List ℕ) → slice_index c 0 ≡ slice_index (take 2 c) 0
first-noted [] = refl
first-noted (x ∷ c) = refl

padded-noted : (c : List ℕ) → is_padded_integer c ≡ is_padded_integer (take 2 c)
padded-noted [] = refl
padded-noted (x ∷ []) = refl
padded-noted (x ∷ y ∷ c) = refl

-- ---- type by type: those of which more is asked than the number of octets, and what was noted of each octet

boolean-same : (c : List ℕ) → Same 1 c
boolean-same c =
    ap (λ (x : ℕ). finding_if (not (length c == 1)) B06
    ++ (finding_if (length c == 1 && not (x == 0 || x == 255)) S02 ++ []))
    (first-noted c)

integer-by : (c : List ℕ)
    → finding_if (length c == 0) B07 ++ (finding_if (is_padded_integer c) B08 ++ [])
    ≡ finding_if (length c == 0) B07 ++ (finding_if (is_padded_integer (take 2 c)) B08 ++ [])
integer-by c = ap (λ (k : Bool). finding_if (length c == 0) B07 ++ (finding_if k B08 ++ [])) (padded-noted c)

bits-same : (c : List ℕ) → Same 3 c
bits-same c =
    ap₂ (λ (x last : ℕ).
    finding_if (length c == 0) B13
    ++ (finding_if (nat_lt 7 x) B14 ++ (finding_if (length c == 1 && nat_le 1 x && nat_le x 7) B15
    ++ (finding_if (nat_le 2 (length c) && nat_le x 7 && not (last % 2 ^ x == 0)) S03 ++ []))))
    (first-noted c) (sym (last_of_all c))

identifier-same : (c : List ℕ) → Same 6 c
identifier-same c =
    ap₂ (λ (is_padded : Bool) (last : ℕ).
    finding_if (length c == 0) B10
    ++ (finding_if is_padded B11 ++ (finding_if (nat_le 128 last) B12 ++ [])))
    (sym (padded_of_all c)) (sym (last_of_all c))

relative-same : (c : List ℕ) → Same 13 c
relative-same c =
    ap₂ (λ (is_padded : Bool) (last : ℕ). finding_if is_padded B11
    ++ (finding_if (nat_le 128 last) B12 ++ (finding_if (length c == 0) B24 ++ [])))
    (sym (padded_of_all c)) (sym (last_of_all c))

-- a time of at most 64 octets is noted as it is
time-by : (short : Bool) (form canonical : Form) (has_day : List ℕ → Bool) (c time : List ℕ) → (short ≡ true → time ≡ c)
    → finding_if (short && not (form c)) B19
    ++ (finding_if (short && form c && not (has_day c)) B26
    ++ (finding_if (short && form c && not (canonical c)) S04 ++ []))
    ≡ finding_if (short && not (form time)) B19
    ++ (finding_if (short && form time && not (has_day time)) B26
    ++ (finding_if (short && form time && not (canonical time)) S04 ++ []))
time-by false form canonical has_day c time e = refl
time-by true form canonical has_day c time e =
    ap (λ (d : List ℕ). finding_if (not (form d)) B19
    ++ (finding_if (form d && not (has_day d)) B26
    ++ (finding_if (form d && not (canonical d)) S04 ++ [])))
    (sym (e refl))

utc-same : (c : List ℕ) → Same 23 c
utc-same c =
    time-by (nat_le (length c) 64) utc_time_form canonical_utc_time_form month_has_day_in_some_century c (take 64 c)
    (λ e. take_all 64 c (leb-true (length c) 64 e))

general-same : (c : List ℕ) → Same 24 c
general-same c =
    time-by (nat_le (length c) 64) generalized_time_form canonical_generalized_time_form month_has_day c (take 64 c)
    (λ e. take_all 64 c (leb-true (length c) 64 e))

-- dates: 64 octets are enough
date-same : (c : List ℕ) → Same 31 c
date-same c = ap (λ (is_one : Bool). finding_if (not is_one) B21 ++ []) (date-kept 31 c)

time_of_day-same : (c : List ℕ) → Same 32 c
time_of_day-same c = ap (λ (is_one : Bool). finding_if (not is_one) B21 ++ []) (date-kept 32 c)

date_time-same : (c : List ℕ) → Same 33 c
date_time-same c = ap (λ (is_one : Bool). finding_if (not is_one) B21 ++ []) (date-kept 33 c)

-- strings of wide characters
wide-by : (whole wrong kept : Bool) → wrong ≡ not kept
    → finding_if (not (whole && true)) B18 ++ (finding_if wrong B25 ++ [])
    ≡ finding_if (not (whole && true)) B18 ++ (finding_if (not kept) B25 ++ [])
wide-by whole wrong kept e = rw e refl

fours-same : (c : List ℕ) → Same 28 c
fours-same c = wide-by (length c % 4 == 0) (has_wrong_unit 28 c) (are_characters_after 4 [] c) (fours-kept c)

twos-same : (c : List ℕ) → Same 30 c
twos-same c = wide-by (length c % 2 == 0) (has_wrong_unit 30 c) (are_characters_after 2 [] c) (twos-kept c)

-- internationalized resource identifiers
iri-same : (c : List ℕ) → Same 35 c
iri-same c =
    ap₂ (λ (text labels : Bool). finding_if (not (text && labels)) B23 ++ [])
    (sym (rows-formed_at c)) (absolute-kept c)

relative_iri-same : (c : List ℕ) → Same 36 c
relative_iri-same c =
    ap₂ (λ (text labels : Bool). finding_if (not (text && labels)) B23 ++ [])
    (sym (rows-formed_at c)) (relative-kept c)

-- REAL
real-same : (c : List ℕ) → Same 9 c
real-same c =
    ap₂ (λ (of_form is_canonical : Bool). finding_if (not of_form) B20
    ++ (finding_if (is_real_form c && is_zero_number c) B29 ++ (finding_if (of_form && not is_canonical) S06 ++ [])))
    (sym (real-of_form c)) (sym (real-canonical c))
    ∙ ap (λ (zero : Bool). finding_if (not (is_of_form (real_check_after new_real_check c))) B20
    ++ (finding_if zero B29
    ++ (finding_if (is_of_form (real_check_after new_real_check c)
    && not (is_canonical (real_check_after new_real_check c))) S06 ++ [])))
    (sym (real-zero c))

-- any other type
allowed-each : (n : ℕ) (c : List ℕ) (text : Bool)
    → ((if text
    then (if text then true && list_all is_utf8 (full_rows Utf8 [] c) else true)
    && is_utf8 (if text then open_row Utf8 [] c else [])
    else are_whole_characters n (length c))
    && (true && list_all (allows_octet n) c))
    ≡ ((if text then is_utf8 c else are_whole_characters n (length c)) && list_all (allows_octet n) c)
allowed-each n c true = ap (λ (f : Bool). f && list_all (allows_octet n) c) (rows-formed_at c)
allowed-each n c false = refl

-- the number is that of no type with findings of its own
pub record IsOther (n : ℕ) : Type 0 where
  pub e1 : eqb n 1 ≡ false
  pub e2 : eqb n 2 ≡ false
  pub e3 : eqb n 3 ≡ false
  pub e5 : eqb n 5 ≡ false
  pub e6 : eqb n 6 ≡ false
  pub e9 : eqb n 9 ≡ false
  pub e10 : eqb n 10 ≡ false
  pub e13 : eqb n 13 ≡ false
  pub e23 : eqb n 23 ≡ false
  pub e24 : eqb n 24 ≡ false
  pub e28 : eqb n 28 ≡ false
  pub e30 : eqb n 30 ≡ false
  pub e31 : eqb n 31 ≡ false
  pub e32 : eqb n 32 ≡ false
  pub e33 : eqb n 33 ≡ false
  pub e35 : eqb n 35 ≡ false
  pub e36 : eqb n 36 ≡ false

-- of such a type nothing is noted but what must be known of each octet
abbrev each-noted : ℕ → List ℕ → Bool → ValueCheckState
each-noted n c each =
    if each then with_each_noted (new_value_check_of n (length c)) c else new_value_check_of n (length c)

other-noted : (n : ℕ) (c : List ℕ) → IsOther n → all_noted n c ≡ each-noted n c (notes_each n)
other-noted n c o =
    rw (o.e1, o.e2, o.e3, o.e9, o.e10, o.e23, o.e24, o.e28, o.e30, o.e31, o.e32, o.e33, o.e35, o.e36) refl

-- what a type allows, by what is noted: whole characters, and each octet
abbrev allows-noted : ℕ → List ℕ → Bool
allows-noted n c = (if eqb n 12 then is_utf8 c else are_whole_characters n (length c)) && list_all (allows_octet n) c

other-allowed : (n : ℕ) (c : List ℕ) → IsOther n → is_allowed (all_noted n c) ≡ allows-noted n c
other-allowed n c o = ap is_allowed (other-noted n c o) ∙ by (notes_each n) refl
  where
    by : (k : Bool) → notes_each n ≡ k
        → is_allowed (each-noted n c k) ≡ allows-noted n c
    by true e = allowed-each n c (eqb n 12)
    by false e = ap is_allowed (sym (nothing-noted (new_value_check_of n (length c)) c e)) ∙ allowed-each n c (eqb n 12)

-- the table of types says the same
abbrev AllowsSame : ℕ → List ℕ → Type 0
AllowsSame n c = not (allows n c) ≡ (has_rule rules.Characters n && not (allows-noted n c))

allows-by : (n k : ℕ) (c : List ℕ) (test : Bool) → eqb n k ≡ test → AllowsSame k c
    → (eqb n k ≡ false → AllowsSame n c) → AllowsSame n c
allows-by n k c true e same other = subst (λ (m : ℕ). AllowsSame m c) (sym (eqb-true n k e)) same
allows-by n k c false e same other = other e

allows-same : (n : ℕ) (c : List ℕ) → IsOther n → AllowsSame n c
allows-same n c o =
    allows-by n 12 c (eqb n 12) refl
    (ap (λ (b : Bool). not (is_utf8 c && b)) (sym (all-allowed 12 (λ x. refl) c))) (λ e12.
    allows-by n 18 c (eqb n 18) refl (ap not (and-true (list_all (allows_octet 18) c))) (λ e18.
    allows-by n 19 c (eqb n 19) refl (ap not (and-true (list_all (allows_octet 19) c))) (λ e19.
    allows-by n 22 c (eqb n 22) refl (ap not (and-true (list_all (allows_octet 22) c))) (λ e22.
    allows-by n 26 c (eqb n 26) refl (ap not (and-true (list_all (allows_octet 26) c))) (λ e26.
    rw (e12, e18, e19, e22, e26, o.e28, o.e30) refl)))))

abbrev pub on_characters : ℕ → Bool → List Finding
on_characters n allowed = finding_if (has_rule rules.Characters n && not allowed) B18 ++ []

pub other-by : (n : ℕ) (c : List ℕ) (s : ValueCheckState) → IsOther n
    → (type_findings n c ≡ finding_if (not (allows n c)) B18 ++ [])
    × (findings_by (kept_conditions n s) ≡ on_characters n (is_allowed s))
other-by n c s o =
    rw (
      o.e1,
      o.e2,
      o.e3,
      o.e5,
      o.e6,
      o.e9,
      o.e10,
      o.e13,
      o.e23,
      o.e24,
      o.e28,
      o.e30,
      o.e31,
      o.e32,
      o.e33,
      o.e35,
      o.e36,
    ) (refl, refl)

other-same : (n : ℕ) (c : List ℕ) → IsOther n → Same n c
other-same n c o =
    let both = other-by n c (all_noted n c) o in
    both.0 ∙ ap (λ (b : Bool). finding_if b B18 ++ []) (allows-same n c o)
    ∙ ap (on_characters n) (sym (other-allowed n c o)) ∙ sym both.1

-- ---- all types

by-number : (n k : ℕ) (c : List ℕ) → Same k c → eqb n k ≡ true → Same n c
by-number n k c same e = subst (λ (m : ℕ). Same m c) (sym (eqb-true n k e)) same

-- the number is that of this type, or it is that of another one
type-by : (n k : ℕ) (c : List ℕ) (test : Bool) → eqb n k ≡ test → Same k c → (eqb n k ≡ false → Same n c) → Same n c
type-by n k c true e same other = by-number n k c same e
type-by n k c false e same other = other e

-- of the type with this number
pub noted-same : (n : ℕ) (c : List ℕ) → Same n c
noted-same n c =
    type-by n 1 c (eqb n 1) refl (boolean-same c) (λ e1.
    type-by n 2 c (eqb n 2) refl (integer-by c) (λ e2.
    type-by n 3 c (eqb n 3) refl (bits-same c) (λ e3.
    type-by n 5 c (eqb n 5) refl refl (λ e5.
    type-by n 6 c (eqb n 6) refl (identifier-same c) (λ e6.
    type-by n 9 c (eqb n 9) refl (real-same c) (λ e9.
    type-by n 10 c (eqb n 10) refl (integer-by c) (λ e10.
    type-by n 13 c (eqb n 13) refl (relative-same c) (λ e13.
    type-by n 23 c (eqb n 23) refl (utc-same c) (λ e23.
    type-by n 24 c (eqb n 24) refl (general-same c) (λ e24.
    type-by n 28 c (eqb n 28) refl (fours-same c) (λ e28.
    type-by n 30 c (eqb n 30) refl (twos-same c) (λ e30.
    type-by n 31 c (eqb n 31) refl (date-same c) (λ e31.
    type-by n 32 c (eqb n 32) refl (time_of_day-same c) (λ e32.
    type-by n 33 c (eqb n 33) refl (date_time-same c) (λ e33.
    type-by n 35 c (eqb n 35) refl (iri-same c) (λ e35.
    type-by n 36 c (eqb n 36) refl (relative_iri-same c) (λ e36.
    other-same n c (record {
      e1 = e1;
      e2 = e2;
      e3 = e3;
      e5 = e5;
      e6 = e6;
      e9 = e9;
      e10 = e10;
      e13 = e13;
      e23 = e23;
      e24 = e24;
      e28 = e28;
      e30 = e30;
      e31 = e31;
      e32 = e32;
      e33 = e33;
      e35 = e35;
      e36 = e36;
    }))))))))))))))))))

-- ---- another class

class-by : (universal : Bool) (n : ℕ) (c : List ℕ)
    → findings_by (if universal then type_conditions n c else [])
    ≡ type_findings (if universal then n else types.octet_string) c
class-by true n c = refl
class-by false n c = refl

-- on an OCTET STRING nothing is found
pub class-same : (h : HeaderValue) (c : List ℕ) → all_contents_findings h c ≡ type_findings (type_number h) c
class-same h c = class-by (is_universal h.class) h.number c
