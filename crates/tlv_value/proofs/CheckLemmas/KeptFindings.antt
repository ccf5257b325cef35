-- What is found on some types, by what is kept of their contents.
use Rattle.std.proofs.Common.{◌≡◌, sym, ℕ, Bool, true, false, ◌&&◌, not, eqb, List, [], ◌∷◌, ◌++◌, refl, ap, ◌∙◌, append-nil}
use Rattle.std.proofs.lemmas.Bool.{eqb-true}
use Rattle.std.specs.Prelude.{◌||◌}
use Rattle.tlv_value.specs.declared.finding.Finding.TheVariants.{B18, B21, B23}
use Rattle.tlv_value.specs.Checks.{findings_by}
use Rattle.tlv_value.specs.AllChecks.{is_iri, type_findings}
use Rattle.tlv_value.specs.Dates.{is_date_or_time}
use Rattle.tlv_head.specs.declared.type_table.Rule.TheVariants as rules
use Rattle.tlv_head.specs.Lists.{is_among}
use Rattle.tlv_value.specs.Types.{has_rule, tested_string_types}
use Rattle.tlv_value.specs.ValueCheckState.{finding_if, is_allowed, is_kept_date, is_kept_iri}
use Rattle.tlv_value.specs.ValueCheckState.{kept_conditions, ValueCheckState}
use Rattle.tlv_value.proofs.CheckLemmas.NotedContents.{IsOther, other-by}

date-at : (n : ℕ) (s : ValueCheckState) (a b c : Bool) → eqb n 31 ≡ a → eqb n 32 ≡ b → eqb n 33 ≡ c
    → (a || (b || (c || false))) ≡ true
    → findings_by (kept_conditions n s) ≡ finding_if (not (is_kept_date n s)) B21
date-at n s true b c e f g h = rw (eqb-true n 31 e) (append-nil (finding_if (not (is_kept_date 31 s)) B21))
date-at n s false true c e f g h = rw (eqb-true n 32 f) (append-nil (finding_if (not (is_kept_date 32 s)) B21))
date-at n s false false true e f g h = rw (eqb-true n 33 g) (append-nil (finding_if (not (is_kept_date 33 s)) B21))
date-at n s false false false e f g h = absurd cc

-- DATE, TIME-OF-DAY, DATE-TIME
pub date-found : (n : ℕ) (s : ValueCheckState) → has_rule rules.DateForm n ≡ true
    → findings_by (kept_conditions n s) ≡ finding_if (not (is_kept_date n s)) B21
date-found n s h = date-at n s (eqb n 31) (eqb n 32) (eqb n 33) refl refl refl h

iri-at : (n : ℕ) (s : ValueCheckState) (a b : Bool) → eqb n 35 ≡ a → eqb n 36 ≡ b → (a || (b || false)) ≡ true
    → findings_by (kept_conditions n s) ≡ finding_if (not (is_kept_iri n s)) B23
iri-at n s true b e f h = rw (eqb-true n 35 e) (append-nil (finding_if (not (is_kept_iri 35 s)) B23))
iri-at n s false true e f h = rw (eqb-true n 36 f) (append-nil (finding_if (not (is_kept_iri 36 s)) B23))
iri-at n s false false e f h = absurd cc

-- OID-IRI, RELATIVE-OID-IRI
pub iri-found : (n : ℕ) (s : ValueCheckState) → has_rule rules.IriForm n ≡ true
    → findings_by (kept_conditions n s) ≡ finding_if (not (is_kept_iri n s)) B23
iri-found n s h = iri-at n s (eqb n 35) (eqb n 36) refl refl h

date-clear_at : (n k : ℕ) (c : List ℕ) → eqb n k ≡ true → is_date_or_time n c ≡ true
    → type_findings k c ≡ finding_if (not (is_date_or_time k c)) B21 → type_findings n c ≡ []
date-clear_at n k c e h same =
    let is_one : is_date_or_time k c ≡ true = ap (λ (m : ℕ). is_date_or_time m c) (sym (eqb-true n k e)) ∙ h in
    rw (eqb-true n k e) (same ∙ ap (λ (b : Bool). finding_if (not b) B21) is_one)

date-clear_by : (n : ℕ) (c : List ℕ) (a b d : Bool) → eqb n 31 ≡ a → eqb n 32 ≡ b → eqb n 33 ≡ d
    → (a || (b || (d || false))) ≡ true → is_date_or_time n c ≡ true → type_findings n c ≡ []
date-clear_by n c true b d e f g h k =
    date-clear_at n 31 c e k (append-nil (finding_if (not (is_date_or_time 31 c)) B21))
date-clear_by n c false true d e f g h k =
    date-clear_at n 32 c f k (append-nil (finding_if (not (is_date_or_time 32 c)) B21))
date-clear_by n c false false true e f g h k =
    date-clear_at n 33 c g k (append-nil (finding_if (not (is_date_or_time 33 c)) B21))
date-clear_by n c false false false e f g h k = absurd cc

-- nothing is found on a DATE, TIME-OF-DAY or DATE-TIME that is one
pub date-clear : (n : ℕ) (c : List ℕ) → has_rule rules.DateForm n ≡ true → is_date_or_time n c ≡ true
    → type_findings n c ≡ []
date-clear n c h k = date-clear_by n c (eqb n 31) (eqb n 32) (eqb n 33) refl refl refl h k

iri-clear_at : (n k : ℕ) (c : List ℕ) → eqb n k ≡ true → is_iri n c ≡ true
    → type_findings k c ≡ finding_if (not (is_iri k c)) B23 → type_findings n c ≡ []
iri-clear_at n k c e h same =
    let is_one : is_iri k c ≡ true = ap (λ (m : ℕ). is_iri m c) (sym (eqb-true n k e)) ∙ h in
    rw (eqb-true n k e) (same ∙ ap (λ (b : Bool). finding_if (not b) B23) is_one)

iri-clear_by : (n : ℕ) (c : List ℕ) (a b : Bool) → eqb n 35 ≡ a → eqb n 36 ≡ b → (a || (b || false)) ≡ true
    → is_iri n c ≡ true → type_findings n c ≡ []
iri-clear_by n c true b e f g h = iri-clear_at n 35 c e h (append-nil (finding_if (not (is_iri 35 c)) B23))
iri-clear_by n c false true e f g h = iri-clear_at n 36 c f h (append-nil (finding_if (not (is_iri 36 c)) B23))
iri-clear_by n c false false e f g h = absurd cc

-- nothing is found on an OID-IRI or RELATIVE-OID-IRI that is one
pub iri-clear : (n : ℕ) (c : List ℕ) → has_rule rules.IriForm n ≡ true → is_iri n c ≡ true
    → type_findings n c ≡ []
iri-clear n c h k = iri-clear_by n c (eqb n 35) (eqb n 36) refl refl h k

-- a type with no findings
pub none-found : (n : ℕ) (s : ValueCheckState) → IsOther n → is_among n (12 ∷ tested_string_types) ≡ false
    → findings_by (kept_conditions n s) ≡ []
none-found n s o e =
    let none : has_rule rules.Characters n ≡ false = rw (o.e28, o.e30) e in
    (other-by n [] s o).1 ∙ ap (λ (k : Bool). finding_if (k && not (is_allowed s)) B18 ++ []) none
