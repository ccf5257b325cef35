-- All findings on the contents of a primitive: the listed ones, which `Checks` has, and the others.
use Rattle.std.specs.Prelude.{ℕ, Bool, true, false, ◌&&◌, not, ◌==◌, if◌then◌else◌, List, [], ◌∷◌, ◌++◌, drop, length}
use Rattle.std.specs.List.{list_all, slice_split}
use Rattle.std.specs.Str.{is_utf8}
use Rattle.tlv_head.specs.Header.{HeaderValue, is_universal}
use Rattle.tlv_head.specs.UniversalTypes as universal
use Rattle.tlv_value.specs.declared.finding.Finding.{Finding}
use Rattle.tlv_value.specs.declared.finding.Finding.TheVariants.{B20, B21, B22, B23, B24, B25, B26}
use Rattle.tlv_value.specs.declared.finding.Finding.TheVariants.{B27, B28, B29, B30, S05, S06}
use Rattle.tlv_value.specs.Characters.{has_wrong_unit}
use Rattle.tlv_value.specs.Checks.{begins_with, findings_by, is_short_time, listed_basic_type_conditions}
use Rattle.tlv_value.specs.Checks.{listed_strict_type_conditions, time_form}
use Rattle.tlv_value.specs.Dates.{is_date_or_time, month_has_day, month_has_day_in_some_century}
use Rattle.tlv_value.specs.Real.{is_canonical_real, is_real_form, is_zero_number}
use Rattle.tlv_value.specs.TextForms.{no_octets}
use Rattle.tlv_value.specs.Types.{wide_string_types}
use Rattle.tlv_head.specs.declared.type_table.Rule.TheVariants as rules
use Rattle.tlv_head.specs.Lists.{is_among}
use Rattle.tlv_value.specs.Types.{has_rule}

-- X.680 46, 47: the month of the time has its day. The century of a UTCTime is not known
abbrev pub time_has_day : ℕ → List ℕ → Bool
time_has_day number contents =
    if number == universal.utc_time then month_has_day_in_some_century contents else month_has_day contents

-- X.680 34, 36: the text is one label or more, with / (2f) between them, and no label is empty
abbrev pub are_labels : List ℕ → Bool
are_labels text = list_all (λ label. not (no_octets label)) (slice_split (λ x. x == 0x2f) text)

-- 8.21, 8.22: the contents of an OID-IRI or RELATIVE-OID-IRI, the type with this number, are UTF-8, and labels. Before
-- the labels of an OID-IRI is a /
abbrev pub is_iri : ℕ → List ℕ → Bool
is_iri number contents =
    is_utf8 contents
    && (if number == universal.oid_iri
    then begins_with 0x2f contents && are_labels (drop 1 contents)
    else are_labels contents)

-- ---- The findings

-- whether a finding is listed, so that `tlvdump` reports it: all are but these
abbrev pub is_listed : Finding → Bool
is_listed B20 = false
is_listed B21 = false
is_listed B22 = false
is_listed B23 = false
is_listed B24 = false
is_listed B25 = false
is_listed B26 = false
is_listed B27 = false
is_listed B28 = false
is_listed B29 = false
is_listed B30 = false
is_listed S05 = false
is_listed S06 = false
is_listed finding = true

-- the findings that are not listed, beside their conditions, for the contents of a primitive: `number` is that of its
-- universal type. These are by the rules of all encodings
abbrev pub later_basic_type_conditions : ℕ → List ℕ → List (Finding × Bool)
later_basic_type_conditions number contents =
    -- 8.5: a REAL is of a form, as `Real` has it
    (B20, has_rule rules.RealForm number && not (is_real_form contents))
    -- 8.26: a DATE, TIME-OF-DAY or DATE-TIME is one, as `Dates` has it
    ∷ (B21, has_rule rules.DateForm number && not (is_date_or_time number contents))
    -- 8.21, 8.22, X.680 34, 36: an OID-IRI or RELATIVE-OID-IRI is UTF-8, and is made of labels as it has to be
    ∷ (B23, has_rule rules.IriForm number && not (is_iri number contents))
    -- 8.20.2: a RELATIVE-OID has one subidentifier or more
    ∷ (B24, number == universal.relative_oid && length contents == 0)
    -- 8.23: each whole unit of a BMPString or UniversalString is a character, as `Characters` has it
    ∷ (B25, is_among number wide_string_types && has_wrong_unit number contents)
    -- X.680 46, 47: in a time of at most 64 octets that follows the grammar of its type, the month has the day
    ∷ (
      B26,
      is_short_time number contents && time_form number contents
          && not (time_has_day number contents),
    )
    -- 8.5.2, 8.5.3: a REAL of a form that is a number is not zero: plus zero has no contents, minus zero is special
    ∷ (B29, has_rule rules.RealForm number && is_real_form contents && is_zero_number contents)
    ∷ []

-- and by the rules of DER, and of CER
abbrev pub later_strict_type_conditions : ℕ → List ℕ → List (Finding × Bool)
later_strict_type_conditions number contents =
    -- 11.3: a REAL of a form is canonical, as `Real` has it
    (S06, has_rule rules.RealForm number && is_real_form contents && not (is_canonical_real contents))
    ∷ []

-- all findings on these contents, listed or not, beside their conditions, in the order of the codes
abbrev pub type_conditions : ℕ → List ℕ → List (Finding × Bool)
type_conditions number contents =
    listed_basic_type_conditions number contents
    ++ later_basic_type_conditions number contents
    ++ listed_strict_type_conditions number contents
    ++ later_strict_type_conditions number contents

-- the possible findings on these contents of a primitive with this header, beside their conditions. There are none if
-- its class is not universal
abbrev pub contents_conditions : HeaderValue → List ℕ → List (Finding × Bool)
contents_conditions h contents = if is_universal h.class then type_conditions h.number contents else []

-- the findings on these contents of a primitive of the type with this number, whatever the rules, in order
abbrev pub type_findings : ℕ → List ℕ → List Finding
type_findings number contents = findings_by (type_conditions number contents)

-- the same, of a primitive with this header
abbrev pub all_contents_findings : HeaderValue → List ℕ → List Finding
all_contents_findings h contents = findings_by (contents_conditions h contents)
