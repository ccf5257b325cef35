-- The findings on the contents of a time.
use Rattle.std.specs.Prelude.{ℕ, Bool, not, if◌then◌else◌, List, [], ◌∷◌, ◌++◌}
use Rattle.tlv_value.specs.declared.finding.Finding.{Finding}
use Rattle.tlv_value.specs.declared.finding.Finding.TheVariants.{B19, B26, S04}
use Rattle.tlv_value.specs.Dates.{month_has_day, month_has_day_in_some_century}
use Rattle.tlv_value.specs.Times.{canonical_generalized_time_form, canonical_utc_time_form}
use Rattle.tlv_value.specs.Times.{generalized_time_form, utc_time_form}
use Rattle.tlv_value.specs.ValueCheckState.{finding_if}

-- from whether the time follows its grammar, whether its month has its day, and whether it is in the canonical form
abbrev pub time_findings : Bool → Bool → Bool → List Finding
time_findings of_grammar has_day is_canonical =
    if of_grammar then finding_if (not has_day) B26 ++ finding_if (not is_canonical) S04 else B19 ∷ []

abbrev pub utc_time_findings : List ℕ → List Finding
utc_time_findings octets =
    time_findings (utc_time_form octets) (month_has_day_in_some_century octets)
    (canonical_utc_time_form octets)

abbrev pub generalized_time_findings : List ℕ → List Finding
generalized_time_findings octets =
    time_findings (generalized_time_form octets) (month_has_day octets)
    (canonical_generalized_time_form octets)
