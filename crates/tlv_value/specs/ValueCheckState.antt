-- What must be kept of the contents of a primitive so that the findings on them can be reported at their end.
use Rattle.std.specs.List.{list_all}
use Rattle.std.specs.Prelude.{ℕ, ◌-◌, ◌%◌, ◌^◌, Bool, true, false, ◌&&◌, ◌||◌, not, ◌==◌, nat_le, nat_lt}
use Rattle.std.specs.Prelude.{if◌then◌else◌, List, [], ◌∷◌, ◌++◌, length, take}
use Rattle.std.specs.Str.{is_utf8}
use Rattle.tlv_head.specs.UniversalTypes as universal
use Rattle.tlv_head.specs.Header.{HeaderValue, announced_length, is_universal}
use Rattle.tlv_head.specs.declared.kind.Kind.TheVariants.{Utf8}
use Rattle.tlv_value.specs.declared.finding.Finding.{Finding}
use Rattle.tlv_value.specs.declared.finding.Finding.TheVariants.{B06, B07, B08, B09, B10, B11, B12, B13, B14}
use Rattle.tlv_value.specs.declared.finding.Finding.TheVariants.{B15, B18, B19, B20, B21, B23, B24, B25, B26}
use Rattle.tlv_value.specs.declared.finding.Finding.TheVariants.{B29, S02, S03, S04, S06}
use Rattle.tlv_value.specs.Checks.{begins_with, canonical_form, findings_by}
use Rattle.tlv_value.specs.Checks.{first_octet, is_padded_integer, time_form}
use Rattle.tlv_value.specs.Characters.{allows_octet, are_whole_characters}
use Rattle.tlv_value.specs.AllChecks.{time_has_day}
use Rattle.tlv_value.specs.Dates.{is_date_or_time}
use Rattle.tlv_value.specs.RealState.{is_canonical, is_of_form, is_zero, new_real_check, real_check_after}
use Rattle.tlv_value.specs.declared.real.RealCheck.{RealCheck}
use Rattle.tlv_value.specs.RowsSoFar.{full_rows, open_row}
use Rattle.tlv_head.specs.declared.type_table.Rule.TheVariants as rules
use Rattle.tlv_head.specs.Lists.{is_among}
use Rattle.tlv_value.specs.Types.{has_rule, tested_string_types, types_with, wide_string_types}
use Rattle.tlv_value.specs.UnitsSoFar.{are_characters_after, character_size, open_unit}

-- what contracts see of a `ValueCheck`
pub record ValueCheckState : Type 0 where
  -- the universal number of the type
  pub number : ℕ
  pub size : ℕ
  -- the number of octets still to come
  pub left : ℕ
  -- the first two octets, and the last one, if the type asks for them
  pub first_octets : List ℕ
  pub last : ℕ
  -- whether the type allows each octet, and whether a subidentifier is padded
  pub are_octets_allowed : Bool
  pub is_padded : Bool
  -- for a UTF8String or an OID-IRI or RELATIVE-OID-IRI, whether the rows that were full are well-formed, and the row
  -- that has begun
  pub are_full_rows_utf8 : Bool
  pub row : List ℕ
  -- for an OID-IRI or RELATIVE-OID-IRI, whether a label between two octets / (2f) is empty
  pub has_empty_label : Bool
  -- the first 64 octets of a time or date
  pub time : List ℕ
  -- for a BMPString or UniversalString, whether the units that were whole are characters, and the unit that has begun
  pub are_characters : Bool
  pub unit : List ℕ
  -- for a REAL, what `RealState` keeps of it
  pub real : RealCheck

-- the state before any octet, for a primitive of the universal type with this number and with this many contents octets
abbrev pub new_value_check_of : ℕ → ℕ → ValueCheckState
new_value_check_of number size = record {
  number = number;
  size = size;
  left = size;
  first_octets = [];
  last = 0;
  are_octets_allowed = true;
  is_padded = false;
  are_full_rows_utf8 = true;
  row = [];
  has_empty_label = false;
  time = [];
  are_characters = true;
  unit = [];
  real = new_real_check;
}

-- the finding, if the condition holds
abbrev pub finding_if : Bool → Finding → List Finding
finding_if there finding = if there then finding ∷ [] else []

-- the universal number of the type; for another class, the number of OCTET STRING, whose contents have no findings
abbrev pub type_number : HeaderValue → ℕ
type_number h = if is_universal h.class then h.number else universal.octet_string

abbrev pub new_value_check : HeaderValue → ValueCheckState
new_value_check h = new_value_check_of (type_number h) (announced_length h.size)

-- the first octets and the last octet are checked: BOOLEAN, INTEGER, BIT STRING, ENUMERATED
abbrev pub notes_first : ℕ → Bool
notes_first number =
    is_among number (universal.boolean ∷ universal.integer ∷ universal.bit_string ∷ universal.enumerated ∷ [])

-- each octet of the type with this number is checked: object identifiers, UTF8String, and the strings of some
-- characters
abbrev pub notes_each : ℕ → Bool
notes_each number =
    is_among number (universal.object_identifier ∷ universal.utf8_string ∷ universal.relative_oid ∷ tested_string_types)

-- the first octets are kept: the two times, and DATE, TIME-OF-DAY, DATE-TIME
abbrev pub notes_time : ℕ → Bool
notes_time number = is_among number (types_with rules.TimeForm ++ types_with rules.DateForm)

-- each unit is checked: BMPString, UniversalString
abbrev pub notes_units : ℕ → Bool
notes_units number = is_among number wide_string_types

-- the first octet, the last one, each row and each label are checked: OID-IRI, RELATIVE-OID-IRI
abbrev pub notes_iri : ℕ → Bool
notes_iri number = has_rule rules.IriForm number

-- a REAL
abbrev pub notes_real : ℕ → Bool
notes_real number = number == universal.real

-- the last of these octets, or `previous` if there are none
abbrev pub last_octet_after : ℕ → List ℕ → ℕ
last_octet_after previous [] = previous
last_octet_after previous (x ∷ xs) = last_octet_after x xs

-- 8.19.2, 8.20.2: one of these octets is 80, and begins a subidentifier: bit 8 of the octet before it is clear. Before
-- the first of these octets is `previous`
abbrev pub is_padded_after : ℕ → List ℕ → Bool
is_padded_after previous [] = false
is_padded_after previous (x ∷ xs) = (nat_lt previous 0x80 && x == 0x80) || is_padded_after x xs

-- whether a subidentifier begins with 80, in the octets before or in these
abbrev pub is_padded_with : Bool → ℕ → List ℕ → Bool
is_padded_with is_padded previous octets = is_padded || is_padded_after previous octets

-- X.680 34: two octets / (2f) stand side by side in these octets, before which is `previous`. The label between them
-- is empty
abbrev pub has_empty_label_after : ℕ → List ℕ → Bool
has_empty_label_after previous [] = false
has_empty_label_after previous (x ∷ xs) = (previous == 0x2f && x == 0x2f) || has_empty_label_after x xs

-- whether a label is empty, in the octets before or in these
abbrev pub has_empty_label_with : Bool → ℕ → List ℕ → Bool
has_empty_label_with has_empty_label previous octets = has_empty_label || has_empty_label_after previous octets

-- the state with more octets noted: the first ones and the last, what must be known of each, the time, the units, or
-- what must be known of an OID-IRI
abbrev pub with_first_noted : ValueCheckState → List ℕ → ValueCheckState
with_first_noted s octets = record s {
  first_octets = take 2 (s.first_octets ++ octets);
  last = last_octet_after s.last octets;
}

abbrev pub with_each_noted : ValueCheckState → List ℕ → ValueCheckState
with_each_noted s octets = record s {
  are_octets_allowed = s.are_octets_allowed && list_all (allows_octet s.number) octets;
  is_padded = if has_rule rules.Subidentifiers s.number then is_padded_with s.is_padded s.last octets else s.is_padded;
  are_full_rows_utf8 =
      if s.number == universal.utf8_string
      then s.are_full_rows_utf8 && list_all is_utf8 (full_rows Utf8 s.row octets)
      else s.are_full_rows_utf8;
  row = if s.number == universal.utf8_string then open_row Utf8 s.row octets else s.row;
  last = last_octet_after s.last octets;
}

abbrev pub with_time_noted : ValueCheckState → List ℕ → ValueCheckState
with_time_noted s octets = record s { time = take 64 (s.time ++ octets) }

abbrev pub with_units_noted : ValueCheckState → List ℕ → ValueCheckState
with_units_noted s octets = record s {
  are_characters = s.are_characters && are_characters_after (character_size s.number) s.unit octets;
  unit = open_unit (character_size s.number) s.unit octets;
}

abbrev pub with_iri_noted : ValueCheckState → List ℕ → ValueCheckState
with_iri_noted s octets = record s {
  first_octets = take 2 (s.first_octets ++ octets);
  last = last_octet_after s.last octets;
  are_full_rows_utf8 = s.are_full_rows_utf8 && list_all is_utf8 (full_rows Utf8 s.row octets);
  row = open_row Utf8 s.row octets;
  has_empty_label = has_empty_label_with s.has_empty_label s.last octets;
}

abbrev pub with_real_noted : ValueCheckState → List ℕ → ValueCheckState
with_real_noted s octets = record s { real = real_check_after s.real octets }

-- the same, as the type needs it
abbrev pub with_octets_noted : ValueCheckState → List ℕ → ValueCheckState
with_octets_noted s octets =
    if notes_first s.number then with_first_noted s octets
    else if notes_each s.number then with_each_noted s octets
    else if notes_time s.number then with_time_noted s octets
    else if notes_units s.number then with_units_noted s octets
    else if notes_iri s.number then with_iri_noted s octets
    else if notes_real s.number then with_real_noted s octets
    else s

-- the state after more octets
abbrev pub value_check_after : ValueCheckState → List ℕ → ValueCheckState
value_check_after s octets =
    record (with_octets_noted s octets) { number = s.number; size = s.size; left = s.left - length octets }

-- the state after these contents octets of the primitive with this header
abbrev pub value_check_for : HeaderValue → List ℕ → ValueCheckState
value_check_for h octets = value_check_after (new_value_check h) octets

-- there is a first octet, and it is not 0
abbrev pub begins_nonzero : List ℕ → Bool
begins_nonzero [] = false
begins_nonzero (x ∷ octets) = not (x == 0)

-- 8.6.2.2: it is a BIT STRING whose first contents octet is not 0
abbrev pub has_unused_bits : ValueCheckState → Bool
has_unused_bits s = s.number == universal.bit_string && begins_nonzero s.first_octets

-- the type allows the characters
abbrev pub is_allowed : ValueCheckState → Bool
is_allowed s =
    (if s.number == universal.utf8_string then s.are_full_rows_utf8 && is_utf8 s.row
    else are_whole_characters s.number s.size)
    && s.are_octets_allowed

-- a DATE, TIME-OF-DAY or DATE-TIME is one
abbrev pub is_kept_date : ℕ → ValueCheckState → Bool
is_kept_date number s = nat_le s.size 64 && is_date_or_time number s.time

-- an OID-IRI begins with /, a RELATIVE-OID-IRI with another octet
abbrev pub begins_kept_iri : ℕ → ValueCheckState → Bool
begins_kept_iri number s =
    if number == universal.oid_iri
    then begins_with 0x2f s.first_octets
    else not (s.size == 0) && not (begins_with 0x2f s.first_octets)

-- an OID-IRI or RELATIVE-OID-IRI is UTF-8, and is made of labels: it begins as it has to, no label in it is empty, and
-- its last octet is not /
abbrev pub is_kept_iri : ℕ → ValueCheckState → Bool
is_kept_iri number s =
    (s.are_full_rows_utf8 && is_utf8 s.row)
    && (begins_kept_iri number s && (not s.has_empty_label && not (s.last == 0x2f)))

-- a UTCTime or GeneralizedTime, all of which is kept
abbrev pub is_kept_time : ℕ → ValueCheckState → Bool
is_kept_time number s = has_rule rules.TimeForm number && nat_le s.size 64

-- the conditions of `type_conditions` (AllChecks.antt), said of what is kept of the contents. The law `FindingsEnd`
-- says that the same is found
abbrev pub kept_conditions : ℕ → ValueCheckState → List (Finding × Bool)
kept_conditions number s =
    (B06, has_rule rules.OneOctet number && not (s.size == 1))
    ∷ (B07, has_rule rules.Shortest number && s.size == 0)
    ∷ (B08, has_rule rules.Shortest number && is_padded_integer s.first_octets)
    ∷ (B09, has_rule rules.NoOctets number && not (s.size == 0))
    ∷ (B10, number == universal.object_identifier && s.size == 0)
    ∷ (B11, has_rule rules.Subidentifiers number && s.is_padded)
    ∷ (B12, has_rule rules.Subidentifiers number && nat_le 128 s.last)
    ∷ (B13, has_rule rules.UnusedBits number && s.size == 0)
    ∷ (B14, has_rule rules.UnusedBits number && nat_lt 7 (first_octet s.first_octets))
    ∷ (
      B15,
      has_rule rules.UnusedBits number && s.size == 1
          && nat_le 1 (first_octet s.first_octets) && nat_le (first_octet s.first_octets) 7,
    )
    ∷ (B18, has_rule rules.Characters number && not (is_allowed s))
    ∷ (B19, is_kept_time number s && not (time_form number s.time))
    ∷ (B20, has_rule rules.RealForm number && not (is_of_form s.real))
    ∷ (B21, has_rule rules.DateForm number && not (is_kept_date number s))
    ∷ (B23, has_rule rules.IriForm number && not (is_kept_iri number s))
    ∷ (B24, number == universal.relative_oid && s.size == 0)
    ∷ (B25, is_among number wide_string_types && not s.are_characters)
    ∷ (
      B26,
      is_kept_time number s && time_form number s.time && not (time_has_day number s.time),
    )
    ∷ (B29, has_rule rules.RealForm number && is_zero s.real)
    ∷ (
      S02,
      has_rule rules.OneOctet number && s.size == 1
          && not (first_octet s.first_octets == 0 || first_octet s.first_octets == 0xff),
    )
    ∷ (
      S03,
      has_rule rules.UnusedBits number && nat_le 2 s.size && nat_le (first_octet s.first_octets) 7
          && not (s.last % 2 ^ first_octet s.first_octets == 0),
    )
    ∷ (
      S04,
      is_kept_time number s && time_form number s.time
          && not (canonical_form number s.time),
    )
    ∷ (S06, has_rule rules.RealForm number && is_of_form s.real && not (is_canonical s.real))
    ∷ []

-- the findings on the contents, at their end
abbrev pub findings_in : ValueCheckState → List Finding
findings_in s = findings_by (kept_conditions s.number s)
