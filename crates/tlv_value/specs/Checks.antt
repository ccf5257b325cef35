-- The findings on the contents of a primitive: X.690 8 and 11. These are the *listed* ones, which `tlvdump` reports;
-- `AllChecks` has those that only `tlvdump-show` reports. The conditions are at the end, and the terms that they use
-- before them.
use Rattle.std.specs.Prelude.{ℕ, ◌%◌, ◌^◌, Bool, false, ◌&&◌, ◌||◌, not, ◌==◌, nat_le, nat_lt}
use Rattle.std.specs.Prelude.{if◌then◌else◌, List, [], ◌∷◌, ◌++◌, flat_map, length}
use Rattle.std.specs.Prelude.{codes}
use Rattle.std.specs.Char.{is_ascii_alphabetic, is_ascii_digit}
use Rattle.std.specs.List.{list_all, list_any}
use Rattle.std.specs.Str.{is_utf8}
use Rattle.tlv_head.specs.Header.{HeaderValue, is_universal}
use Rattle.tlv_head.specs.UniversalTypes as universal
use Rattle.tlv_value.specs.declared.finding.Finding.{Finding}
use Rattle.tlv_value.specs.declared.finding.Finding.TheVariants.{B06, B07, B08, B09, B10, B11, B12, B13, B14}
use Rattle.tlv_value.specs.declared.finding.Finding.TheVariants.{B15, B18, B19, S02, S03, S04}
use Rattle.tlv_value.specs.Arcs.{parts_of}
pub use Rattle.tlv_value.specs.ContentsOctets.{first_octet, is_padded_integer, last_octet}
use Rattle.tlv_value.specs.Times as times
use Rattle.tlv_head.specs.declared.type_table.Rule.TheVariants as rules
use Rattle.tlv_value.specs.Types.{has_rule}
use Rattle.tlv_value.specs.Units.{is_printable}

-- the first octet is this one
abbrev pub begins_with : ℕ → List ℕ → Bool
begins_with octet [] = false
begins_with octet (x ∷ xs) = x == octet

-- X.680 41.2
abbrev pub is_digit_or_space : ℕ → Bool
is_digit_or_space x = x == 0x20 || is_ascii_digit x

-- X.680 41.4
abbrev pub is_printable_string_octet : ℕ → Bool
is_printable_string_octet x =
    is_digit_or_space x || is_ascii_alphabetic x || list_any (λ y. x == y) (codes "'()+,-./:=?")

-- X.680 41: the contents that a type of characters allows, a row for each type that is looked at: those whose rule is
-- `Characters`. A BMPString has two octets for each character, a UniversalString four
abbrev pub allowed_contents : List (ℕ × (List ℕ → Bool))
allowed_contents =
    (universal.utf8_string, is_utf8)
    ∷ (universal.numeric_string, list_all is_digit_or_space)
    ∷ (universal.printable_string, list_all is_printable_string_octet)
    ∷ (universal.ia5_string, list_all (λ x. nat_lt x 128))
    ∷ (universal.visible_string, list_all is_printable)
    ∷ (universal.universal_string, λ contents. length contents % 4 == 0)
    ∷ (universal.bmp_string, λ contents. length contents % 2 == 0)
    ∷ []

-- the type with this number allows the contents, or has no row
abbrev pub allows : ℕ → List ℕ → Bool
allows number contents = list_all (λ row. not (number == row.0) || row.1 contents) allowed_contents

-- 8.25: a UTCTime or GeneralizedTime of at most 64 octets; the form of a longer one is not checked
abbrev pub is_short_time : ℕ → List ℕ → Bool
is_short_time number contents = has_rule rules.TimeForm number && nat_le (length contents) 64

abbrev pub time_form : ℕ → times.Form
time_form number = if number == universal.utc_time then times.utc_time_form else times.generalized_time_form

abbrev pub canonical_form : ℕ → times.Form
canonical_form number =
    if number == universal.utc_time then times.canonical_utc_time_form else times.canonical_generalized_time_form

-- ---- The findings

-- of findings that are given with their conditions: those whose conditions hold, in the same order
abbrev pub findings_by : List (Finding × Bool) → List Finding
findings_by rows = flat_map (λ row. if row.1 then row.0 ∷ [] else []) rows

-- the listed findings of the letter B (rules of all encodings), each beside its condition, for a primitive: `number` is
-- that of its universal type. Each comment gives the rule; the condition holds if the contents break it
abbrev pub listed_basic_type_conditions : ℕ → List ℕ → List (Finding × Bool)
listed_basic_type_conditions number contents =
    -- B06, 8.2.1: a BOOLEAN has one octet
    (B06, has_rule rules.OneOctet number && not (length contents == 1))
    -- B07, 8.3.1, 8.4: an INTEGER or ENUMERATED has one octet or more
    ∷ (B07, has_rule rules.Shortest number && length contents == 0)
    -- B08, 8.3.2, 8.4: its first nine bits are not all equal
    ∷ (B08, has_rule rules.Shortest number && is_padded_integer contents)
    -- B09, 8.8.2: a NULL has no octets
    ∷ (B09, has_rule rules.NoOctets number && not (length contents == 0))
    -- B10, 8.19.2, 8.19.3: an OBJECT IDENTIFIER has two arcs or more, so one subidentifier or more
    ∷ (B10, number == universal.object_identifier && length contents == 0)
    -- B11, 8.19.2, 8.20.2: no subidentifier begins with 80
    ∷ (B11, has_rule rules.Subidentifiers number && list_any (begins_with 0x80) (parts_of contents))
    -- B12, 8.19.2, 8.20.2: bit 8 is clear in the last octet of a subidentifier
    ∷ (B12, has_rule rules.Subidentifiers number && nat_le 128 (last_octet contents))
    -- B13, 8.6.2: a BIT STRING has a first octet, the number of unused bits
    ∷ (B13, has_rule rules.UnusedBits number && length contents == 0)
    -- B14, 8.6.2.2: the number of unused bits is at most 7
    ∷ (B14, has_rule rules.UnusedBits number && nat_lt 7 (first_octet contents))
    -- B15, 8.6.2.3: the number of unused bits is 0 if no other octet follows. For a number above 7 there is only B14
    ∷ (
      B15,
      has_rule rules.UnusedBits number && length contents == 1
          && nat_le 1 (first_octet contents) && nat_le (first_octet contents) 7,
    )
    -- B18, X.680 41: a string of characters has only characters that its type allows. Of a BMPString and a
    -- UniversalString only the length is looked at here: it is that of whole characters. A
    -- TeletexString, VideotexString, GraphicString, GeneralString or ObjectDescriptor is not looked at
    ∷ (B18, not (allows number contents))
    -- B19, X.680 46, 47: a time of at most 64 octets follows the grammar of its type, as `Times` has it
    ∷ (B19, is_short_time number contents && not (time_form number contents))
    ∷ []

-- the same for the letter S: the rules of DER and of CER
abbrev pub listed_strict_type_conditions : ℕ → List ℕ → List (Finding × Bool)
listed_strict_type_conditions number contents =
    -- S02, 11.1: TRUE is ff
    (
      S02,
      has_rule rules.OneOctet number && length contents == 1
          && not (first_octet contents == 0 || first_octet contents == 0xff),
    )
    -- S03, 11.2.1: unused bits, the last bits of the last octet, are 0
    ∷ (
      S03,
      has_rule rules.UnusedBits number && nat_le 2 (length contents) && nat_le (first_octet contents) 7
          && not (last_octet contents % 2 ^ first_octet contents == 0),
    )
    -- S04, 11.7, 11.8: a time of at most 64 octets that follows the grammar of its type is in the canonical form, as
    -- `Times` has it
    ∷ (
      S04,
      is_short_time number contents && time_form number contents
          && not (canonical_form number contents),
    )
    ∷ []

-- all of these, in the order of the codes
abbrev pub listed_type_conditions : ℕ → List ℕ → List (Finding × Bool)
listed_type_conditions number contents =
    listed_basic_type_conditions number contents ++ listed_strict_type_conditions number contents

-- the same, of a primitive with this header. There are none if its class is not universal
abbrev pub listed_contents_conditions : HeaderValue → List ℕ → List (Finding × Bool)
listed_contents_conditions h contents =
    if is_universal h.class then listed_type_conditions h.number contents else []
