-- The characters of BMPString and UniversalString: X.690 8.23, ISO/IEC 10646; and what a type allows, octet by octet.
use Rattle.std.specs.Prelude.{ℕ, ◌%◌, Bool, true, ◌&&◌, ◌||◌, ◌==◌, nat_le, nat_lt, if◌then◌else◌, List, length}
use Rattle.std.specs.Prelude.{Option, Some, None}
use Rattle.std.specs.Option.{option_map_or}
use Rattle.std.specs.List.{list_any}
use Rattle.tlv_head.specs.Header.{value_of}
use Rattle.tlv_head.specs.UniversalTypes as universal
use Rattle.tlv_head.specs.declared.kind.Kind.TheVariants.{Ucs2, Ucs4}
use Rattle.tlv_value.specs.Checks.{is_digit_or_space, is_printable_string_octet}
use Rattle.tlv_value.specs.Units.{is_printable, units}

-- ISO/IEC 10646: a surrogate stands for no character, and 10ffff is the last number
abbrev pub is_no_character : ℕ → Bool
is_no_character number = (nat_le 0xd800 number && nat_le number 0xdfff) || nat_lt 0x10ffff number

-- the unit has this many octets, and their number is that of no character
abbrev pub is_wrong_unit : ℕ → List ℕ → Bool
is_wrong_unit size unit = length unit == size && is_no_character (value_of 256 unit)

-- a whole unit of the contents of a UniversalString or BMPString, the type with this number, is no character
abbrev pub has_wrong_unit : ℕ → List ℕ → Bool
has_wrong_unit number contents =
    if number == universal.bmp_string
    then list_any (is_wrong_unit 2) (units Ucs2 contents)
    else list_any (is_wrong_unit 4) (units Ucs4 contents)

-- ---- What `allows` of `Checks` says, of the number of octets and of each octet

-- the test that each octet of a string of the type with this number passes: NumericString, PrintableString, IA5String,
-- VisibleString. Other types have none
abbrev pub octet_test : ℕ → Option (ℕ → Bool)
octet_test number =
    if number == universal.numeric_string then Some is_digit_or_space
    else if number == universal.printable_string then Some is_printable_string_octet
    else if number == universal.ia5_string then Some (λ x. nat_lt x 128)
    else if number == universal.visible_string then Some is_printable
    else None

abbrev pub allows_octet : ℕ → ℕ → Bool
allows_octet number x = option_map_or (λ test. test x) (octet_test number) true

-- this number of octets makes whole characters: BMPString has two octets for each, UniversalString four
abbrev pub are_whole_characters : ℕ → ℕ → Bool
are_whole_characters number size =
    if number == universal.bmp_string then size % 2 == 0
    else if number == universal.universal_string then size % 4 == 0
    else true
