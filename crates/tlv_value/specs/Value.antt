-- The text of a value on its element's line, and its rows.
use Rattle.std.specs.Prelude.{◌==◌, ℕ, ◌+◌, ◌-◌, ◌*◌, Bool, true, false, ◌&&◌, ◌||◌, not, nat_le, nat_lt}
use Rattle.std.specs.Prelude.{if◌then◌else◌, List, [], ◌∷◌, ◌++◌, length, map, take, Option, None, codes}
use Rattle.std.specs.Prelude.{decimal}
use Rattle.std.specs.Fmt.{signed_decimal}
use Rattle.std.specs.List.{join_by}
use Rattle.std.specs.Option.{option_map_or}
use Rattle.hex.specs.Hex.{encode_lower}
pub use Rattle.tlv_io.specs.LineTexts.{spaced_pairs}
use Rattle.tlv_head.specs.declared.kind.Kind.{Kind}
use Rattle.tlv_head.specs.declared.kind.Kind.TheVariants.{Boolean, Integer, Bits, Object, Octets, Relative}
use Rattle.tlv_value.specs.Arcs.{dotted_of}
use Rattle.tlv_value.specs.Bits.{bits_of}
use Rattle.tlv_head.specs.Kind.{is_text}
use Rattle.tlv_value.specs.Number.{twos_complement}
use Rattle.tlv_value.specs.RowSizes.{row_size}
use Rattle.tlv_value.specs.Rows.{full_rows_in, rows_of}
use Rattle.tlv_value.specs.Units.{quoted_text}

-- what a line has after the tag text: a text that begins with a space, or nothing (`Written`), or octets that are shown
-- as pairs of digits
pub data OnLine : Type 0 where
  Written : (text : List ℕ) → OnLine
  InPairs : (octets : List ℕ) → OnLine

-- what the element's line has after the tag text, and the octets of each row below it
pub record Value : Type 0 where
  pub on_line : OnLine
  pub rows : List (List ℕ)

-- names of object identifiers, by their dotted texts
abbrev pub NameOf : Type 0
NameOf = List ℕ → Option (List ℕ)

abbrev pub value_on_line : List ℕ → Value
value_on_line text = record { on_line = Written (0x20 ∷ text); rows = [] }

-- ---- Kind by kind. What cannot be read is shown as octets.

-- up to 16 octets are on the line
abbrev pub octets_value : List ℕ → Value
octets_value octets =
    if nat_le (length octets) 16
    then record { on_line = InPairs octets; rows = [] }
    else record { on_line = Written []; rows = rows_of Octets octets }

-- 8.2.2: FALSE is zero
abbrev pub boolean_value : List ℕ → Value
boolean_value (x ∷ []) = value_on_line (if x == 0 then codes "FALSE" else codes "TRUE")
boolean_value octets = octets_value octets

-- 8.3.3, 8.4; without octets nothing is on the line
abbrev pub integer_value : List ℕ → Value
integer_value [] = record { on_line = Written []; rows = [] }
integer_value (x ∷ xs) = value_on_line (signed_decimal (twos_complement (x ∷ xs)))

-- the number of bits in this number of octets, without the unused bits
abbrev pub bit_count_text : ℕ → ℕ → List ℕ
bit_count_text unused_bits octet_count = decimal (8 * octet_count - unused_bits) ++ codes " bits"

-- 8.6.2: the number of unused bits is at most 7, and 0 if there is no octet for them
abbrev pub is_unused_count : ℕ → ℕ → Bool
is_unused_count unused_bits octet_count = nat_le unused_bits 7 && (unused_bits == 0 || not (octet_count == 0))

-- 8.6.2.1: nothing without octets; otherwise a space, and the bits of the octets as digits, without the unused bits: 30
-- is the digit 0
abbrev pub used_digits : ℕ → List ℕ → List ℕ
used_digits unused_bits [] = []
used_digits unused_bits octets =
    0x20 ∷ map (λ bit. 0x30 + bit) (take (8 * length octets - unused_bits) (bits_of octets))

-- 8.6.2: the first octet is the number of unused bits in the last one
abbrev pub bits_value : List ℕ → Value
bits_value [] = octets_value []
bits_value (unused_bits ∷ octets) =
    if is_unused_count unused_bits (length octets)
    then value_on_line (bit_count_text unused_bits (length octets) ++ used_digits unused_bits octets)
    else octets_value (unused_bits ∷ octets)

-- a name after its object identifier
abbrev pub name_text : Option (List ℕ) → List ℕ
name_text name = option_map_or (λ text. codes " (" ++ text ++ codes ")") name []

-- no text has a name: relative object identifiers have none
abbrev pub no_names : NameOf
no_names text = None

-- 8.19; 8.20 for one that is relative
abbrev pub object_value : NameOf → Bool → List ℕ → Value
object_value name_of relative octets =
    option_map_or (λ text. value_on_line (text ++ name_text (name_of text)))
    (dotted_of relative octets) (octets_value octets)

-- ---- Of any kind

-- contents of up to this many octets are not *long*: they are read as a whole, and what they say is on the element's
-- line. If they cannot be read, `octets_value` shows them: on the line up to 16 octets, otherwise in rows. Long
-- contents are always in rows. 9 in a BIT STRING: the first octet, and eight octets of bits
abbrev pub most_not_long : Kind → ℕ
most_not_long Bits = 9
most_not_long Object = 64
most_not_long Relative = 64
most_not_long kind = row_size kind

-- contents of n octets are long
abbrev pub is_long : Kind → ℕ → Bool
is_long kind n = nat_lt (most_not_long kind) n

-- the value of contents that are not long
abbrev pub short_value : NameOf → Kind → List ℕ → Value
short_value name_of Boolean octets = boolean_value octets
short_value name_of Integer octets = integer_value octets
short_value name_of Bits octets = bits_value octets
short_value name_of Object octets = object_value name_of false octets
short_value name_of Relative octets = object_value no_names true octets
short_value name_of kind octets =
    if is_text kind then value_on_line (quoted_text kind octets) else octets_value octets

-- 8.6.2: the text after the tag of a long value: the number of bits for a BIT STRING with at most 7 unused bits, and
-- nothing for any other value. `size` is the announced length, also if fewer octets are there. It is above 9
-- (`is_long`), so octets are announced after the first one, and the condition `is_unused_count` is just "at most 7"
abbrev pub long_text : Kind → ℕ → List ℕ → List ℕ
long_text Bits size (unused_bits ∷ octets) =
    if nat_le unused_bits 7 then 0x20 ∷ bit_count_text unused_bits (size - 1) else []
long_text kind size octets = []

-- the octets that are shown in rows: of a BIT STRING with at most 7 unused bits those after the first octet, and of
-- anything else all
abbrev pub row_octets : Kind → List ℕ → List ℕ
row_octets Bits (unused_bits ∷ octets) = if nat_le unused_bits 7 then octets else unused_bits ∷ octets
row_octets kind octets = octets

-- the value of long contents
abbrev pub long_value : Kind → List ℕ → Value
long_value kind octets = record {
  on_line = Written (long_text kind (length octets) octets);
  rows = rows_of kind (row_octets kind octets);
}

-- the value of whole contents
abbrev pub whole_value : NameOf → Kind → List ℕ → Value
whole_value name_of kind octets =
    if is_long kind (length octets) then long_value kind octets else short_value name_of kind octets

-- the value of long contents that break off: `octets` are there, and the header announces `size`. The last row is left
-- out unless it is full
abbrev pub incomplete_value : Kind → ℕ → List ℕ → Value
incomplete_value kind size octets = record {
  on_line = Written (long_text kind size octets);
  rows = full_rows_in kind (rows_of kind (row_octets kind octets));
}

-- ---- As text

-- the text on the element's line: before each pair is a space
abbrev pub on_line_text : OnLine → List ℕ
on_line_text (Written text) = text
on_line_text (InPairs octets) = spaced_pairs octets

-- the text of a row: characters, or pairs of digits with spaces between them
abbrev pub row_text : Kind → List ℕ → List ℕ
row_text kind row =
    if is_text kind then quoted_text kind row else join_by (λ x. encode_lower (x ∷ [])) (codes " ") row
