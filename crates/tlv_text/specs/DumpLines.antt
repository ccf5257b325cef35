-- Lines of a hex dump, and the kind of each.
use Rattle.std.specs.Prelude.{ℕ, ◌+◌, ◌-◌, ◌*◌, ◌==◌, Bool, true, false, ◌&&◌, ◌||◌, not, if◌then◌else◌, nat_le, nat_lt}
use Rattle.std.specs.Prelude.{List, [], ◌∷◌, length, slice_index, take, Option, Some, None}
use Rattle.std.specs.List.{list_all}
use Rattle.hex.specs.Hex.{is_hex_digit}
use Rattle.tlv_text.specs.Pairs.{hex_value}
use Rattle.tlv_text.specs.declared.dump.lines.Radix.{Radix}
use Rattle.tlv_text.specs.declared.dump.lines.Radix.TheVariants.{Hexadecimal, Octal}

-- the characters of a line, without its line feed, and the number of characters of the text from the line on
pub record TextLine : Type 0 where
  pub characters : List ℕ
  pub left : ℕ

abbrev pub new_text_line : List ℕ → ℕ → TextLine
new_text_line characters left = record { characters = characters; left = left }

-- a character in front of a line
abbrev pub into_line : ℕ → ℕ → List TextLine → List TextLine
into_line x left [] = new_text_line (x ∷ []) left ∷ []
into_line x left (line ∷ lines) = new_text_line (x ∷ line.characters) left ∷ lines

-- each line ends with a line feed, or with the text
abbrev pub dump_lines : List ℕ → List TextLine
dump_lines [] = []
dump_lines (x ∷ text) =
    if x == 10 then new_text_line [] (length (x ∷ text)) ∷ dump_lines text
    else into_line x (length (x ∷ text)) (dump_lines text)

-- a carriage return at a line's end is dropped
abbrev pub without_return : List ℕ → List ℕ
without_return line =
    if slice_index line (length line - 1) == 13 then take (length line - 1) line else line

-- ---- what a line is

-- a space or a tab
abbrev pub is_dump_blank : ℕ → Bool
is_dump_blank x = (x == 32) || (x == 9)

abbrev pub after_blanks : List ℕ → List ℕ
after_blanks [] = []
after_blanks (x ∷ text) = if is_dump_blank x then after_blanks text else x ∷ text

abbrev pub is_digit_of : Radix → ℕ → Bool
is_digit_of Hexadecimal x = is_hex_digit x
is_digit_of Octal x = nat_le 48 x && nat_le x 55

abbrev pub base : Radix → ℕ
base Hexadecimal = 16
base Octal = 8

-- the digits read from a text: their count, at most 16, and their value; the rest comes after them
pub record OffsetRead : Type 0 where
  pub count : ℕ
  pub number : ℕ
  pub rest : List ℕ

-- the same after `count` digits with this value
abbrev pub offset_read : Radix → ℕ → ℕ → List ℕ → OffsetRead
offset_read radix count number [] = record { count = count; number = number; rest = [] }
offset_read radix count number (x ∷ text) =
    if nat_lt count 16 && is_digit_of radix x then
    offset_read radix (count + 1) (number * base radix + hex_value x) text
    else record { count = count; number = number; rest = x ∷ text }

-- the text after a leading `0x` or `0X`, if it has one
abbrev pub after_prefix : List ℕ → List ℕ
after_prefix (x ∷ y ∷ text) = if (x == 48) && ((y == 120) || (y == 88)) then text else x ∷ y ∷ text
after_prefix text = text

-- a colon comes first
abbrev pub begins_colon : List ℕ → Bool
begins_colon [] = false
begins_colon (x ∷ text) = x == 58

-- the end, a colon or a blank
abbrev pub ends_offset : List ℕ → Bool
ends_offset [] = true
ends_offset (x ∷ text) = (x == 58) || is_dump_blank x

-- a row has an offset with this number of digits, and a rest after it
pub record RowRead : Type 0 where
  pub digits : ℕ
  pub offset : ℕ
  pub rest : List ℕ

-- 4 digits or more
abbrev pub row_of : OffsetRead → Option RowRead
row_of read =
    if nat_le 4 read.count && ends_offset read.rest then
    Some (record { digits = read.count; offset = read.number; rest = read.rest })
    else None

abbrev pub row_at : Radix → List ℕ → Option RowRead
row_at radix text = row_of (offset_read radix 0 0 (after_prefix text))

pub data LineKind : Type 0 where
  blank : LineKind
  repeat : LineKind
  row : RowRead → LineKind
  other : LineKind

abbrev pub row_or_other : Option RowRead → LineKind
row_or_other (Some r) = LineKind.row r
row_or_other None = LineKind.other

-- what a line is, given its text from the first character that is not a blank; 42 is `*`
abbrev pub kind_from : Radix → List ℕ → LineKind
kind_from radix [] = LineKind.blank
kind_from radix (x ∷ text) =
    if (x == 42) && list_all is_dump_blank text then LineKind.repeat else row_or_other (row_at radix (x ∷ text))

abbrev pub line_kind : Radix → List ℕ → LineKind
line_kind radix line = kind_from radix (after_blanks (without_return line))

-- a row whose offset has seven digits and no colon after it
abbrev pub has_od_offset : LineKind → Bool
has_od_offset LineKind.blank = false
has_od_offset LineKind.repeat = false
has_od_offset (LineKind.row r) = (r.digits == 7) && not (begins_colon r.rest)
has_od_offset LineKind.other = false
