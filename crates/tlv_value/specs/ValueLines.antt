-- The lines of a primitive that is whole, and of one that is incomplete: its contents break off before the announced
-- length, since the input ends, a read fails, or the input is too long.
use Rattle.std.specs.Prelude.{◌&&◌, Bool, true, false, if◌then◌else◌, List, [], ◌++◌, ℕ, decimal, flat_map, map}
use Rattle.tlv_head.specs.Header.{HeaderValue, announced_length}
use Rattle.tlv_head.specs.Tag.{tag_text}
use Rattle.tlv_head.specs.declared.kind.Kind.{Kind}
use Rattle.tlv_head.specs.declared.kind.Kind.TheVariants.{Bits}
use Rattle.tlv_value.specs.declared.layout.Layout.{Layout}
use Rattle.tlv_head.specs.Kind.{kind_of}
use Rattle.tlv_value.specs.Layout.{columns, inner_line, line, shown_rows}
use Rattle.tlv_value.specs.Value.{NameOf, Value, incomplete_value, is_long, on_line_text, row_text, whole_value}

-- the kind of the element's type
abbrev pub header_kind : HeaderValue → Kind
header_kind h = kind_of h.class h.number

-- the line of a long value is known from the header; for a BIT STRING, whose line shows the number of bits, only with
-- the first contents octet
abbrev pub has_line : Kind → List ℕ → Bool
has_line Bits [] = false
has_line kind octets = true

-- the lines of the rows that are shown
abbrev pub shown_row_lines : Kind → Layout → List (List ℕ) → List ℕ
shown_row_lines kind layout rows = flat_map (inner_line layout) (shown_rows layout.limit (map (row_text kind) rows))

-- the element's line, with its offset, its length, its tag and its value, and the lines of its rows:
--        4     20: OCTET STRING
--                    00 01 02 03 04 05 06 07 08 09 0a 0b 0c 0d 0e 0f
--                    10 11 12 13
abbrev pub value_lines : HeaderValue → Layout → Value → List ℕ
value_lines h layout value =
    let first_columns = columns h.offset (decimal (announced_length h.size)) in
    let text = tag_text h.class h.number ++ on_line_text value.on_line in
    line layout first_columns text ++ shown_row_lines (header_kind h) layout value.rows

-- the lines of a primitive that is whole
abbrev pub whole_lines : NameOf → HeaderValue → Layout → List ℕ → List ℕ
whole_lines name_of h layout octets = value_lines h layout (whole_value name_of (header_kind h) octets)

-- the lines of a primitive whose contents break off after these octets: none, unless the announced length is that of a
-- long value and its line is known
abbrev pub incomplete_lines : HeaderValue → Layout → List ℕ → List ℕ
incomplete_lines h layout octets =
    if is_long (header_kind h) (announced_length h.size) && has_line (header_kind h) octets
    then value_lines h layout (incomplete_value (header_kind h) (announced_length h.size) octets)
    else []
