-- Text beside pairs of digits, for tlvdump-show: the definitions of `Value` and of `ValueLines` that show pairs, with
-- what is added. A first argument `with_text` says whether the text is wanted.
use Rattle.std.specs.Prelude.{◌&&◌, Bool, true, false, if◌then◌else◌, nat_le, List, [], ◌∷◌, ◌++◌, ℕ, codes, decimal}
use Rattle.std.specs.Prelude.{flat_map, length, map}
use Rattle.std.specs.List.{join_by, list_all}
use Rattle.hex.specs.Hex.{encode_lower}
use Rattle.tlv_io.specs.LineTexts.{spaced_pairs}
use Rattle.tlv_head.specs.Header.{HeaderValue, announced_length}
use Rattle.tlv_head.specs.Kind.{is_text}
use Rattle.tlv_head.specs.Tag.{tag_text}
use Rattle.tlv_head.specs.declared.kind.Kind.{Kind}
use Rattle.tlv_value.specs.declared.layout.Layout.{Layout}
use Rattle.tlv_value.specs.Layout.{columns, inner_line, line, shown_rows}
use Rattle.tlv_value.specs.Units.{is_printable, quoted_text}
use Rattle.tlv_value.specs.Value.{InPairs, NameOf, OnLine, Value, Written, incomplete_value, is_long, whole_value}
use Rattle.tlv_value.specs.ValueLines.{has_line, header_kind}

-- three or more octets that are all printable ASCII, between bars and after two spaces; nothing for any other octets
abbrev pub text_behind : List ℕ → List ℕ
text_behind octets =
    if nat_le 3 (length octets) && list_all is_printable octets
    then codes "  |" ++ octets ++ codes "|"
    else []

-- the pairs of these octets, and the text beside them if it is wanted
abbrev pub pairs_with_text : Bool → List ℕ → List ℕ → List ℕ
pairs_with_text false octets pairs = pairs
pairs_with_text true octets pairs = pairs ++ text_behind octets

-- the text on the element's line: before each pair is a space
abbrev pub on_line_text_with : Bool → OnLine → List ℕ
on_line_text_with with_text (Written text) = text
on_line_text_with with_text (InPairs octets) = pairs_with_text with_text octets (spaced_pairs octets)

-- the text of a row: characters, or pairs of digits with spaces between them
abbrev pub row_text_with : Bool → Kind → List ℕ → List ℕ
row_text_with with_text kind row =
    if is_text kind then quoted_text kind row
    else pairs_with_text with_text row (join_by (λ x. encode_lower (x ∷ [])) (codes " ") row)

module _ (with_text : Bool) where
  -- the lines of the rows that are shown
  abbrev pub shown_row_lines_with : Kind → Layout → List (List ℕ) → List ℕ
  shown_row_lines_with kind layout rows =
      flat_map (inner_line layout) (shown_rows layout.limit (map (row_text_with with_text kind) rows))

  -- the element's line, with its offset, its length, its tag and its value, and the lines of its rows
  abbrev pub value_lines_with : HeaderValue → Layout → Value → List ℕ
  value_lines_with h layout value =
      line layout (columns h.offset (decimal (announced_length h.size)))
      (tag_text h.class h.number ++ on_line_text_with with_text value.on_line)
      ++ shown_row_lines_with (header_kind h) layout value.rows

  -- the lines of a primitive that is whole
  abbrev pub whole_lines_with : NameOf → HeaderValue → Layout → List ℕ → List ℕ
  whole_lines_with name_of h layout octets =
      value_lines_with h layout (whole_value name_of (header_kind h) octets)

  -- the lines of a primitive whose contents break off after these octets: none, unless the announced length is that of
  -- a long value and its line is known
  abbrev pub incomplete_lines_with : HeaderValue → Layout → List ℕ → List ℕ
  incomplete_lines_with h layout octets =
      if is_long (header_kind h) (announced_length h.size) && has_line (header_kind h) octets
      then value_lines_with h layout (incomplete_value (header_kind h) (announced_length h.size) octets)
      else []
