-- Where a row is, and the lines of rows of pairs of digits; pairs, and bits, as texts.
use Rattle.std.specs.Prelude.{ℕ, ◌+◌, ◌*◌, Bool, if◌then◌else◌, List, [], ◌∷◌, codes, flat_map, map}
use Rattle.std.specs.List.{join_by}
use Rattle.hex.specs.Hex.{encode_lower}
use Rattle.tlv_head.specs.declared.kind.Kind.TheVariants.{Octets}
use Rattle.tlv_value.specs.declared.layout.Layout.{Layout}
use Rattle.tlv_value.specs.Layout.{blank_columns, inner_line, margin}
use Rattle.tlv_value.specs.TextBeside.{row_text_with}

-- the number of spaces before a row
abbrev pub row_indent : Layout → ℕ
row_indent layout = (if layout.pure then 0 else 17) + 2 * (layout.level + 1)

-- what is before the text of a row
abbrev pub row_margin : Layout → List ℕ
row_margin layout = margin (record layout { level = layout.level + 1 }) blank_columns

-- the line of a row of pairs of digits, if there is no limit to rows. The first argument says whether text is beside
-- them
abbrev pub pair_row_line : Bool → Layout → List ℕ → List ℕ
pair_row_line with_text layout row = inner_line layout (row_text_with with_text Octets row)

abbrev pub pair_row_lines : Bool → Layout → List (List ℕ) → List ℕ
pair_row_lines with_text layout rows = flat_map (pair_row_line with_text layout) rows

-- pairs of digits with spaces between them
abbrev pub joined_pairs : List ℕ → List ℕ
joined_pairs octets = join_by (λ x. encode_lower (x ∷ [])) (codes " ") octets

-- bits as digits: 30 is the digit 0
abbrev pub digits_of_bits : List ℕ → List ℕ
digits_of_bits bits = map (λ bit. 0x30 + bit) bits
