-- The lines of an object identifier of at most 64 octets, after the beginning of its element's line.
use Rattle.std.specs.Prelude.{ℕ, Bool, List, [], ◌∷◌, ◌++◌}
use Rattle.tlv_head.specs.declared.kind.Kind.TheVariants.{Octets}
use Rattle.tlv_value.specs.declared.layout.Layout.{Layout}
use Rattle.tlv_value.specs.TextBeside.{on_line_text_with, shown_row_lines_with}
use Rattle.tlv_value.specs.Value.{NameOf, Value, object_value, octets_value}

-- the rest of the line after the tag, and the rows below it. The first argument says whether text is beside pairs
abbrev pub rest_of_lines : Bool → Layout → Value → List ℕ
rest_of_lines with_text layout v =
    (on_line_text_with with_text v.on_line ++ 10 ∷ []) ++ shown_row_lines_with with_text Octets layout v.rows

-- the same, of octets that are shown as pairs of digits
abbrev pub octets_lines : Bool → Layout → List ℕ → List ℕ
octets_lines with_text layout octets = rest_of_lines with_text layout (octets_value octets)

-- the same, of an object identifier, or of a relative one
abbrev pub object_lines : Bool → NameOf → Layout → Bool → List ℕ → List ℕ
object_lines with_text name_of layout relative octets =
    rest_of_lines with_text layout (object_value name_of relative octets)
