-- Without text beside pairs of digits, the definitions that have it are those of `Value` and `ValueLines`.
use Rattle.std.proofs.Common.{◌≡◌, ℕ, ◌&&◌, ◌++◌, if◌then◌else◌, Bool, false, List, [], ◌∷◌, refl, ap}
use Rattle.std.specs.Prelude.{decimal}
use Rattle.tlv_head.specs.Header.{HeaderValue, announced_length}
use Rattle.tlv_head.specs.Tag.{tag_text}
use Rattle.tlv_head.specs.declared.kind.Kind.{Kind}
use Rattle.tlv_value.specs.declared.layout.Layout.{Layout}
use Rattle.tlv_value.specs.Layout.{columns, line}
use Rattle.tlv_value.specs.Private.UndottedText.{integer_text}
use Rattle.tlv_value.specs.TextBeside.{incomplete_lines_with, on_line_text_with, shown_row_lines_with, value_lines_with}
use Rattle.tlv_value.specs.TextBeside.{whole_lines_with}
use Rattle.tlv_value.specs.Value.{InPairs, NameOf, OnLine, Value, Written, incomplete_value, integer_value, is_long}
use Rattle.tlv_value.specs.Value.{on_line_text, whole_value}
use Rattle.tlv_value.specs.ValueLines.{has_line, header_kind, incomplete_lines, shown_row_lines, value_lines, whole_lines}

on_line-without : (v : OnLine) → on_line_text_with false v ≡ on_line_text v
on_line-without (Written text) = refl
on_line-without (InPairs octets) = refl

rows-without : (kind : Kind) (layout : Layout) (rows : List (List ℕ))
    → shown_row_lines_with false kind layout rows ≡ shown_row_lines kind layout rows
rows-without kind layout rows = refl

value-without : (h : HeaderValue) (layout : Layout) (value : Value)
    → value_lines_with false h layout value ≡ value_lines h layout value
value-without h layout value =
    ap (λ (text : List ℕ). line layout (columns h.offset (decimal (announced_length h.size)))
    (tag_text h.class h.number ++ text) ++ shown_row_lines (header_kind h) layout value.rows)
    (on_line-without value.on_line)

pub whole-without : (name_of : NameOf) (h : HeaderValue) (layout : Layout) (octets : List ℕ)
    → whole_lines_with false name_of h layout octets ≡ whole_lines name_of h layout octets
whole-without name_of h layout octets = value-without h layout (whole_value name_of (header_kind h) octets)

pub incomplete-without : (h : HeaderValue) (layout : Layout) (octets : List ℕ)
    → incomplete_lines_with false h layout octets ≡ incomplete_lines h layout octets
incomplete-without h layout octets =
    ap (λ (lines : List ℕ). if is_long (header_kind h) (announced_length h.size) && has_line (header_kind h) octets
    then lines else [])
    (value-without h layout (incomplete_value (header_kind h) (announced_length h.size) octets))

-- the text of an integer has no pairs
pub integer-on_line : (with_text : Bool) (octets : List ℕ)
    → on_line_text_with with_text (integer_value octets).on_line ≡ integer_text octets
integer-on_line with_text [] = refl
integer-on_line with_text (x ∷ xs) = refl
