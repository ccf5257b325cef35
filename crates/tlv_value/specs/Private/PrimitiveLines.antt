-- The lines of a primitive, from what its header says of it.
use Rattle.std.specs.Prelude.{ℕ, List, [], ◌∷◌, ◌++◌, decimal}
use Rattle.tlv_head.specs.Tag.{tag_text}
use Rattle.tlv_head.specs.declared.kind.Kind.TheVariants.{Bits}
use Rattle.tlv_value.specs.declared.primitive.Primitive.{Primitive}
use Rattle.tlv_value.specs.Layout.{columns, margin}
use Rattle.tlv_value.specs.Value.{NameOf, long_text}
use Rattle.tlv_value.specs.ValueTextState.{ValueTextState, begin_lines, contents_lines, end_lines, primitive_line}
use Rattle.tlv_value.specs.ValueTextState.{value_text_after}

-- the beginning of its line, up to its tag
abbrev pub line_prefix : Primitive → List ℕ
line_prefix p = margin p.layout (columns p.offset (decimal p.size)) ++ tag_text p.class p.number

-- the line of a long BIT STRING, which is known from its first contents octet
abbrev pub bits_line : Primitive → ℕ → List ℕ
bits_line p unused_bits = primitive_line p (long_text Bits p.size (unused_bits ∷ []))

-- the lines that are known with the header, with all contents, and with the end
abbrev pub lines_in_steps : NameOf → ValueTextState → List ℕ → List ℕ
lines_in_steps name_of s octets =
    begin_lines s ++ (contents_lines s octets ++ end_lines name_of (value_text_after s octets))
