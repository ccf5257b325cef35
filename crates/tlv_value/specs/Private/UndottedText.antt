-- The text of a value on its element's line, if an object identifier is shown in hexadecimal.
use Rattle.std.specs.Fmt.{signed_decimal}
use Rattle.std.specs.Prelude.{ℕ, Bool, List, [], ◌∷◌}
use Rattle.tlv_head.specs.declared.kind.Kind.{Kind}
use Rattle.tlv_head.specs.declared.kind.Kind.TheVariants.{Integer, Object, Octets, Relative}
use Rattle.tlv_value.specs.Number.{twos_complement}
use Rattle.tlv_value.specs.Value.{no_names, short_value, spaced_pairs}
use Rattle.tlv_value.specs.TextBeside.{on_line_text_with, pairs_with_text}

-- pairs of digits after spaces, with text beside them or without it
abbrev pub line_pairs : Bool → List ℕ → List ℕ
line_pairs with_text octets = pairs_with_text with_text octets (spaced_pairs octets)

-- the text of an INTEGER or ENUMERATED: a number after a space, or nothing if there are no octets
abbrev pub integer_text : List ℕ → List ℕ
integer_text [] = []
integer_text (x ∷ xs) = 0x20 ∷ signed_decimal (twos_complement (x ∷ xs))

abbrev pub undotted_text : Bool → Kind → List ℕ → List ℕ
undotted_text with_text Octets octets = line_pairs with_text octets
undotted_text with_text Object octets = line_pairs with_text octets
undotted_text with_text Relative octets = line_pairs with_text octets
undotted_text with_text Integer octets = integer_text octets
undotted_text with_text kind octets = on_line_text_with with_text (short_value no_names kind octets).on_line
