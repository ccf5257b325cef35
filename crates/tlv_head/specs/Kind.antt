-- How the contents of a primitive are shown, by its tag: X.680, table 1.
use Rattle.std.specs.Prelude.{ℕ, Bool, true, false}
use Rattle.std.specs.Option.{option_map_or}
use Rattle.tlv_head.specs.TypeTable.{type_at}
use Rattle.tlv_head.specs.declared.header.Class.{Class}
use Rattle.tlv_head.specs.declared.header.Class.TheVariants.{Universal}
use Rattle.tlv_head.specs.declared.kind.Kind.{Kind}
use Rattle.tlv_head.specs.declared.kind.Kind.TheVariants.{Octets, Text, Utf8, Ucs2, Ucs4}

-- how the contents of a primitive with this tag are shown: as the table says, and as pairs of digits if it does not
-- know the tag
abbrev pub kind_of : Class → ℕ → Kind
kind_of Universal number = option_map_or (λ t. t.kind) (type_at number) Octets
kind_of _ number = Octets

-- strings of characters
abbrev pub is_text : Kind → Bool
is_text Text = true
is_text Utf8 = true
is_text Ucs2 = true
is_text Ucs4 = true
is_text _ = false
