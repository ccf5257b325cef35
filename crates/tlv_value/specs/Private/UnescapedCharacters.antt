-- Characters in a row: the ones written as they are, and what is written for the first ones.
use Rattle.std.specs.Prelude.{◌==◌, ◌≡◌, ℕ, ◌<◌, ◌≤◌, Bool, true, false, ◌&&◌, ◌||◌, not, List, ◌++◌, drop, length}
use Rattle.std.specs.Prelude.{flat_map, slice_index}
use Rattle.tlv_io.specs.LineTexts.{AddsIfRoom}
use Rattle.tlv_head.specs.declared.kind.Kind.{Kind}
use Rattle.tlv_head.specs.declared.kind.Kind.TheVariants.{Text, Utf8}
use Rattle.tlv_value.specs.Units.{is_printable, unit_text, units}

-- a printable character of ASCII that is neither the quotation mark nor the reverse solidus
abbrev pub is_unescaped : ℕ → Bool
is_unescaped x = is_printable x && not (x == 0x22 || x == 0x5c)

-- a character of ASCII has one octet in contents of this kind
abbrev pub has_ascii_octets : Kind → Bool
has_ascii_octets Text = true
has_ascii_octets Utf8 = true
has_ascii_octets _ = false

-- the count is the number of some of these octets, at least one
pub record IsSomeOf (count : ℕ) (octets : List ℕ) : Type 0 where
  pub some : 1 ≤ count
  pub within : count ≤ length octets

-- the first n of the octets are such characters
abbrev pub AreUnescaped : Kind → List ℕ → ℕ → Type 0
AreUnescaped kind octets n =
    (0 < n → has_ascii_octets kind ≡ true) × ((i : ℕ) → i < n → is_unescaped (slice_index octets i) ≡ true)

-- the first n of the octets were written after what was held, if there is room
abbrev pub IsPart : Kind → List ℕ → List ℕ → List ℕ → ℕ → Type 0
IsPart kind octets old new n =
    (text : List ℕ) × AddsIfRoom old new text
    × (flat_map (unit_text kind) (units kind octets)
    ≡ text ++ flat_map (unit_text kind) (units kind (drop n octets)))
