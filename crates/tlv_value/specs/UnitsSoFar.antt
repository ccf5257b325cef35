-- Units of a BMPString or UniversalString as octets come. A `ValueCheck` keeps the octets of the unit that has begun
-- from one piece of contents to the next.
use Rattle.std.specs.Prelude.{ℕ, ◌+◌, Bool, true, ◌&&◌, not, ◌==◌, if◌then◌else◌, List, [], ◌∷◌, ◌++◌, length}
use Rattle.tlv_head.specs.UniversalTypes as universal
use Rattle.tlv_value.specs.Characters.{is_wrong_unit}

-- how many octets a character of the type with this number has
abbrev pub character_size : ℕ → ℕ
character_size number = if number == universal.bmp_string then 2 else 4

-- the octets of the unit that has begun, with this octet after them: none if the unit is then whole
abbrev pub unit_with : ℕ → List ℕ → ℕ → List ℕ
unit_with size unit x = if length unit + 1 == size then [] else unit ++ x ∷ []

-- the octets of the unit that has begun once these octets follow
abbrev pub open_unit : ℕ → List ℕ → List ℕ → List ℕ
open_unit size unit [] = unit
open_unit size unit (x ∷ octets) = open_unit size (unit_with size unit x) octets

-- the units that are whole once these octets follow are characters
abbrev pub are_characters_after : ℕ → List ℕ → List ℕ → Bool
are_characters_after size unit [] = true
are_characters_after size unit (x ∷ octets) =
    not (is_wrong_unit size (unit ++ x ∷ [])) && are_characters_after size (unit_with size unit x) octets
