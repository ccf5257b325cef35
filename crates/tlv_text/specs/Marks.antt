-- Marks at the start of a text: the marks of UTF-8 and of UTF-16 (Unicode 16.0, section 23.8).
use Rattle.std.specs.Prelude.{ℕ, ◌==◌, Bool, true, false, ◌&&◌, if◌then◌else◌, List, [], ◌∷◌, Option, Some, None}
use Rattle.std.specs.Prelude.{nat_lt}

-- the text after the mark of UTF-8, if it has the mark
abbrev pub after_mark : List ℕ → List ℕ
after_mark (x ∷ y ∷ z ∷ text) =
    if (x == 0xef) && (y == 0xbb) && (z == 0xbf) then text else x ∷ y ∷ z ∷ text
after_mark text = text

-- the ASCII character of a unit of UTF-16, given its low octet and its high octet
abbrev pub ascii_of_unit : ℕ → ℕ → Option ℕ
ascii_of_unit low high = if nat_lt low 128 && (high == 0) then Some low else None

-- the same for two octets: the low octet is the first, or the second
abbrev pub ascii_of_pair : Bool → ℕ → ℕ → Option ℕ
ascii_of_pair low_first x y = if low_first then ascii_of_unit x y else ascii_of_unit y x

-- a character and the characters after it, if all are there
abbrev pub character_then : Option ℕ → Option (List ℕ) → Option (List ℕ)
character_then (Some x) (Some more) = Some (x ∷ more)
character_then _ _ = None

-- the ASCII characters of units of UTF-16, if all are ASCII: in each unit the low octet is first, or the high octet
abbrev pub ascii_of_units : Bool → List ℕ → Option (List ℕ)
ascii_of_units low_first [] = Some []
ascii_of_units low_first (x ∷ []) = None
ascii_of_units low_first (x ∷ y ∷ octets) =
    character_then (ascii_of_pair low_first x y) (ascii_of_units low_first octets)

-- the ASCII characters of a text in UTF-16 that has its mark, if the octets are such a text and all of it is ASCII
abbrev pub ascii_of_utf16 : List ℕ → Option (List ℕ)
ascii_of_utf16 (x ∷ y ∷ octets) =
    if (x == 0xff) && (y == 0xfe) then ascii_of_units true octets
    else (if (x == 0xfe) && (y == 0xff) then ascii_of_units false octets else None)
ascii_of_utf16 octets = None
