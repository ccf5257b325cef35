-- The lines that are written beside views: what is before a block, and what concerns one.
use Rattle.std.specs.Prelude.{ℕ, Bool, true, false, List, [], ◌∷◌, ◌++◌, Option, Some, None, codes, decimal, flat_map}
use Rattle.std.specs.Prelude.{if◌then◌else◌}
use Rattle.tlv_value.specs.Units.{is_printable}

-- an octet of a name as a terminal can show it: a question mark if it is not printable
abbrev pub printable_octet : ℕ → List ℕ
printable_octet x = (if is_printable x then x else 0x3f) ∷ []

-- a name that a terminal can show
abbrev pub printable_name : List ℕ → List ℕ
printable_name name = flat_map printable_octet name

-- a file that has no name is standard input
abbrev pub shown_name : Option (List ℕ) → List ℕ
shown_name None = codes "standard input"
shown_name (Some name) = printable_name name

-- the beginning of the line before a block: its number, and the number of blocks
abbrev pub block_start : ℕ → ℕ → List ℕ
block_start number count = codes "# block " ++ decimal number ++ codes " of " ++ decimal count ++ codes ": "

-- the title of a block: its label, or its file if it has no label; both if there are several files
abbrev pub block_title : Bool → Option (List ℕ) → List ℕ → List ℕ
block_title several file [] = shown_name file
block_title false file (x ∷ label) = x ∷ label
block_title true file (x ∷ label) = (shown_name file ++ codes ": ") ++ x ∷ label

-- the line before what is shown of a block, if there are several
abbrev pub block_line : ℕ → ℕ → List ℕ → List ℕ
block_line number count title = (block_start number count ++ title) ++ 10 ∷ []

-- ---- messages

-- what comes before a message that concerns a block: the name of its file (standard input has none), and the number of
-- the block if the file has several
pub record MessagePlace : Type 0 where
  pub file : Option (List ℕ)
  pub number : Option ℕ

abbrev pub file_words : Option (List ℕ) → List ℕ
file_words None = []
file_words (Some name) = printable_name name ++ codes ": "

abbrev pub number_words : Option ℕ → List ℕ
number_words None = []
number_words (Some number) = (codes "block " ++ decimal number) ++ codes ": "

abbrev pub place_words : MessagePlace → List ℕ
place_words place = file_words place.file ++ number_words place.number

-- the line of a message that concerns a block; none for an empty message
abbrev pub placed_line : MessagePlace → List ℕ → List ℕ
placed_line place [] = []
placed_line place (x ∷ message) = (place_words place ++ x ∷ message) ++ 10 ∷ []

-- the note if no names file is found
abbrev pub no_names_note : List ℕ
no_names_note = codes "no names file was found: object identifiers have no names"

-- the note if standard input is read, and it is a terminal
abbrev pub input_note : List ℕ
input_note = codes "standard input is read, up to Ctrl-D"
