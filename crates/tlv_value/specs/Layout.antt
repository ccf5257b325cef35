-- The lines of a dump: what begins them, and what is left out.
use Rattle.std.specs.Prelude.{ℕ, ◌+◌, ◌*◌, nat_lt, if◌then◌else◌, List, [], ◌∷◌, ◌++◌, length, take, Option, Some}
use Rattle.std.specs.Prelude.{None, codes}
use Rattle.tlv_value.specs.declared.layout.Layout.{Layout}
pub use Rattle.tlv_io.specs.LineTexts.{columns, at_right, spaces}

-- 17 spaces, in place of the first columns, for a line that has no offset
abbrev pub blank_columns : List ℕ
blank_columns = spaces 17

-- what is before the text of a line: its first columns, unless they are left out, and the indentation of its level
abbrev pub margin : Layout → List ℕ → List ℕ
margin layout first = (if layout.pure then [] else first) ++ spaces (2 * layout.level)

-- a line with these first columns and this text
abbrev pub line : Layout → List ℕ → List ℕ → List ℕ
line layout first text = margin layout first ++ text ++ 10 ∷ []

-- a line one level further in, with blank first columns
abbrev pub inner_line : Layout → List ℕ → List ℕ
inner_line layout text = line (record layout { level = layout.level + 1 }) blank_columns text

-- the rows that are shown: all of them, or, if there are more rows than the limit, as many as the limit and three dots
abbrev pub shown_rows : Option ℕ → List (List ℕ) → List (List ℕ)
shown_rows None rows = rows
shown_rows (Some limit) rows =
    if nat_lt limit (length rows) then take limit rows ++ codes "..." ∷ [] else rows
