-- A list of offsets, as the option `--inside` takes it.
use Rattle.std.specs.Prelude.{ℕ, Bool, if◌then◌else◌, List, [], ◌∷◌, ◌++◌, decimal, length, ◌==◌}

-- what follows an offset: a line feed after the last, a comma after any other
abbrev pub offset_end : Bool → ℕ
offset_end is_last = if is_last then 10 else 44

-- an offset in decimal, and what follows it
abbrev pub listed_offset : ℕ → Bool → List ℕ
listed_offset offset is_last = decimal offset ++ offset_end is_last ∷ []

-- the line of offsets; nothing, if there are none
abbrev pub offsets_line : List ℕ → List ℕ
offsets_line [] = []
offsets_line (offset ∷ offsets) = listed_offset offset (length offsets == 0) ++ offsets_line offsets
