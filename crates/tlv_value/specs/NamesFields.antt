-- The table that names hold, from the map that the code keeps.
use Rattle.std.specs.Prelude.{ℕ, List, map, Option, Some, None, String, Vec, string_bytes}
use Rattle.std.specs.FinMap as finite
use Rattle.std.specs.HashMap.{HashMap}
use Rattle.tlv_value.specs.Names.{Entry, NamesValue}

-- the texts that a map holds
abbrev pub texts_in : {Z S : Type 0} → HashMap (String Z) (Vec ℕ Z) S → List Entry
texts_in m = map (λ e. (string_bytes e.0, e.1.items)) m.entries

-- the table of these entries
abbrev pub table_with : List Entry → NamesValue
table_with entries = finite.from_entries entries

-- the table that a map stands for
abbrev pub table_in : {Z S : Type 0} → HashMap (String Z) (Vec ℕ Z) S → NamesValue
table_in m = table_with (texts_in m)

-- the table that names hold; an empty table needs no map
abbrev pub names_in : {Z S : Type 0} → Option (HashMap (String Z) (Vec ℕ Z) S) → NamesValue
names_in None = finite.empty
names_in (Some m) = table_in m
