-- Where a walk is among the named offsets.
use Rattle.std.specs.Prelude.{◌≡◌, ℕ, ◌+◌, ◌-◌, ◌^◌, ◌≤◌, max, List, [], ◌∷◌, get_or, take}
use Rattle.tlv_walk.specs.declared.cursor.Cursor.{Cursor}

-- the largest u64, which stands for no offset
abbrev pub no_offset_mark : ℕ
no_offset_mark = 2 ^ 64 - 1

-- the least number above all of these numbers
abbrev pub least_above : List ℕ → ℕ
least_above [] = 0
least_above (n ∷ ns) = max (n + 1) (least_above ns)

-- the cursor says where the offset is among the named offsets: the offsets that the cursor has passed are before it
pub record IsCursorAt (inside : List ℕ) (cursor : Cursor) (offset : ℕ) : Type 0 where
  pub passed : least_above (take cursor.passed inside) ≤ offset
  pub next : cursor.next ≡ get_or inside cursor.passed no_offset_mark
