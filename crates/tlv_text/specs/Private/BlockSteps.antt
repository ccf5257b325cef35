-- Steps of finding blocks.
use Rattle.std.specs.Prelude.{◌≡◌, ℕ, ◌≤◌, List, length, Option, Some, None}
use Rattle.tlv_text.specs.Blocks.{line_at}
use Rattle.tlv_text.specs.declared.blocks.lines.LinePlace.{LinePlace}

-- a place in a text, and its line
pub record IsLineIn (text : List ℕ) (here : LinePlace) : Type 0 where
  pub within : here.place ≤ length text
  pub line : here.line ≡ line_at text here.place

-- the refused place, if there is one, has no more characters before it than these
abbrev pub IsRefusedWithin : ℕ → Option ℕ → Type 0
IsRefusedWithin size None = Unit {0}
IsRefusedWithin size (Some place) = place ≤ size
