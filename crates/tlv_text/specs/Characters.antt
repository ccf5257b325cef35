-- Characters of a text.
use Rattle.std.specs.Prelude.{ℕ, ◌==◌, Bool, ◌||◌}

-- a space, a tab, a line feed or a carriage return
abbrev pub is_white : ℕ → Bool
is_white x = (x == 32) || (x == 9) || (x == 10) || (x == 13)

-- a double or a single quote
abbrev pub is_quote : ℕ → Bool
is_quote x = (x == 34) || (x == 39)
