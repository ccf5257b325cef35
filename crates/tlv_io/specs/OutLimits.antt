-- The most octets that an `Out` may hold, and the room that it makes.
use Rattle.std.specs.Prelude.{ℕ}

-- the most octets that an `Out` holds
abbrev pub held_limit : ℕ
held_limit = 4096

-- the number of octets for which an `Out` makes room before a line is added. No line is longer, apart from the name
-- of an object identifier: a line has an indentation of at most 512 spaces, and short texts
abbrev pub line_room : ℕ
line_room = 1024

-- the most octets in the start of a line: 43 in its first columns, and an indentation of 510 spaces
abbrev pub line_start_limit : ℕ
line_start_limit = 553

-- the room that the start of a line needs, since spaces are copied many at a time
abbrev pub line_start_room : ℕ
line_start_room = 592
