-- Steps of reading a list of numbers.
use Rattle.std.specs.Prelude.{ℕ, ◌+◌, ◌≤◌}
use Rattle.tlv_text.specs.TextRead.{PartRead}
use Rattle.tlv_text.specs.declared.numbers.ListRead.{ListRead}
use Rattle.tlv_text.specs.declared.numbers.Step.{Step}
use Rattle.tlv_text.specs.declared.numbers.Step.TheVariants.{Closes, Fails, Passes, Reads}

-- a number that is read is no longer than the text
abbrev pub IsWithinText : Step → ℕ → Type 0
IsWithinText (Reads n) size = 1 + n.more ≤ size
IsWithinText (Passes place) size = Unit {0}
IsWithinText Closes size = Unit {0}
IsWithinText Fails size = Unit {0}

-- a list as contracts see it
abbrev pub list_value : ListRead → PartRead
list_value list = record { octets = list.octets.items; left = list.left }
