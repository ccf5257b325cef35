-- What is kept of a primitive.
use Rattle.std.specs.Prelude.{Bool, if◌then◌else◌, Option, Some, None}

-- what is kept of it, if it is open
abbrev pub if_open : {S : Type 0} → Bool → S → Option S
if_open is_open kept = if is_open then Some kept else None
