-- Parts of times, and what is left of octets after a part.
use Rattle.std.specs.Prelude.{◌≡◌, ℕ, false, List, Option}
use Rattle.std.specs.Option.{option_map_or}
use Rattle.tlv_value.specs.Times.{Form, canonical_clock, fraction, generalized_zone, hour, maybe, minute, month_and_day}
use Rattle.tlv_value.specs.Times.{year_digits, ◌followed_by◌}

-- the octets begin with just one text of this form, and the rest is what is after it; or they begin with none, and
-- there is no rest. In other words: the octets are a text of this form and one of the next form if and only if there is
-- a rest and it has the next form, whatever the next form is
abbrev pub LeavesRest : Form → List ℕ → Option (List ℕ) → Type 0
LeavesRest form octets rest = (next : Form) → (form followed_by next) octets ≡ option_map_or next rest false

-- YYMMDDhhmm
abbrev pub utc_minute : Form
utc_minute = year_digits followed_by month_and_day followed_by hour followed_by minute

-- YYYYMMDDhh
abbrev pub generalized_hour : Form
generalized_hour = year_digits followed_by year_digits followed_by month_and_day followed_by hour

-- what may follow the hour, minute or second
abbrev pub generalized_tail : Form
generalized_tail = maybe fraction followed_by maybe generalized_zone

-- YYMMDDhhmmss, with an hour of at most 23
abbrev pub canonical_second : Form
canonical_second = year_digits followed_by month_and_day followed_by canonical_clock
