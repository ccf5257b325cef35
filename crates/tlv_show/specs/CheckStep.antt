-- What a check does with events.
use Rattle.std.specs.Option.{is_some}
use Rattle.std.specs.Prelude.{ℕ, false, [], ◌∷◌}
use Rattle.tlv_walk.specs.Events.{Begin, Bytes, Close, End, Enter, EventValue, Leave, Open, Pad, Unused}
use Rattle.tlv_walk.specs.Follow.{Effect, each_octet, effect_with, no_effect}
use Rattle.tlv_show.specs.declared.finding_lines.Style.TheVariants.{Check}
use Rattle.tlv_show.specs.FinderState.{CheckState, FinderState, finder_begin_step, finder_bytes_step}
use Rattle.tlv_show.specs.FinderState.{finder_close_step, finder_end_step, finder_open_step}
use Rattle.tlv_show.specs.FindingLines.{last_finding_lines}

-- the findings are put, each with its line
abbrev pub findings_effect : FinderState → Effect CheckState
findings_effect f = effect_with f.kept (last_finding_lines Check f)

-- a contents octet
abbrev pub check_octet_step : CheckState → ℕ → Effect CheckState
check_octet_step s x = no_effect (finder_bytes_step s (x ∷ []))

-- an event
abbrev pub check_step : CheckState → EventValue → Effect CheckState
check_step s (Open h) = findings_effect (finder_open_step s h)
check_step s (Enter h) = findings_effect (finder_open_step s h)
check_step s (Begin h) = findings_effect (finder_begin_step s h)
check_step s (Bytes octets) = each_octet check_octet_step s octets
check_step s End = findings_effect (finder_end_step s)
check_step s (Close offset) = findings_effect (finder_close_step s (is_some offset))
check_step s Leave = findings_effect (finder_close_step s false)
check_step s Unused = no_effect s
check_step s (Pad octets) = no_effect s
