-- What a finder makes of an event.
use Rattle.std.specs.Option.{is_some}
use Rattle.std.specs.Prelude.{false}
use Rattle.tlv_walk.specs.Events.{Begin, Bytes, Close, End, Enter, EventValue, Leave, Open, Pad, Unused}
use Rattle.tlv_show.specs.FinderState.{CheckState, FinderState, finder_begin_step, finder_bytes_step}
use Rattle.tlv_show.specs.FinderState.{finder_close_step, finder_end_step, finder_open_step, without_findings}

abbrev pub finder_step : CheckState → EventValue → FinderState
finder_step s (Open h) = finder_open_step s h
finder_step s (Begin h) = finder_begin_step s h
finder_step s (Bytes octets) = without_findings (finder_bytes_step s octets)
finder_step s End = finder_end_step s
finder_step s (Close offset) = finder_close_step s (is_some offset)
finder_step s (Enter h) = finder_open_step s h
finder_step s Unused = without_findings s
finder_step s Leave = finder_close_step s false
finder_step s (Pad octets) = without_findings s
