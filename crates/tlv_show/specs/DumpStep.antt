-- What a dump does with events: the lines of elements, with the lines of findings in them before and after.
use Rattle.std.specs.Option.{is_some}
use Rattle.std.specs.Prelude.{ℕ, ◌-◌, Bool, false, List, [], ◌∷◌, ◌++◌}
use Rattle.tlv_value.specs.declared.layout.Layout.{Layout}
use Rattle.tlv_value.specs.Names.{NamesValue}
use Rattle.tlv_walk.specs.Events.{Begin, Bytes, Close, End, Enter, EventValue, Leave, Open, Pad, Unused}
use Rattle.tlv_walk.specs.Follow.{Effect, each_octet, effect_with}
use Rattle.tlv_show.specs.declared.rules.Rules.{Rules}
use Rattle.tlv_show.specs.declared.wanted.Wanted.{Wanted}
use Rattle.tlv_show.specs.declared.finding_lines.Style.TheVariants.{Dump}
use Rattle.tlv_show.specs.FindingLines.{last_finding_lines}
use Rattle.tlv_show.specs.LinesStep.{LinesState, lines_octet_step, lines_padding_step, lines_step, new_lines}
use Rattle.tlv_show.specs.FinderState.{CheckState, FinderState, finder_begin_step, finder_bytes_step}
use Rattle.tlv_show.specs.FinderState.{finder_close_step, finder_end_step, finder_open_step, new_check}
use Rattle.tlv_show.specs.FinderState.{without_findings}
use Rattle.tlv_show.specs.NestingState.{depth_in}
use Rattle.tlv_show.specs.ShownFindings.{listed_by}

-- what contracts see of a `Dump`
pub record DumpState : Type 0 where
  pub lines : LinesState
  -- what its finder keeps
  pub finder : CheckState

-- a dump that has written nothing yet, with text beside pairs of digits or without it; and one of the listed findings,
-- without text
abbrev pub new_dump_with : Bool → Wanted → Layout → NamesValue → DumpState
new_dump_with with_text wanted layout names = record {
  lines = new_lines with_text layout names;
  finder = new_check wanted;
}

abbrev pub new_dump : Rules → Layout → NamesValue → DumpState
new_dump rules layout names = new_dump_with false (listed_by rules) layout names

-- the number of open holders: the level of what begins next
abbrev pub level_in : DumpState → ℕ
level_in s = depth_in s.finder.holders

-- the lines of the findings
abbrev pub finding_lines : DumpState → FinderState → List ℕ
finding_lines s f = last_finding_lines (Dump s.lines.layout.pure) f

-- the lines of findings come before the other lines, or after them
abbrev pub findings_before : DumpState → FinderState → Effect LinesState → Effect DumpState
findings_before s f d =
    effect_with (record { lines = d.state; finder = f.kept }) (finding_lines s f ++ d.put)

abbrev pub findings_after : DumpState → FinderState → Effect LinesState → Effect DumpState
findings_after s f d =
    effect_with (record { lines = d.state; finder = f.kept }) (d.put ++ finding_lines s f)

-- a contents octet, and an octet of padding
abbrev pub dump_octet_step : DumpState → ℕ → Effect DumpState
dump_octet_step s x =
    let d = lines_octet_step s.lines x in
    effect_with (record { lines = d.state; finder = finder_bytes_step s.finder (x ∷ []) }) d.put

abbrev pub dump_padding_step : DumpState → ℕ → Effect DumpState
dump_padding_step s x =
    let d = lines_padding_step (level_in s) s.lines x in
    effect_with (record { lines = d.state; finder = s.finder }) d.put

-- an event. What begins is inside the open holders, so its level is their number. A holder that ends is not inside
-- itself, so its level is one less
abbrev pub dump_step : DumpState → EventValue → Effect DumpState
dump_step s (Open h) = findings_before s (finder_open_step s.finder h) (lines_step (level_in s) s.lines (Open h))
dump_step s (Enter h) = findings_before s (finder_open_step s.finder h) (lines_step (level_in s) s.lines (Enter h))
dump_step s (Begin h) = findings_before s (finder_begin_step s.finder h) (lines_step (level_in s) s.lines (Begin h))
dump_step s (Bytes octets) = each_octet dump_octet_step s octets
dump_step s End = findings_after s (finder_end_step s.finder) (lines_step (level_in s) s.lines End)
dump_step s (Close offset) =
    findings_after s (finder_close_step s.finder (is_some offset))
    (lines_step (level_in s - 1) s.lines (Close offset))
dump_step s Leave =
    findings_after s (finder_close_step s.finder false) (lines_step (level_in s - 1) s.lines Leave)
dump_step s Unused = findings_after s (without_findings s.finder) (lines_step (level_in s) s.lines Unused)
dump_step s (Pad octets) = each_octet dump_padding_step s octets
