-- What a dump does with events, without the lines of findings.
use Rattle.std.specs.Prelude.{ℕ, ◌==◌, if◌then◌else◌, Bool, true, false, List, [], ◌∷◌, length, take}
use Rattle.std.specs.Prelude.{Option, Some, None}
use Rattle.std.specs.FinMap as finite
use Rattle.tlv_head.specs.Header.{HeaderValue, octets_of}
use Rattle.tlv_value.specs.declared.layout.Layout.{Layout}
use Rattle.tlv_value.specs.Names.{NamesValue}
use Rattle.tlv_value.specs.ValueTextState.{ValueTextState, begin_lines, contents_lines, end_lines}
use Rattle.tlv_value.specs.ValueTextState.{new_value_text_with, value_text_after}
use Rattle.tlv_walk.specs.Events.{Begin, Bytes, Close, End, Enter, EventValue, Leave, Open, Pad, Unused}
use Rattle.tlv_walk.specs.Follow.{Effect, each_octet, effect_with}
use Rattle.tlv_show.specs.HolderLines.{closing_line, opening_line, padding_line, opening_word}
use Rattle.tlv_show.specs.SaturatingSum.{saturating_sum}
use Rattle.tlv_show.specs.Texts.{layout_at}

-- what contracts see of the `Lines` of a dump
pub record LinesState : Type 0 where
  -- how lines are laid out. Each line has its own level
  pub layout : Layout
  -- whether text is shown beside pairs of digits
  pub with_text : Bool
  -- the names of object identifiers
  pub names : NamesValue
  -- the offset of the next octet
  pub offset : ℕ
  -- whether the last octets were padding
  pub in_padding : Bool
  -- what is kept of the open primitive
  pub open_text : Option ValueTextState

-- the lines of a dump before its first event
abbrev pub new_lines : Bool → Layout → NamesValue → LinesState
new_lines with_text layout names = record {
  layout = layout;
  with_text = with_text;
  names = names;
  offset = 0;
  in_padding = false;
  open_text = None;
}

-- an element begins, and padding ends
abbrev pub lines_after_header : LinesState → HeaderValue → LinesState
lines_after_header s h = record s {
  offset = saturating_sum h.offset (length (octets_of h));
  in_padding = false;
}

-- In what follows, a level is the number of holders around an element.

-- a holder begins
abbrev pub lines_open_step : ℕ → LinesState → HeaderValue → List ℕ → Effect LinesState
lines_open_step level s h word =
    effect_with (lines_after_header s h) (opening_line (layout_at s.layout level) h word)

-- a holder ends
abbrev pub lines_close_step : ℕ → LinesState → Option ℕ → Effect LinesState
lines_close_step level s None = effect_with s (closing_line (layout_at s.layout level) None)
lines_close_step level s (Some offset) =
    effect_with (record s { offset = saturating_sum offset 2 })
    (closing_line (layout_at s.layout level) (Some offset))

-- the text of a primitive that begins
abbrev pub first_text : ℕ → LinesState → HeaderValue → ValueTextState
first_text level s h = new_value_text_with s.with_text h (layout_at s.layout level)

-- a primitive begins
abbrev pub lines_begin_step : ℕ → LinesState → HeaderValue → Effect LinesState
lines_begin_step level s h =
    effect_with (record (lines_after_header s h) { open_text = Some (first_text level s h) })
    (begin_lines (first_text level s h))

-- contents octets: those after the announced ones are not shown
abbrev pub open_text_after : Option ValueTextState → List ℕ → Option ValueTextState
open_text_after None octets = None
open_text_after (Some t) octets = Some (value_text_after t (take t.left octets))

abbrev pub open_text_lines : Option ValueTextState → List ℕ → List ℕ
open_text_lines None octets = []
open_text_lines (Some t) octets = contents_lines t (take t.left octets)

-- a contents octet
abbrev pub lines_octet_step : LinesState → ℕ → Effect LinesState
lines_octet_step s x =
    effect_with (record s {
      offset = saturating_sum s.offset 1;
      open_text = open_text_after s.open_text (x ∷ []);
    })
    (open_text_lines s.open_text (x ∷ []))

-- a primitive ends whose contents octets have all come
abbrev pub open_text_end_lines : NamesValue → Option ValueTextState → List ℕ
open_text_end_lines names None = []
open_text_end_lines names (Some t) = if t.left == 0 then end_lines (finite.get names) t else []

abbrev pub lines_end_step : LinesState → Effect LinesState
lines_end_step s = effect_with (record s { open_text = None }) (open_text_end_lines s.names s.open_text)

-- an octet of padding: the first of a run has a line
abbrev pub lines_padding_step : ℕ → LinesState → ℕ → Effect LinesState
lines_padding_step level s x =
    effect_with (record s { offset = saturating_sum s.offset 1; in_padding = true })
    (if s.in_padding then [] else padding_line (layout_at s.layout level) s.offset)

-- an event of an element at this level
abbrev pub lines_step : ℕ → LinesState → EventValue → Effect LinesState
lines_step level s (Open h) = lines_open_step level s h (opening_word true)
lines_step level s (Enter h) = lines_open_step level s h (opening_word false)
lines_step level s (Begin h) = lines_begin_step level s h
lines_step level s (Bytes octets) = each_octet lines_octet_step s octets
lines_step level s End = lines_end_step s
lines_step level s (Close offset) = lines_close_step level s offset
lines_step level s Leave = lines_close_step level s None
lines_step level s Unused = effect_with (record s { offset = saturating_sum s.offset 1 }) []
lines_step level s (Pad octets) = each_octet (lines_padding_step level) s octets
