-- What is kept of elements so that their findings can be reported event by event, and what is reported. No contract
-- of `dump` or `check` names this: `Items` says what they report. It is here for the contracts of the followers
-- `Dump` and `Check`, which see one event at a time. Laws say that these put exactly what `Items` says.
use Rattle.std.specs.Prelude.{ℕ, ◌==◌, Bool, true, false, ◌&&◌, if◌then◌else◌, List, [], ◌∷◌, length, take}
use Rattle.std.specs.Prelude.{Option, Some, None}
use Rattle.std.specs.List.{filter}
use Rattle.std.specs.Option.{is_some}
use Rattle.tlv_head.specs.Header.{HeaderValue}
use Rattle.tlv_value.specs.declared.finding.Finding.{Finding}
use Rattle.tlv_value.specs.ValueCheckState.{ValueCheckState, value_check_after, findings_in, has_unused_bits}
use Rattle.tlv_value.specs.ValueCheckState.{new_value_check}
use Rattle.tlv_show.specs.declared.holder_frame.HolderFrame.{HolderFrame}
use Rattle.tlv_show.specs.declared.wanted.Wanted.{Wanted}
use Rattle.tlv_show.specs.KeptConditions.{end_findings_in, header_findings_in}
use Rattle.tlv_show.specs.declared.segment_frame.SegmentFrame.{SegmentFrame}
use Rattle.tlv_show.specs.SegmentCharactersState.{at_innermost, closing_string, segment_ended, segments_after_octets}
use Rattle.tlv_show.specs.SegmentCharactersState.{segments_begun, segments_closed, segments_opened}
use Rattle.tlv_show.specs.SetOrderState.{SetOrderState, is_last_out_of_order, new_set_order, set_order_begin_step}
use Rattle.tlv_show.specs.SetOrderState.{set_order_close_step, set_order_end_step, set_order_octets_step}
use Rattle.tlv_show.specs.SetOrderState.{set_order_open_step}
use Rattle.tlv_show.specs.ShownFindings.{is_shown, wants_characters, wants_order, with_characters_if, with_order_if}
use Rattle.tlv_show.specs.NestingState.{NestingState, depth_in, new_nesting, nesting_open_step}
use Rattle.tlv_show.specs.NestingState.{nesting_close_step, nesting_primitive_step, segments_in, surroundings_in}
use Rattle.tlv_show.specs.SaturatingSum.{saturating_sum}

-- ---- What contracts see of a `Finder`, and of a `Check`

-- what has been seen of the octets in open elements, if it is wanted
pub record SeenState : Type 0 where
  -- in the open SETs, for their order
  pub order : SetOrderState
  -- in the open strings, for the characters of their segments
  pub strings : List SegmentFrame

abbrev pub new_seen : SeenState
new_seen = record { order = new_set_order; strings = [] }

-- the open primitive: its offset, and what is kept of its contents
pub record OpenPrimitiveState : Type 0 where
  pub offset : ℕ
  pub check : ValueCheckState

-- what a finder keeps: what contracts see of a `Check`
pub record CheckState : Type 0 where
  pub wanted : Wanted
  -- the open holders
  pub holders : NestingState
  -- the open primitive
  pub open_primitive : Option OpenPrimitiveState
  -- what has been seen of the open SETs and strings
  pub seen : SeenState
  -- the number of findings reported; it stops at 2^64 - 1
  pub finding_count : ℕ

abbrev pub new_check : Wanted → CheckState
new_check wanted = record {
  wanted = wanted;
  holders = new_nesting;
  open_primitive = None;
  seen = new_seen;
  finding_count = 0;
}

-- what contracts see of a `Finder`: what it keeps, the findings of the last event that may have had some, and the
-- element that they are in: it begins at `offset`, and `level` others hold it
pub record FinderState : Type 0 where
  pub kept : CheckState
  pub level : ℕ
  pub offset : ℕ
  pub findings : List Finding

-- a finder that found these in the element at this level and offset, and counted them
abbrev pub with_findings : CheckState → ℕ → ℕ → List Finding → FinderState
with_findings s level offset findings = record {
  kept = record s { finding_count = saturating_sum s.finding_count (length findings) };
  level = level;
  offset = offset;
  findings = findings;
}

abbrev pub without_findings : CheckState → FinderState
without_findings s = record { kept = s; level = 0; offset = 0; findings = [] }

-- ---- What it does with an event

-- what is kept of the open SETs, if their order is wanted
abbrev pub order_if : Wanted → SetOrderState → SetOrderState → SetOrderState
order_if wanted after before = if wants_order wanted then after else before

-- what is kept of the open strings, if the characters of their segments are wanted
abbrev pub strings_if : Wanted → List SegmentFrame → List SegmentFrame → List SegmentFrame
strings_if wanted after before = if wants_characters wanted then after else before

-- of both, after the header of a holder
abbrev pub seen_opened : Wanted → SeenState → HeaderValue → SeenState
seen_opened wanted o h = record {
  order = order_if wanted (set_order_open_step wanted.rules o.order h) o.order;
  strings = strings_if wanted (segments_opened o.strings h) o.strings;
}

-- after the header of a primitive
abbrev pub seen_begun : Wanted → SeenState → HeaderValue → SeenState
seen_begun wanted o h = record {
  order = order_if wanted (set_order_begin_step wanted.rules o.order h) o.order;
  strings = strings_if wanted (segments_begun o.strings h) o.strings;
}

-- after contents octets
abbrev pub seen_filled : Wanted → SeenState → List ℕ → SeenState
seen_filled wanted o octets = record {
  order = order_if wanted (set_order_octets_step o.order octets) o.order;
  strings = strings_if wanted (segments_after_octets octets o.strings) o.strings;
}

-- after the end of a primitive
abbrev pub seen_ended : Wanted → SeenState → SeenState
seen_ended wanted o = record {
  order = order_if wanted (set_order_end_step o.order) o.order;
  strings = strings_if wanted (at_innermost segment_ended o.strings) o.strings;
}

-- end-of-contents octets, if there are any
abbrev pub end_octets_if : Bool → List ℕ
end_octets_if there = if there then 0 ∷ 0 ∷ [] else []

-- after the end of a holder
abbrev pub seen_closed : Wanted → SeenState → Bool → SeenState
seen_closed wanted o has_end_octets = record {
  order = order_if wanted (set_order_close_step o.order (end_octets_if has_end_octets)) o.order;
  strings = strings_if wanted (segments_closed o.strings (end_octets_if has_end_octets)) o.strings;
}

-- the element that has just ended is out of order, and this is wanted
abbrev pub is_order_found : Wanted → SetOrderState → Bool
is_order_found wanted order = wants_order wanted && is_last_out_of_order order.frame

abbrev pub is_misplaced : Wanted → SeenState → Bool
is_misplaced wanted o = is_order_found wanted o.order

-- the offset of the string that is about to end, if a segment of it has wrong characters, and this is wanted
abbrev pub string_found : Wanted → List SegmentFrame → Option ℕ
string_found wanted strings = if wants_characters wanted then closing_string strings else None

-- a finder that reported the findings of a header, and keeps `after`
abbrev pub with_header_findings : CheckState → HeaderValue → CheckState → FinderState
with_header_findings s h after =
    with_findings after (depth_in s.holders) h.offset
    (header_findings_in s.wanted (surroundings_in s.holders.frame) h)

-- a holder begins
abbrev pub finder_open_step : CheckState → HeaderValue → FinderState
finder_open_step s h = with_header_findings s h (record s {
  holders = nesting_open_step s.holders h;
  seen = seen_opened s.wanted s.seen h;
})

-- a primitive begins
abbrev pub finder_in_primitive : CheckState → HeaderValue → CheckState
finder_in_primitive s h =
    record s {
      open_primitive = Some (record { offset = h.offset; check = new_value_check h });
      seen = seen_begun s.wanted s.seen h;
    }

abbrev pub finder_begin_step : CheckState → HeaderValue → FinderState
finder_begin_step s h = with_header_findings s h (finder_in_primitive s h)

-- contents octets: those after the announced ones are not looked at
abbrev pub open_primitive_after : Option OpenPrimitiveState → List ℕ → Option OpenPrimitiveState
open_primitive_after None octets = None
open_primitive_after (Some v) octets =
    Some (record v { check = value_check_after v.check (take v.check.left octets) })

abbrev pub seen_after : Wanted → Option OpenPrimitiveState → SeenState → List ℕ → SeenState
seen_after wanted None o octets = o
seen_after wanted (Some v) o octets = seen_filled wanted o octets

abbrev pub finder_bytes_step : CheckState → List ℕ → CheckState
finder_bytes_step s octets =
    if length octets == 0
    then s
    else record s {
      open_primitive = open_primitive_after s.open_primitive octets;
      seen = seen_after s.wanted s.open_primitive s.seen octets;
    }

-- a primitive ends whose contents octets have all come
abbrev pub contents_findings_in : Wanted → ValueCheckState → List Finding
contents_findings_in wanted t = if t.left == 0 then filter (is_shown wanted) (findings_in t) else []

abbrev pub finder_after_primitive : CheckState → OpenPrimitiveState → CheckState
finder_after_primitive s v = record s {
  holders = nesting_primitive_step s.holders v.check.size (has_unused_bits v.check);
  open_primitive = None;
  seen = seen_ended s.wanted s.seen;
}

abbrev pub finder_primitive_end_step : CheckState → Option OpenPrimitiveState → FinderState
finder_primitive_end_step s None = without_findings s
finder_primitive_end_step s (Some v) =
    with_findings (finder_after_primitive s v) (depth_in s.holders) v.offset
    (with_order_if (is_misplaced s.wanted (finder_after_primitive s v).seen)
    (contents_findings_in s.wanted v.check))

abbrev pub finder_end_step : CheckState → FinderState
finder_end_step s = finder_primitive_end_step s s.open_primitive

-- where the element begins that ends: its frame has its offset only if it may have findings by this frame
abbrev pub offset_at_end : Bool → SetOrderState → Option ℕ → HolderFrame → ℕ
offset_at_end true order string w = order.frame.offset
offset_at_end false order (Some offset) w = offset
offset_at_end false order None w = w.offset

-- what is found with its end
abbrev pub end_findings_with : Wanted → Bool → Option ℕ → HolderFrame → List Finding
end_findings_with wanted misplaced string w =
    with_order_if misplaced (with_characters_if (is_some string) (end_findings_in wanted (segments_in w)))

-- a holder ends, inside those with these frames
abbrev pub finder_frame_end_step : CheckState → Bool → List HolderFrame → FinderState
finder_frame_end_step s has_end_octets [] = without_findings s
finder_frame_end_step s has_end_octets (w ∷ outer) =
    let seen = seen_closed s.wanted s.seen has_end_octets in
    let string = string_found s.wanted s.seen.strings in
    with_findings (record s { holders = nesting_close_step s.holders; seen = seen }) (length outer)
    (offset_at_end (is_misplaced s.wanted seen) seen.order string s.holders.frame)
    (end_findings_with s.wanted (is_misplaced s.wanted seen) string s.holders.frame)

-- with end-of-contents octets, or without them
abbrev pub finder_close_step : CheckState → Bool → FinderState
finder_close_step s has_end_octets = finder_frame_end_step s has_end_octets s.holders.outer
