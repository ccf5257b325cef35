-- What the values in the code of dumps stand for.
use Rattle.std.specs.Prelude.{◌≡◌, ◌<◌, ◌≤◌, ℕ, Bool, true, false, ◌&&◌, ◌||◌, ◌==◌, nat_le, List, ◌++◌, length}
use Rattle.std.specs.Prelude.{Option, Some, None}
use Rattle.tlv_text.specs.Dump.{DumpPlace, Step}
use Rattle.tlv_text.specs.TextRead.{PartRead}
use Rattle.tlv_text.specs.DumpLines.{LineKind, OffsetRead, RowRead, ends_offset, is_dump_blank, offset_read}
use Rattle.tlv_text.specs.Private.PairSteps.{pair_octets}
use Rattle.tlv_text.specs.declared.dump.Reading.{Reading}
use Rattle.tlv_text.specs.declared.dump.lines.DumpLine.{DumpLine}
use Rattle.tlv_text.specs.declared.dump.lines.Offset.{Offset}
use Rattle.tlv_text.specs.declared.dump.lines.Radix.{Radix}
use Rattle.tlv_text.specs.declared.dump.lines.RowLine.{RowLine}
use Rattle.tlv_text.specs.declared.dump.output.Output.{Output}
use Rattle.tlv_text.specs.declared.dump.rows.LastRow.{LastRow}

-- a colon or a blank (every row with a pair has one of them), or an asterisk (every repeat has one)
abbrev pub is_row_sign : ℕ → Bool
is_row_sign x = (x == 58) || is_dump_blank x || (x == 42)

abbrev pub offset_seen : Offset → OffsetRead
offset_seen offset = record { count = offset.count; number = offset.number; rest = offset.rest.now }

-- 4 to 16 digits, and what may follow them
abbrev pub begins_offset : Radix → List ℕ → Bool
begins_offset radix text =
    nat_le 4 (offset_read radix 0 0 text).count && ends_offset (offset_read radix 0 0 text).rest

abbrev pub row_seen : RowLine → RowRead
row_seen row = record { digits = row.digits; offset = row.offset; rest = row.rest.now }

abbrev pub dump_kind_of : DumpLine → LineKind
dump_kind_of DumpLine.Blank = LineKind.blank
dump_kind_of DumpLine.Repeat = LineKind.repeat
dump_kind_of (DumpLine.Row row) = LineKind.row (row_seen row)
dump_kind_of DumpLine.Other = LineKind.other

-- the place that the last row stands for
abbrev pub dump_place_of : LastRow → DumpPlace
dump_place_of row = record { phase = row.phase; offset = row.offset; octets = pair_octets row.digits.items }

-- the output is these octets, or there are more of them than this limit
pub record RowHolds (limit : ℕ) (out : Output) (octets : List ℕ) : Type 0 where
  pub limit_is : out.limit ≡ limit
  pub are : out.over ≡ false → out.octets.items ≡ octets
  pub fit : out.over ≡ false → length octets ≤ limit
  pub too_many : out.over ≡ true → limit < length octets

-- the octets are added after the octets of the output
abbrev pub IsAdded : List ℕ → Output → Output → Type 0
IsAdded more old new = (limit : ℕ) (octets : List ℕ) → RowHolds limit old octets → RowHolds limit new (octets ++ more)

-- the step is taken, if there is one; otherwise the output stays
abbrev pub IsTaken : Option Step → Bool → LastRow → Output → Output → Type 0
IsTaken (Some s) true row old new = (dump_place_of row ≡ s.place) × IsAdded s.octets old new
IsTaken (Some s) false row old new = ⊥
IsTaken None true row old new = ⊥
IsTaken None false row old new = old ≡ new

-- the octets of the first row are added, if it fits
abbrev pub IsFirstRow : Option (List ℕ) → Bool → Output → Output → Type 0
IsFirstRow (Some octets) true old new = IsAdded octets old new
IsFirstRow (Some octets) false old new = ⊥
IsFirstRow None true old new = ⊥
IsFirstRow None false old new = Unit {0}

-- a reading has what is read
pub record Reads (limit : ℕ) (read : PartRead) (reading : Reading) : Type 0 where
  pub output : RowHolds limit reading.output read.octets
  pub left : reading.left ≡ read.left
