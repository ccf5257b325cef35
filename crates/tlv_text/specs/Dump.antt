-- Octets of a hex dump with offsets, as xxd, hexdump -C, od -Ax -tx1, od -tx1, Wireshark, tcpdump -x, Format-Hex,
-- BIO_dump and gdb (x/xb) write it. By lines, each with its line feed and perhaps a carriage return before it:
--
--   dump   = *(other / empty) (single / rows)
--   single = row *empty                        one row alone: its offset is 0, or a colon or a symbol follows it
--   rows   = row *(empty / row / repeat) [end] *empty
--   row    = *blank ["0x" / "0X"] 4*16digit (":" / 1*blank [symbol] [":"]) ["-"] *blank pair *(gap pair) [others]
--   symbol = "<" *character ">"                gdb writes one after an address
--   pair   = ["0x" / "0X"] 2digit              each pair of a row has "0x", as gdb writes it, or none has
--   repeat = *blank "*" *blank                 the octets of the row before, up to the offset of the row after
--   end    = *blank ["0x" / "0X"] 4*16digit *blank
--   empty  = *blank
--   gap    = "-" / 1*2blank                    "-" / blank in a single row; or nothing, if a colon follows the offset
--                                              at once
--   others = *(blank / character)              not more characters than the row has octets, and two more: bars; and not
--                                              a colon first, nor the row after it, behind blanks. After pairs with "0x"
--                                              there are blanks alone
use Rattle.std.specs.Prelude.{◌<◌, ℕ, zero, suc, ◌+◌, ◌-◌, ◌/◌, ◌%◌, ◌==◌, Bool, true, false, ◌&&◌, min, nat_le}
use Rattle.std.specs.Prelude.{nat_lt}
use Rattle.std.specs.Prelude.{if◌then◌else◌, List, [], ◌∷◌, ◌++◌, length, Option, Some, None}
use Rattle.std.specs.List.{list_all}
use Rattle.tlv_text.specs.declared.text_fault.TextFault.{TextFault}
use Rattle.tlv_text.specs.declared.text_fault.TextFault.TheVariants.{Memory, TooLong}
use Rattle.tlv_text.specs.DumpLines.{LineKind, RowRead, TextLine, dump_lines, has_od_offset, is_dump_blank, line_kind}
use Rattle.tlv_text.specs.DumpPairs.{dump_row_octets, has_pair, single_row_octets}
use Rattle.tlv_text.specs.DumpWords.{has_other_octets}
use Rattle.tlv_text.specs.TextRead.{PartRead, refused_with}
use Rattle.tlv_text.specs.declared.dump.lines.Radix.{Radix}
use Rattle.tlv_text.specs.declared.dump.lines.Radix.TheVariants.{Hexadecimal, Octal}
use Rattle.tlv_text.specs.declared.dump.rows.Phase.{Phase}

-- ---- rows

abbrev pub octets_repeated : ℕ → List ℕ → List ℕ
octets_repeated zero octets = []
octets_repeated (suc n) octets = octets ++ octets_repeated n octets

-- where the reading is: the offset and the octets of the last row, and what came last: that row, a repeat with the
-- number of characters from it on, or the end
pub record DumpPlace : Type 0 where
  pub phase : Phase
  pub offset : ℕ
  pub octets : List ℕ

-- a step reads octets and leads to a place
pub record Step : Type 0 where
  pub octets : List ℕ
  pub place : DumpPlace

-- as many octets as a row has
abbrev pub is_full : ℕ → DumpPlace → Bool
is_full size place = length place.octets == size

-- the number of times the row before is repeated ahead of a row with this offset; none if the offset does not fit
abbrev pub times_in : ℕ → Phase → DumpPlace → ℕ → Option ℕ
times_in size Phase.Row place offset =
    if offset == place.offset + length place.octets then Some 0 else None
times_in size (Phase.Repeat left) place offset =
    if nat_lt (place.offset + size) offset && ((offset - (place.offset + size)) % size == 0) then
    Some ((offset - (place.offset + size)) / size)
    else None
times_in size Phase.End place offset = None

abbrev pub times_before : ℕ → DumpPlace → ℕ → Option ℕ
times_before size place offset = times_in size place.phase place offset

abbrev pub at_row : Phase → Bool
at_row Phase.Row = true
at_row (Phase.Repeat left) = false
at_row Phase.End = false

abbrev pub with_row : List ℕ → ℕ → Option (List ℕ) → Option Step
with_row before offset None = None
with_row before offset (Some octets) =
    Some (record { octets = before ++ octets; place = record { phase = Phase.Row; offset = offset; octets = octets } })

-- a row: an end, or, after a full row, a row with pairs
abbrev pub dump_row_step : ℕ → DumpPlace → RowRead → Option ℕ → Option Step
dump_row_step size place r None = None
dump_row_step size place r (Some times) =
    let before : List ℕ = octets_repeated times place.octets in
    if list_all is_dump_blank r.rest then Some (record { octets = before; place = record place { phase = Phase.End } })
    else (if is_full size place then with_row before r.offset (dump_row_octets size r) else None)

-- what a line adds at a place, if it fits there; `left` is the number of characters from the line on
abbrev pub dump_line_step : ℕ → DumpPlace → ℕ → LineKind → Option Step
dump_line_step size place left LineKind.blank = Some (record { octets = []; place = place })
dump_line_step size place left LineKind.repeat =
    if at_row place.phase && is_full size place then
    Some (record { octets = []; place = record place { phase = Phase.Repeat left } })
    else None
dump_line_step size place left (LineKind.row r) = dump_row_step size place r (times_before size place r.offset)
dump_line_step size place left LineKind.other = None

abbrev pub dump_place_after : Option Step → DumpPlace → DumpPlace
dump_place_after (Some s) place = s.place
dump_place_after None place = place

abbrev pub dump_step_then : Option Step → ℕ → PartRead → PartRead
dump_step_then (Some s) left more = record more { octets = s.octets ++ more.octets }
dump_step_then None left more = refused_with left

-- a repeat with no row after it does not fit
abbrev pub left_in : Phase → Option ℕ
left_in Phase.Row = None
left_in (Phase.Repeat left) = Some left
left_in Phase.End = None

-- what is read of the lines after the first row, up to the first that does not fit
abbrev pub rows_read : Radix → ℕ → DumpPlace → List TextLine → PartRead
rows_read radix size place [] = record { octets = []; left = left_in place.phase }
rows_read radix size place (line ∷ lines) =
    let next : Option Step = dump_line_step size place line.left (line_kind radix line.characters) in
    dump_step_then next line.left (rows_read radix size (dump_place_after next place) lines)

-- ---- a whole dump

-- the number of octets in a row, given the difference of the first two offsets: 1 to 256. With another difference the
-- second row does not fit, and the first one is read with 16
abbrev pub size_by : ℕ → ℕ
size_by difference = if nat_le 1 difference && nat_le difference 256 then difference else 16

abbrev pub size_at : ℕ → LineKind → Option ℕ → Option ℕ
size_at first LineKind.blank more = more
size_at first LineKind.repeat more = Some 16
size_at first (LineKind.row r) more = Some (size_by (r.offset - first))
size_at first LineKind.other more = more

-- the number of octets in a row, given the lines after the first row, which has this offset; none if it is a single row
abbrev pub size_in : Radix → ℕ → List TextLine → Option ℕ
size_in radix first [] = None
size_in radix first (line ∷ lines) = size_at first (line_kind radix line.characters) (size_in radix first lines)

-- the first row, and what is read of the lines after it
abbrev pub first_then : Option (List ℕ) → ℕ → PartRead → PartRead
first_then (Some octets) left more = record more { octets = octets ++ more.octets }
first_then None left more = refused_with left

abbrev pub octets_or_none : Option (List ℕ) → List ℕ
octets_or_none (Some octets) = octets
octets_or_none None = []

abbrev pub dump_place_at : Phase → ℕ → List ℕ → DumpPlace
dump_place_at phase offset octets = record { phase = phase; offset = offset; octets = octets }

-- what is read from the first row on, given the number of octets in a row
abbrev pub read_from : Radix → RowRead → ℕ → List TextLine → Option ℕ → PartRead
read_from radix r left lines None =
    first_then (single_row_octets r) left (rows_read radix 16 (dump_place_at Phase.End r.offset []) lines)
read_from radix r left lines (Some size) =
    first_then (dump_row_octets size r) left
    (rows_read radix size (dump_place_at Phase.Row r.offset (octets_or_none (dump_row_octets size r))) lines)

-- what is read from the first row on, which is refused if its octets are others than its pairs
abbrev pub read_in_order : Radix → RowRead → ℕ → List TextLine → PartRead
read_in_order radix r left lines =
    if has_other_octets r then refused_with left
    else read_from radix r left lines (size_in radix r.offset lines)

-- other lines before the first row are passed over; a text without a row is refused at its end
abbrev pub first_at : Radix → LineKind → ℕ → List TextLine → PartRead → PartRead
first_at radix LineKind.blank left lines more = more
first_at radix LineKind.repeat left lines more = refused_with left
first_at radix (LineKind.row r) left lines more =
    if has_pair r then read_in_order radix r left lines else more
first_at radix LineKind.other left lines more = more

abbrev pub lines_read : Radix → List TextLine → PartRead
lines_read radix [] = refused_with 0
lines_read radix (line ∷ lines) =
    first_at radix (line_kind radix line.characters) line.left lines (lines_read radix lines)

abbrev pub dump_in : Radix → List ℕ → PartRead
dump_in radix text = lines_read radix (dump_lines text)

-- whether the offset of the first row has seven octal digits and no colon after it, as od writes it, given what each
-- line is with hexadecimal offsets and with octal offsets
abbrev pub octal_first_at : LineKind → LineKind → Bool → Bool
octal_first_at LineKind.blank octal more = more
octal_first_at LineKind.repeat octal more = more
octal_first_at (LineKind.row r) octal more = if has_pair r then has_od_offset octal else more
octal_first_at LineKind.other octal more = more

abbrev pub is_octal_first : List TextLine → Bool
is_octal_first [] = false
is_octal_first (line ∷ lines) =
    octal_first_at (line_kind Hexadecimal line.characters) (line_kind Octal line.characters) (is_octal_first lines)

-- a reading is whole, or it is refused further on than another one, given the number of characters from where each is
-- refused
abbrev pub goes_further : Option ℕ → Option ℕ → Bool
goes_further None other = true
goes_further (Some left) None = false
goes_further (Some left) (Some other) = nat_lt left other

-- offsets are octal if they look like the offsets of od, and the text read so is not refused, or is refused further on
-- than with hexadecimal offsets. Otherwise they are hexadecimal. The Bool says that they are octal
abbrev pub is_octal_dump : List ℕ → Bool
is_octal_dump text =
    is_octal_first (dump_lines text) && goes_further (dump_in Octal text).left (dump_in Hexadecimal text).left

-- what is read of a dump
abbrev pub dump_read : List ℕ → PartRead
dump_read text = if is_octal_dump text then dump_in Octal text else dump_in Hexadecimal text

-- the maximum number of octets in all blocks of a text: 2^30
abbrev pub dump_limit : ℕ
dump_limit = 1073741824

-- they are at most 2^24 more than the text has characters, since repeats in a dump may stand for many octets
abbrev pub text_limit : List ℕ → ℕ
text_limit text = min dump_limit (length text + 16777216)

-- why a text is not decoded: it has too many octets, or memory is refused
abbrev pub IsFault : List ℕ → TextFault → Type 0
IsFault text TooLong = text_limit text < length (dump_read text).octets
IsFault text Memory = Unit {0}
