-- Where a hex dump ends: in front of a line that is no row, as the prompt of a shell behind the output of xxd. And the
-- offset at which it begins.
use Rattle.std.specs.Prelude.{ℕ, Bool, true, false, ◌&&◌, ◌||◌, not, List, [], ◌∷◌, drop, if◌then◌else◌, take}
use Rattle.tlv_text.specs.Dump.{is_octal_dump}
use Rattle.tlv_text.specs.DumpLines.{LineKind, TextLine, dump_lines, line_kind}
use Rattle.tlv_text.specs.DumpPairs.{has_pair}
use Rattle.tlv_text.specs.declared.dump.lines.Radix.{Radix}
use Rattle.tlv_text.specs.declared.dump.lines.Radix.TheVariants.{Hexadecimal, Octal}

-- ---- its end

-- a row with a pair, or a repeat. A line with an offset and no pair after it is none
abbrev pub begins_dump_row : LineKind → Bool
begins_dump_row LineKind.blank = false
begins_dump_row LineKind.repeat = true
begins_dump_row (LineKind.row r) = has_pair r
begins_dump_row LineKind.other = false

-- one of these lines is such a line
abbrev pub has_dump_row : List TextLine → Bool
has_dump_row [] = false
has_dump_row (line ∷ lines) = begins_dump_row (line_kind Hexadecimal line.characters) || has_dump_row lines

-- a line with an offset, even one with no pair after it: a row that is damaged
abbrev pub names_offset : LineKind → Bool
names_offset LineKind.blank = false
names_offset LineKind.repeat = false
names_offset (LineKind.row r) = true
names_offset LineKind.other = false

-- the first of these lines is such a line
abbrev pub has_first_offset : List TextLine → Bool
has_first_offset [] = false
has_first_offset (line ∷ lines) = names_offset (line_kind Hexadecimal line.characters)

abbrev pub repeats_at : LineKind → Bool → Bool
repeats_at LineKind.blank before = before
repeats_at LineKind.repeat before = true
repeats_at (LineKind.row r) before = false
repeats_at LineKind.other before = false

-- the last of these lines that is not empty is a repeat; if there is no such line, it is as before these lines
abbrev pub ends_with_repeat : Bool → List TextLine → Bool
ends_with_repeat before [] = before
ends_with_repeat before (line ∷ lines) =
    ends_with_repeat (repeats_at (line_kind Hexadecimal line.characters) before) lines

-- a dump that is refused at a place, where a line begins, ends in front of this line. The line is no damaged row: it
-- has no offset. No row and no repeat comes from there on. And the dump is whole up to there: what comes last is no
-- repeat, of which only the row behind it says how many rows it stands for
abbrev pub ends_dump : List ℕ → ℕ → Bool
ends_dump text place =
    not (has_first_offset (dump_lines (drop place text))) && not (has_dump_row (dump_lines (drop place text)))
    && not (ends_with_repeat false (dump_lines (take place text)))

-- ---- its beginning

abbrev pub offset_or : LineKind → ℕ → ℕ
offset_or LineKind.blank more = more
offset_or LineKind.repeat more = more
offset_or (LineKind.row r) more = if has_pair r then r.offset else more
offset_or LineKind.other more = more

-- the offset of the first row that has a pair
abbrev pub first_offset : Radix → List TextLine → ℕ
first_offset radix [] = 0
first_offset radix (line ∷ lines) = offset_or (line_kind radix line.characters) (first_offset radix lines)

-- the radix with which a dump is read
abbrev pub dump_radix : List ℕ → Radix
dump_radix text = if is_octal_dump text then Octal else Hexadecimal

-- the offset at which a dump begins
abbrev pub dump_offset : List ℕ → ℕ
dump_offset text = first_offset (dump_radix text) (dump_lines text)
