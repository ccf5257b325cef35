-- A text without a colon, a blank and an asterisk has no row with a pair and no repeat.
use Rattle.std.proofs.Common.{◌≡◌, ℕ, zero, suc, ◌+◌, ◌-◌, ◌*◌, ◌==◌, ◌<◌, Bool, true, false, ◌&&◌, ◌||◌, nat_le, nat_lt, List, [], ◌∷◌}
use Rattle.std.proofs.Common.{length, take, slice_index, refl, ap, sym, ◌∙◌, arith, Option, Some, None}
use Rattle.std.specs.Prelude.{if◌then◌else◌, is_some}
use Rattle.std.specs.List.{list_any}
use Rattle.std.proofs.lemmas.Bool.{false_from_ne_true}
use Rattle.std.proofs.lemmas.List.Elements.{All-from_get_or}
use Rattle.std.proofs.lemmas.List.Folds.{list_any_at, list_any_none}
use Rattle.std.proofs.Math.Seq.{drop-length}
use Rattle.memchr.specs.Find.{IsFirstByte, is_byte, is_byte3}
use Rattle.tlv_text.specs.Dump.{dump_in, dump_read, first_at, is_octal_first, lines_read, octal_first_at}
use Rattle.tlv_text.specs.DumpEnds.{begins_dump_row}
use Rattle.tlv_text.specs.TextRead.{PartRead, refused_with}
use Rattle.tlv_text.specs.DumpLines.{LineKind, OffsetRead, RowRead, TextLine, after_blanks, after_prefix, dump_lines}
use Rattle.tlv_text.specs.DumpLines.{into_line, is_digit_of, is_dump_blank, kind_from, line_kind, new_text_line}
use Rattle.tlv_text.specs.DumpLines.{base, offset_read, row_of, row_or_other, without_return}
use Rattle.tlv_text.specs.DumpPairs.{has_pair}
use Rattle.tlv_text.specs.Pairs.{hex_value}
use Rattle.tlv_text.specs.Private.DumpSteps.{is_row_sign}
use Rattle.tlv_text.specs.declared.dump.lines.Radix.TheVariants.{Hexadecimal, Octal}
use Rattle.tlv_text.proofs.Slices.{from-on, slice_from}

-- ---- such a text

abbrev pub NoSign : List ℕ → Type 0
NoSign text = list_any is_row_sign text ≡ false

or-parts : (a b : Bool) → (a || b) ≡ false → (a ≡ false) × (b ≡ false)
or-parts true b e = absurd (cc)
or-parts false b e = (refl, e)

head-none : (x : ℕ) (text : List ℕ) → NoSign (x ∷ text) → is_row_sign x ≡ false
head-none x text e = (or-parts (is_row_sign x) (list_any is_row_sign text) e).0

tail-none : (x : ℕ) (text : List ℕ) → NoSign (x ∷ text) → NoSign text
tail-none x text e = (or-parts (is_row_sign x) (list_any is_row_sign text) e).1

cons-none : (x : ℕ) (text : List ℕ) → is_row_sign x ≡ false → NoSign text → NoSign (x ∷ text)
cons-none x text e none = rw e none

-- a character that is none of them
ends-none : (x : ℕ) → is_row_sign x ≡ false → ((x == 58) || is_dump_blank x) ≡ false
ends-none x e =
    (or-parts ((x == 58) || is_dump_blank x) (x == 42) e).0

asterisk-none : (x : ℕ) → is_row_sign x ≡ false → (x == 42) ≡ false
asterisk-none x e =
    (or-parts ((x == 58) || is_dump_blank x) (x == 42) e).1

-- ---- whether a text has one

sign-there : (text : List ℕ) (n : ℕ) → n < length text → is_row_sign (slice_index text n) ≡ true
    → true ≡ list_any is_row_sign text
sign-there text n less e = sym (list_any_at is_row_sign text n 0 less e)

asterisk : (x : ℕ) → is_byte 42 x ≡ true → is_row_sign x ≡ true
asterisk x e = by (x == 58) (is_dump_blank x) (x == 42) e
  where
    by : (a b c : Bool) → c ≡ true → (a || b || c) ≡ true
    by true b c e = refl
    by false true c e = refl
    by false false c e = e

neither : (x : ℕ) → is_byte3 58 32 9 x ≡ false → is_byte 42 x ≡ false → is_row_sign x ≡ false
neither x e f = by (x == 58) (x == 32) (x == 9) (x == 42) e f
  where
    by : (a b c d : Bool) → (a || b || c) ≡ false → d ≡ false → (a || (b || c) || d) ≡ false
    by true b c d e f = cc e
    by false true c d e f = cc e
    by false false true d e f = cc e
    by false false false d e f = f

sign-none : (text : List ℕ) → IsFirstByte (is_byte3 58 32 9) text None → IsFirstByte (is_byte 42) text None
    → false ≡ list_any is_row_sign text
sign-none text f g =
    sym (list_any_none is_row_sign text (All-from_get_or (λ x. is_row_sign x ≡ false) text 0
    (λ k less.
    neither (slice_index text k) (false_from_ne_true (is_byte3 58 32 9 (slice_index text k)) (f k (omega arith) less))
    (false_from_ne_true (is_byte 42 (slice_index text k)) (g k (omega arith) less)))))

pub sign-by_asterisk : (text : List ℕ) (first second : Option ℕ) → IsFirstByte (is_byte3 58 32 9) text first
    → is_some first ≡ false → IsFirstByte (is_byte 42) text second → is_some second ≡ list_any is_row_sign text
sign-by_asterisk text (Some n) second f e g = cc e
sign-by_asterisk text None None f e g = sign-none text f g
sign-by_asterisk text None (Some n) f e g = sign-there text n g.0.high (asterisk (slice_index text n) g.1)

-- ---- its lines

abbrev AreWithout : List TextLine → Type 0
AreWithout [] = Unit {0}
AreWithout (line ∷ lines) = NoSign line.characters × AreWithout lines

into-without : (x left : ℕ) (lines : List TextLine) → is_row_sign x ≡ false → AreWithout lines
    → AreWithout (into_line x left lines)
into-without x left [] e all = (cons-none x [] e refl, tt)
into-without x left (line ∷ lines) e all = (cons-none x line.characters e all.0, all.1)

feed-without : (b : Bool) (x left : ℕ) (lines : List TextLine) → is_row_sign x ≡ false → AreWithout lines
    → AreWithout (if b then new_text_line [] left ∷ lines else into_line x left lines)
feed-without true x left lines e all = (refl, all)
feed-without false x left lines e all = into-without x left lines e all

lines-without : (text : List ℕ) → NoSign text → AreWithout (dump_lines text)
lines-without [] none = tt
lines-without (x ∷ text) none =
    feed-without (x == 10) x (length (x ∷ text)) (dump_lines text) (head-none x text none)
    (lines-without text (tail-none x text none))

-- ---- what such a line is

take-none : (n : ℕ) (text : List ℕ) → NoSign text → NoSign (take n text)
take-none zero text none = refl
take-none (suc n) [] none = refl
take-none (suc n) (x ∷ text) none =
    cons-none x (take n text) (head-none x text none) (take-none n text (tail-none x text none))

either-none : (b : Bool) (xs ys : List ℕ) → NoSign xs → NoSign ys → NoSign (if b then xs else ys)
either-none true xs ys f g = f
either-none false xs ys f g = g

blanks-none : (text : List ℕ) → NoSign text → NoSign (after_blanks text)
blanks-none [] none = refl
blanks-none (x ∷ text) none =
    either-none (is_dump_blank x) (after_blanks text) (x ∷ text) (blanks-none text (tail-none x text none)) none

prefix-none : (text : List ℕ) → NoSign text → NoSign (after_prefix text)
prefix-none [] none = refl
prefix-none (x ∷ []) none = none
prefix-none (x ∷ y ∷ text) none =
    either-none ((x == 48) && ((y == 120) || (y == 88))) text (x ∷ y ∷ text)
    (tail-none y text (tail-none x (y ∷ text) none)) none

either-rest : (b : Bool) (more kept : OffsetRead) → NoSign more.rest → NoSign kept.rest
    → NoSign (if b then more else kept).rest
either-rest true more kept f g = f
either-rest false more kept f g = g

offset-none : (count number : ℕ) (text : List ℕ) → NoSign text
    → NoSign (offset_read Hexadecimal count number text).rest
offset-none count number [] none = refl
offset-none count number (x ∷ text) none =
    either-rest (nat_lt count 16 && is_digit_of Hexadecimal x)
    (offset_read Hexadecimal (count + 1) (number * base Hexadecimal + hex_value x) text)
    (record { count = count; number = number; rest = x ∷ text })
    (offset-none (count + 1) (number * base Hexadecimal + hex_value x) text (tail-none x text none)) none

row-if : (b : Bool) (r : RowRead) → has_pair r ≡ false
    → begins_dump_row (row_or_other (if b then Some r else None)) ≡ false
row-if true r e = e
row-if false r e = refl

no-row : (b : Bool) (r : RowRead) → begins_dump_row (row_or_other (if b && false then Some r else None)) ≡ false
no-row true r = refl
no-row false r = refl

row-none : (count number : ℕ) (rest : List ℕ) → NoSign rest
    → begins_dump_row (row_or_other (row_of (record { count = count; number = number; rest = rest }))) ≡ false
row-none count number [] none =
    row-if (nat_le 4 count && true) (record { digits = count; offset = number; rest = [] }) refl
row-none count number (x ∷ rest) none =
    rw (ends-none x (head-none x rest none))
    (no-row (nat_le 4 count) (record { digits = count; offset = number; rest = x ∷ rest }))

kind-none : (text : List ℕ) → NoSign text → begins_dump_row (kind_from Hexadecimal text) ≡ false
kind-none [] none = refl
kind-none (x ∷ text) none =
    rw (asterisk-none x (head-none x text none))
    (row-none (offset_read Hexadecimal 0 0 (after_prefix (x ∷ text))).count
    (offset_read Hexadecimal 0 0 (after_prefix (x ∷ text))).number
    (offset_read Hexadecimal 0 0 (after_prefix (x ∷ text))).rest
    (offset-none 0 0 (after_prefix (x ∷ text)) (prefix-none (x ∷ text) none)))

line-none : (line : List ℕ) → NoSign line → begins_dump_row (line_kind Hexadecimal line) ≡ false
line-none line none =
    kind-none (after_blanks (without_return line))
    (blanks-none (without_return line)
    (either-none (slice_index line (length line - 1) == 13) (take (length line - 1) line) line
    (take-none (length line - 1) line none) none))

-- ---- what is read of it

first-passed : (kind : LineKind) (left : ℕ) (lines : List TextLine) (more : PartRead) → begins_dump_row kind ≡ false
    → first_at Hexadecimal kind left lines more ≡ more
first-passed LineKind.blank left lines more e = refl
first-passed LineKind.repeat left lines more e = cc e
first-passed (LineKind.row r) left lines more e = rw e refl
first-passed LineKind.other left lines more e = refl

octal-passed : (kind octal : LineKind) (more : Bool) → begins_dump_row kind ≡ false
    → octal_first_at kind octal more ≡ more
octal-passed LineKind.blank octal more e = refl
octal-passed LineKind.repeat octal more e = refl
octal-passed (LineKind.row r) octal more e = rw e refl
octal-passed LineKind.other octal more e = refl

-- lines of which none is a row with a pair or a repeat
abbrev pub NoneStarts : List TextLine → Type 0
NoneStarts [] = Unit {0}
NoneStarts (line ∷ lines) = (begins_dump_row (line_kind Hexadecimal line.characters) ≡ false) × NoneStarts lines

pub none-read : (lines : List TextLine) → NoneStarts lines → lines_read Hexadecimal lines ≡ refused_with 0
none-read [] all = refl
none-read (line ∷ lines) all =
    first-passed (line_kind Hexadecimal line.characters) line.left lines (lines_read Hexadecimal lines) all.0
    ∙ none-read lines all.1

pub none-octal : (lines : List TextLine) → NoneStarts lines → is_octal_first lines ≡ false
none-octal [] all = refl
none-octal (line ∷ lines) all =
    octal-passed (line_kind Hexadecimal line.characters) (line_kind Octal line.characters) (is_octal_first lines) all.0
    ∙ none-octal lines all.1

none-starts : (lines : List TextLine) → AreWithout lines → NoneStarts lines
none-starts [] all = tt
none-starts (line ∷ lines) all = (line-none line.characters all.0, none-starts lines all.1)

lines-none : (text : List ℕ) → NoSign text → NoneStarts (dump_lines text)
lines-none text none = none-starts (dump_lines text) (lines-without text none)

pub no-row_read : (text : List ℕ) → NoSign text → dump_read text ≡ refused_with 0
no-row_read text none =
    let starts-none = lines-none text none in
    rw (none-octal (dump_lines text) starts-none) (none-read (dump_lines text) starts-none)

at-end : (text : List ℕ) → slice_from (length text) text ≡ []
at-end text = from-on (length text) text ∙ drop-length text

pub read-at_end : (text : List ℕ) → false ≡ list_any is_row_sign text
    → dump_in Hexadecimal (slice_from (length text) text) ≡ dump_in Hexadecimal text
read-at_end text none =
    ap (dump_in Hexadecimal) (at-end text) ∙ sym (none-read (dump_lines text) (lines-none text (sym none)))

pub octal-at_end : (text : List ℕ) → false ≡ list_any is_row_sign text
    → is_octal_first (dump_lines (slice_from (length text) text)) ≡ is_octal_first (dump_lines text)
octal-at_end text none =
    ap (λ (rest : List ℕ). is_octal_first (dump_lines rest)) (at-end text)
    ∙ sym (none-octal (dump_lines text) (lines-none text (sym none)))
