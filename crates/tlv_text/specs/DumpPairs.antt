-- The pairs of a row of a hex dump, and what comes before, between and after them.
use Rattle.std.specs.Prelude.{ℕ, zero, suc, ◌+◌, ◌==◌, Bool, true, false, ◌&&◌, ◌||◌, not, nat_le, if◌then◌else◌}
use Rattle.std.specs.Prelude.{List, [], ◌∷◌, count_by, drop, length, Option, Some, None}
use Rattle.hex.specs.Hex.{is_hex_digit}
use Rattle.tlv_text.specs.DumpLines.{RowRead, after_blanks, after_prefix, begins_colon, is_dump_blank, row_at}
use Rattle.tlv_text.specs.Pairs.{pair_octet}
use Rattle.tlv_text.specs.TextRead.{TextRead, nothing_read, octets_then}
use Rattle.tlv_text.specs.declared.dump.lines.Radix.TheVariants.{Hexadecimal, Octal}
use Rattle.tlv_text.specs.declared.dump.pairs.Gap.{Gap}

-- the text without this character, if it comes first
abbrev pub after_one : ℕ → List ℕ → List ℕ
after_one c [] = []
after_one c (x ∷ text) = if x == c then text else x ∷ text

-- the text after this character; empty if it has none
abbrev pub after_first : ℕ → List ℕ → List ℕ
after_first c [] = []
after_first c (x ∷ text) = if x == c then text else after_first c text

-- the text without a symbol between < and >, if it comes first: gdb writes one after an address
abbrev pub after_symbol : List ℕ → List ℕ
after_symbol [] = []
after_symbol (x ∷ text) = if x == 60 then after_first 62 text else x ∷ text

-- a symbol comes first
abbrev pub begins_symbol_name : List ℕ → Bool
begins_symbol_name [] = false
begins_symbol_name (x ∷ text) = x == 60

-- the text after leading blanks, a symbol, a colon, a hyphen and blanks
abbrev pub after_offset : List ℕ → List ℕ
after_offset rest = after_blanks (after_one 45 (after_one 58 (after_symbol (after_blanks rest))))

-- `0x` or `0X` comes first
abbrev pub begins_prefix : List ℕ → Bool
begins_prefix (x ∷ y ∷ text) = (x == 48) && ((y == 120) || (y == 88))
begins_prefix text = false

-- the text from the digits of the first pair on: gdb writes `0x` before each pair
abbrev pub before_pairs : List ℕ → List ℕ
before_pairs rest = after_prefix (after_offset rest)

-- the text after at most this number of leading blanks
abbrev pub after_few : ℕ → List ℕ → List ℕ
after_few zero text = text
after_few (suc n) [] = []
after_few (suc n) (x ∷ text) = if is_dump_blank x then after_few n text else x ∷ text

-- the text after what may be between two pairs: a hyphen, or blanks, or nothing where pairs may be joined; where they
-- may not, no pair follows a pair at once
abbrev pub after_separator : Gap → List ℕ → List ℕ
after_separator gap [] = []
after_separator gap (x ∷ text) =
    if x == 45 then text
    else (if gap.joined || is_dump_blank x then after_few gap.blanks (x ∷ text) else [])

-- the text without the `0x` that comes first; empty if none does
abbrev pub without_prefix : List ℕ → List ℕ
without_prefix text = if begins_prefix text then drop 2 text else []

-- the text from the digits of the next pair on
abbrev pub after_gap : Gap → List ℕ → List ℕ
after_gap gap text =
    if gap.prefixed then without_prefix (after_separator gap text) else after_separator gap text

-- the gap with at most this number of blanks. Pairs may be joined only if a colon follows the offset at once: without
-- one, they are words of 16 or 32 bits, as hexdump and od -tx2 write them, and their octets may be swapped. If the
-- first pair has `0x` before it, each has
abbrev pub gap_of : ℕ → List ℕ → Gap
gap_of blanks rest =
    record { blanks = blanks; joined = begins_colon rest; prefixed = begins_prefix (after_offset rest) }

abbrev pub begins_digit : List ℕ → Bool
begins_digit [] = false
begins_digit (x ∷ text) = is_hex_digit x

abbrev pub begins_pair : List ℕ → Bool
begins_pair (x ∷ y ∷ text) = is_hex_digit x && is_hex_digit y
begins_pair text = false

-- the octet of the pair that a text begins with
abbrev pub leading_octet : List ℕ → ℕ
leading_octet (x ∷ y ∷ text) = pair_octet x y
leading_octet text = 0

-- the octets of at most this number of pairs, each after a gap, and the rest after the last of them
abbrev pub pairs_after : ℕ → Gap → List ℕ → TextRead
pairs_after zero gap text = nothing_read text
pairs_after (suc n) gap text =
    let next : List ℕ = after_gap gap text in
    if begins_pair next then octets_then (leading_octet next ∷ []) (pairs_after n gap (drop 2 next))
    else nothing_read text

-- the same, with no gap before the first pair
abbrev pub pairs_at : ℕ → Gap → List ℕ → TextRead
pairs_at zero gap text = nothing_read text
pairs_at (suc n) gap text =
    if begins_pair text then octets_then (leading_octet text ∷ []) (pairs_after n gap (drop 2 text))
    else nothing_read text

-- a blank or the end of the line comes first
abbrev pub begins_blank : List ℕ → Bool
begins_blank [] = true
begins_blank (x ∷ text) = is_dump_blank x

-- the text begins with a pair that a blank or the end follows
abbrev pub begins_lone_pair : List ℕ → Bool
begins_lone_pair text = begins_pair text && begins_blank (drop 2 text)

-- a digit follows the pairs at once, or, after a full row, a lone pair follows after one blank
abbrev pub has_more_digits : ℕ → TextRead → Bool
has_more_digits size read =
    begins_digit read.rest || ((length read.octets == size) && begins_lone_pair (after_few 1 read.rest))

-- octets 80 to bf are the further octets of a character of UTF-8
abbrev pub is_further : ℕ → Bool
is_further x = nat_le 0x80 x && nat_le x 0xbf

-- the number of characters of a text, without blanks
abbrev pub others_count : List ℕ → ℕ
others_count text = count_by (λ x. not (is_dump_blank x || is_further x)) text

-- not more characters come after the pairs of a row than the row has octets, and two more, for bars. If there are more,
-- something else follows the row in its line, such as the next row. After pairs with `0x` there are none
abbrev pub has_few_others : Bool → ℕ → List ℕ → Bool
has_few_others prefixed octets rest =
    if prefixed then others_count rest == 0 else nat_le (others_count rest) (octets + 2)

-- a row has this offset
abbrev pub has_offset : ℕ → Option RowRead → Bool
has_offset offset None = false
has_offset offset (Some r) = r.offset == offset

-- behind blanks, a row with this offset begins, hexadecimal or octal
abbrev pub begins_row_at : ℕ → List ℕ → Bool
begins_row_at offset rest =
    has_offset offset (row_at Hexadecimal (after_blanks rest)) || has_offset offset (row_at Octal (after_blanks rest))

-- the line of a row with this offset and this number of octets holds no more than the row: few other characters come
-- after the pairs, and the row after it does not begin there. If one does, a line end is lost. A colon at once shows
-- that the last pairs are the digits of its offset
abbrev pub ends_line : Bool → ℕ → ℕ → List ℕ → Bool
ends_line prefixed offset octets rest =
    has_few_others prefixed octets rest && not (begins_colon rest || begins_row_at (offset + octets) rest)

-- one pair or more, no more digits after them, and no more in the line than the row
abbrev pub row_fits : ℕ → ℕ → Gap → List ℕ → TextRead → Bool
row_fits size offset gap text read =
    begins_pair text && not (has_more_digits size read)
    && ends_line gap.prefixed offset (length read.octets) read.rest

abbrev pub octets_if : Bool → List ℕ → Option (List ℕ)
octets_if fits octets = if fits then Some octets else None

-- the octets of a row among others, if it fits; a row has `size` octets, and the last row may have fewer
abbrev pub dump_row_octets : ℕ → RowRead → Option (List ℕ)
dump_row_octets size r =
    let text : List ℕ = before_pairs r.rest in
    let gap : Gap = gap_of 2 r.rest in
    let read : TextRead = pairs_at size gap text in
    octets_if (row_fits size r.offset gap text read) read.octets

-- the offset of a single row is 0, or a colon follows it, or a symbol
abbrev pub has_single_offset : RowRead → Bool
has_single_offset r = (r.offset == 0) || begins_colon r.rest || begins_symbol_name (after_blanks r.rest)

-- one pair or more, no digit right after them, and no more in the line than the row
abbrev pub single_row_fits : ℕ → Gap → List ℕ → TextRead → Bool
single_row_fits offset gap text read =
    begins_pair text && not (begins_digit read.rest)
    && ends_line gap.prefixed offset (length read.octets) read.rest

-- the octets of a single row, if it fits
abbrev pub single_row_octets : RowRead → Option (List ℕ)
single_row_octets r =
    let text : List ℕ = before_pairs r.rest in
    let gap : Gap = gap_of 1 r.rest in
    let read : TextRead = pairs_at (length text) gap text in
    octets_if (has_single_offset r && single_row_fits r.offset gap text read) read.octets

-- a row with a pair; a row without a pair is an end, or, before the first row, another line
abbrev pub has_pair : RowRead → Bool
has_pair r = begins_pair (before_pairs r.rest)
