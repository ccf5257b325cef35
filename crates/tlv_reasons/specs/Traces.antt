-- What all octets of an input show of a program that took them for a text.
use Rattle.std.specs.Prelude.{ℕ, ◌+◌, ◌*◌, ◌-◌, ◌/◌, ◌%◌, Bool, true, false, ◌&&◌, ◌||◌, not, eqb, nat_le, nat_lt, if◌then◌else◌}
use Rattle.std.specs.Prelude.{List, [], ◌∷◌, length, count_by, Option, Some, None, slice_index}
use Rattle.std.specs.List.{list_all}
use Rattle.std.specs.Option.{option_map_or}
use Rattle.tlv_reasons.specs.declared.traces.Trace.{Trace}
use Rattle.tlv_reasons.specs.declared.traces.Trace.TheVariants as trace

-- ---- UTF-8

-- RFC 3629, section 3: the number of octets that follow the first one of a character, which is this; none if no character
-- begins with it
abbrev pub following_count : ℕ → Option ℕ
following_count x =
    if nat_lt x 0x80 then Some 0
    else (if nat_lt x 0xc2 then None
    else (if nat_lt x 0xe0 then Some 1
    else (if nat_lt x 0xf0 then Some 2
    else (if nat_lt x 0xf5 then Some 3 else None))))

-- RFC 3629, section 3: an octet that is not the first of a character
abbrev pub is_following : ℕ → Bool
is_following x = nat_le 0x80 x && nat_le x 0xbf

-- the number of octets that a character wants after this one, in front of which it wanted so many; none if this octet
-- cannot stand here
abbrev pub wanted_after : ℕ → ℕ → Option ℕ
wanted_after wanted x =
    if eqb wanted 0 then following_count x else (if is_following x then Some (wanted - 1) else None)

-- the octets are characters of UTF-8 by their numbers of octets; the last may be cut off. The character in front of them
-- wants so many
abbrev pub are_characters : ℕ → List ℕ → Bool
are_characters wanted [] = true
are_characters wanted (x ∷ more) = option_map_or (λ next. are_characters next more) (wanted_after wanted x) false

-- the number of characters beyond ASCII: each begins with an octet above bf
abbrev pub beyond_ascii : List ℕ → ℕ
beyond_ascii octets = count_by (λ x. nat_lt 0xbf x) octets

-- a character beyond ASCII is the second one: a length of 128 or more octets becomes that, and a shorter one does not
abbrev pub is_second_beyond : List ℕ → Bool
is_second_beyond octets = nat_lt 0xbf (slice_index octets 1)

-- the bounds keep what is sound, or is damaged in another way, from having a trace: limits of our own
abbrev pub utf8_trace : List ℕ → Option Trace
utf8_trace octets =
    if is_second_beyond octets && are_characters 0 octets && nat_le 8 (beyond_ascii octets)
    then Some (trace.AsUtf8 (beyond_ascii octets)) else None

-- ---- line ends

-- each octet 0a stands behind 0d; the first argument is the octet in front
abbrev pub are_ends_paired : ℕ → List ℕ → Bool
are_ends_paired before [] = true
are_ends_paired before (x ∷ more) = (eqb before 0x0d || not (eqb x 0x0a)) && are_ends_paired x more

abbrev pub line_feed_count : List ℕ → ℕ
line_feed_count octets = count_by (λ x. eqb x 0x0a) octets

-- three or more of so many octets, but not more than one in a hundred, as a text in lines has
abbrev pub are_few_lines : ℕ → ℕ → Bool
are_few_lines size count = nat_le 3 count && nat_le (100 * count) size

abbrev pub line_end_trace : List ℕ → Option Trace
line_end_trace octets =
    if are_ends_paired 0 octets && are_few_lines (length octets) (line_feed_count octets)
    then Some (trace.LineEnds (line_feed_count octets)) else None

-- ---- every second octet 00

-- the number of octets 00 at every second place: at the first, third and so on, or at the others
abbrev pub counted_zero : Bool → ℕ → ℕ
counted_zero is_here x = if is_here && eqb x 0 then 1 else 0

abbrev pub zeros_at : Bool → List ℕ → ℕ
zeros_at is_here [] = 0
zeros_at is_here (x ∷ more) = counted_zero is_here x + zeros_at (not is_here) more

-- so many are nine of twenty of all, or more
abbrev pub are_nearly_half : ℕ → ℕ → Bool
are_nearly_half size count = nat_le (9 * size) (20 * count)

-- one octet of sixteen, or more, is above 7f: elements without contents, as NULL is, have no such octets
abbrev pub are_some_high : List ℕ → Bool
are_some_high octets = nat_le (length octets) (16 * count_by (λ x. nat_le 0x80 x) octets)

abbrev pub half_trace : List ℕ → Option Trace
half_trace octets =
    if nat_le 200 (length octets) && are_some_high octets
    && (are_nearly_half (length octets) (zeros_at true octets) || are_nearly_half (length octets) (zeros_at false octets))
    then Some trace.HalfZeros else None

-- ---- seven bits

abbrev pub are_seven_bits : List ℕ → Bool
are_seven_bits octets = list_all (λ x. nat_lt x 0x80) octets

abbrev pub question_marks : List ℕ → ℕ
question_marks octets = count_by (λ x. eqb x 0x3f) octets

-- the first element is constructed and says 1 or 2, as a length that began with 81 or 82 does
abbrev pub begins_cleared : List ℕ → Bool
begins_cleared octets =
    eqb (slice_index octets 0 / 32 % 2) 1 && (eqb (slice_index octets 1) 1 || eqb (slice_index octets 1) 2)

-- in so many octets of seven bits so many are question marks: a tenth of them or more. Else the highest bits are cleared,
-- if the first header looks so
abbrev pub bits_trace : ℕ → ℕ → Bool → Option Trace
bits_trace size marks is_cleared =
    if nat_le size (10 * marks) then Some (trace.QuestionMarks marks)
    else (if is_cleared then Some (trace.SevenBits size) else None)

abbrev pub seven_bit_trace : List ℕ → Option Trace
seven_bit_trace octets =
    if nat_le 128 (length octets) && are_seven_bits octets
    then bits_trace (length octets) (question_marks octets) (begins_cleared octets) else None

-- ---- all of them

-- the first of two traces that is there
abbrev pub first_trace : Option Trace → Option Trace → Option Trace
first_trace None other = other
first_trace (Some t) other = Some t

-- what the octets show of a program that took them for a text, if they show anything: the first that holds
abbrev pub trace_of : List ℕ → Option Trace
trace_of octets =
    first_trace (utf8_trace octets)
    (first_trace (line_end_trace octets) (first_trace (half_trace octets) (seven_bit_trace octets)))
