-- Rows whose pairs are not their octets in order: words in reverse, as `xxd -e` writes them, and bits, as `xxd -b`
-- does. The characters behind them tell.
use Rattle.std.specs.Prelude.{ℕ, zero, suc, ◌+◌, ◌-◌, ◌*◌, ◌/◌, ◌%◌, ◌==◌, Bool, true, ◌&&◌, ◌||◌, not, nat_le}
use Rattle.std.specs.Prelude.{if◌then◌else◌, List, get_or, length}
use Rattle.std.specs.List.{list_all}
use Rattle.tlv_text.specs.DumpLines.{RowRead, after_blanks}
use Rattle.tlv_text.specs.DumpPairs.{before_pairs, gap_of, pairs_at}
use Rattle.tlv_text.specs.TextRead.{TextRead}

-- the character that a dump shows for an octet: a full stop for what is not printable ASCII
abbrev pub shown_octet : ℕ → ℕ
shown_octet x = if nat_le 32 x && nat_le x 126 then x else 46

-- the place of an octet after each word of this size is reversed
abbrev pub place_in_word : ℕ → ℕ → ℕ
place_in_word size at = at + (size - 1) - 2 * (at % size)

-- the first characters of a text, this many, are those of octets, of which each word of this size is reversed
abbrev pub show_words : ℕ → List ℕ → List ℕ → ℕ → Bool
show_words size octets text zero = true
show_words size octets text (suc at) =
    show_words size octets text at
    && (get_or text at 0 == shown_octet (get_or octets (place_in_word size at) 0))

-- a text is the characters of octets, of which each word of this size is reversed
abbrev pub is_text_of_words : ℕ → List ℕ → List ℕ → Bool
is_text_of_words size octets text =
    (length text == length octets) && (length octets % size == 0) && show_words size octets text (length octets)

-- a text is not the characters of octets as they are, and is those of the same octets in words of 2, 4, 8 or 16, or in
-- a single word, each of them reversed
abbrev pub are_reversed : List ℕ → List ℕ → Bool
are_reversed octets text =
    not (is_text_of_words 1 octets text)
    && (is_text_of_words 2 octets text || is_text_of_words 4 octets text || is_text_of_words 8 octets text
    || is_text_of_words 16 octets text || is_text_of_words (length octets) octets text)

-- both digits of an octet are 0 or 1
abbrev pub has_bits : ℕ → Bool
has_bits x = nat_le (x / 16) 1 && nat_le (x % 16) 1

-- for each character there are eight digits, all of them 0 or 1, and there is a character
abbrev pub are_bits : List ℕ → List ℕ → Bool
are_bits octets text = nat_le 1 (length text) && (length octets == 4 * length text) && list_all has_bits octets

-- the characters behind pairs show that these are not the octets in order
abbrev pub are_other_octets : List ℕ → List ℕ → Bool
are_other_octets octets text = are_reversed octets text || are_bits octets text

-- so do those of a row, which is read as a single one, of at most 256 pairs
abbrev pub has_other_octets : RowRead → Bool
has_other_octets r =
    let read : TextRead = pairs_at 256 (gap_of 1 r.rest) (before_pairs r.rest) in
    are_other_octets read.octets (after_blanks read.rest)
