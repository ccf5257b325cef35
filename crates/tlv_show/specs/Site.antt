-- Where an element is among others: X.690 8.1.1, 8.1.4.
use Rattle.std.specs.Prelude.{ℕ, ◌+◌, Bool, true, false, ◌&&◌, length, Option, Some, None}
use Rattle.std.specs.Option.{option_map_or}
use Rattle.tlv_head.specs.Header.{HeaderValue}
use Rattle.tlv_head.specs.UniversalTypes as universal
use Rattle.tlv_value.specs.Types.{has_segments, is_a}
use Rattle.tlv_walk.specs.Forest.{Forest, NoMore, PaddingOctet, opening}

-- where an element is shown: what is around it, and what is right before it. `Place` of tlv_walk is the record for the
-- grammar: it has bound, padding and named offsets
pub record Site : Type 0 where
  -- the offset of its first octet
  pub offset : ℕ
  -- the number of holders around it. Its line is indented by two spaces for each
  pub depth : ℕ
  -- the innermost of these
  pub holder : Option HeaderValue
  -- a forest of only what is right before it: a whole element, or an octet of padding; `NoMore` if it is the first
  pub previous : Forest

-- the start of the input
abbrev pub top_site : Site
top_site = record { offset = 0; depth = 0; holder = None; previous = NoMore }

-- the site this number of octets further on, right after `previous`
abbrev pub site_after : Site → ℕ → Forest → Site
site_after s count previous = record s { offset = s.offset + count; previous = previous }

-- inside a holder
abbrev pub site_of_children : Site → HeaderValue → Site
site_of_children s h = record {
  offset = s.offset + length (opening h);
  depth = s.depth + 1;
  holder = Some h;
  previous = NoMore;
}

abbrev pub is_padding : Forest → Bool
is_padding (PaddingOctet rest) = true
is_padding _ = false

-- 8.6.4, 8.7.3: the element is a segment, since its holder is a constructed string
abbrev pub in_string : Site → Bool
in_string s = option_map_or has_segments s.holder false

abbrev pub in_bit_string : Site → Bool
in_bit_string s = option_map_or (λ h. has_segments h && is_a universal.bit_string h) s.holder false
