-- The findings of a header, and of an end, by the rules of X.690: each finding beside its condition, B first, then S, D
-- and C. These are the *listed* ones, which `tlvdump` reports; `AllConditions` has those that only `tlvdump-show`
-- reports. Each comment gives the rule; the condition holds if the element breaks it.
use Rattle.std.specs.Prelude.{ℕ, ◌+◌, ◌-◌, ◌%◌, Bool, false, ◌&&◌, ◌||◌, not, ◌==◌, nat_le, nat_lt}
use Rattle.std.specs.Prelude.{if◌then◌else◌, List, [], ◌∷◌, length, slice_index, sum_by}
use Rattle.std.specs.List.{list_all}
use Rattle.tlv_head.specs.Header.{HeaderValue, announced_length}
use Rattle.tlv_value.specs.declared.finding.Finding.{Finding}
use Rattle.tlv_value.specs.declared.finding.Finding.TheVariants.{B01, B02, B03, B04, B05, B16, B17}
use Rattle.tlv_value.specs.declared.finding.Finding.TheVariants.{S01, D01, D02, C01, C02, C03, C04, C05, C06}
use Rattle.tlv_head.specs.UniversalTypes as universal
use Rattle.tlv_head.specs.declared.type_table.Encodings.TheVariants as encodings
use Rattle.tlv_value.specs.Types.{has_encodings, has_segments, is_a, has_primitive_form, is_string, is_unassigned}
use Rattle.tlv_walk.specs.Forest.{Forest, Holder, PaddingOctet, Primitive}
use Rattle.tlv_walk.specs.Place.{is_indefinite}
use Rattle.tlv_show.specs.Site.{Site, in_bit_string, in_string}

-- ---- With the header

-- there are identifier octets after the first one (8.1.2.4 calls them subsequent)
abbrev pub has_high_form : HeaderValue → Bool
has_high_form h = nat_lt 1 (length h.identifier_octets)

-- 8.6.2.2: what is right before is a primitive BIT STRING whose first contents octet is not 0. An octet above 7 counts
-- too, although that BIT STRING also has B14
abbrev pub leaves_unused_bits : Forest → Bool
leaves_unused_bits (Primitive h (x ∷ c) rest) = is_a universal.bit_string h && not (x == 0)
leaves_unused_bits _ = false

-- 9.2: what is right before is an element, but not a primitive with 1000 contents octets. A wrapper has the form of a
-- primitive, and counts as one
abbrev pub is_not_full : Forest → Bool
is_not_full (Primitive h c rest) = not (announced_length h.size == 1000)
is_not_full (Holder h children rest) = not (has_primitive_form h && announced_length h.size == 1000)
is_not_full _ = false

-- the findings that a header may have at this site, each beside its condition. The letter of a code says whose rule it
-- is
abbrev pub listed_header_conditions : Site → HeaderValue → List (Finding × Bool)
listed_header_conditions s h =
    -- ---- of all encodings: B
    -- B01, 8.1.2.2: a number below 31 is in the single identifier octet
    (B01, has_high_form h && nat_lt h.number 31)
    -- B02, 8.1.2.4.2 c): bits 7 to 1 of the first subsequent octet are not all 0
    ∷ (B02, has_high_form h && slice_index h.identifier_octets 1 % 128 == 0)
    -- B03, X.680, table 1: the universal number is the number of a type
    ∷ (B03, is_unassigned h)
    -- B04, 8.2.1, 8.3.1, 8.4, 8.5.1, 8.8.1, 8.19.1, 8.20.1: the encodings of these types are primitive
    ∷ (B04, h.constructed && has_encodings encodings.Primitive h)
    -- B05, 8.9.1, 8.11.1, 8.17, 8.18, 8.24: the encodings of these types are constructed
    ∷ (B05, has_primitive_form h && has_encodings encodings.Constructed h)
    -- B16, 8.6.4: each segment of a BIT STRING but the last has a multiple of eight bits. A constructed segment right
    -- before is not looked into. The finding is on the element after the segment that breaks the rule
    ∷ (B16, in_bit_string s && leaves_unused_bits s.previous)
    -- B17, 8.6.4, 8.7.3, and 8.23.3 for the strings of characters: a segment has the tag of BIT STRING in a BIT STRING,
    -- and of OCTET STRING in any other string
    ∷ (B17, in_string s && not (is_a (if in_bit_string s then universal.bit_string else universal.octet_string) h))
    -- ---- of DER and of CER: S
    -- S01, 9.1, 10.1: a definite length has the fewest octets. There are too many if octets follow the first, and the
    -- length is below 128 (8.1.3.4) or the second octet is 00 (8.1.3.5). 9.1 asks this of primitives alone. Here it is
    -- asked of constructed elements too; under CER these have C01 in any case
    ∷ (
      S01,
      nat_lt 1 (length h.length_octets)
          && (nat_lt (announced_length h.size) 128 || slice_index h.length_octets 1 == 0),
    )
    -- ---- of DER alone: D
    -- D01, 10.1: lengths are definite
    ∷ (D01, is_indefinite h.size)
    -- D02, 10.2: strings are primitive
    ∷ (D02, has_segments h)
    -- ---- of CER alone: C
    -- C01, 9.1: the length of a constructed element is indefinite
    ∷ (C01, h.constructed && not (is_indefinite h.size))
    -- C02, 9.2: a primitive string has at most 1000 contents octets
    ∷ (C02, has_primitive_form h && is_string h && nat_lt 1000 (announced_length h.size))
    -- C03, 9.2: segments are primitive
    ∷ (C03, h.constructed && in_string s)
    -- C04, 9.2: each segment but the last has 1000 contents octets. The finding is on the element after the segment
    -- that breaks the rule
    ∷ (C04, in_string s && is_not_full s.previous)
    ∷ []

-- ---- With the end of a holder

-- the headers of whole elements one after another
abbrev pub headers : Forest → List HeaderValue
headers (PaddingOctet rest) = headers rest
headers (Primitive h c rest) = h ∷ headers rest
headers (Holder h children rest) = h ∷ headers rest
headers _ = []

-- 9.2: the number of contents octets that a string with these segments has as a primitive: the contents octets of all
-- segments. In a BIT STRING the first octet of each segment, for unused bits (8.6.2), is left out (a segment without
-- octets counts 0), and one for the whole string is added
abbrev pub length_as_primitive : HeaderValue → List HeaderValue → ℕ
length_as_primitive h segments =
    let octets_for_unused_bits = if is_a universal.bit_string h then 1 else 0 in
    octets_for_unused_bits + sum_by (λ (g : HeaderValue). announced_length g.size - octets_for_unused_bits) segments

-- whether the last of the elements has the form of a primitive (so also a wrapper) and no contents octets
abbrev pub ends_empty : List HeaderValue → Bool
ends_empty [] = false
ends_empty (h ∷ []) = has_primitive_form h && announced_length h.size == 0
ends_empty (h ∷ g ∷ hs) = ends_empty (g ∷ hs)

-- the findings that a holder may have with its end, each beside its condition: by its header and the headers of what it
-- held
abbrev pub listed_end_conditions : HeaderValue → List HeaderValue → List (Finding × Bool)
listed_end_conditions h children =
    -- C05, 9.2: a string of at most 1000 contents octets is primitive. If a segment is constructed, C03 says so, and
    -- the contents octets are not counted
    (C05, has_segments h && list_all has_primitive_form children && nat_le (length_as_primitive h children) 1000)
    -- C06, an inference of our own: 9.2 lets the last segment be shorter than 1000 octets, and does not say that it may
    -- be empty. A segment of a BIT STRING that has only its octet for unused bits does not count as empty
    ∷ (C06, has_segments h && ends_empty children)
    ∷ []
