-- The characters of the segments of a string: X.690 8.23 and X.680 41.
use Rattle.std.specs.Prelude.{ℕ, Bool, false, ◌&&◌, ◌||◌, not, List, [], ◌++◌}
use Rattle.std.specs.List.{list_all}
use Rattle.tlv_head.specs.Header.{HeaderValue, is_universal}
use Rattle.tlv_value.specs.Types.{has_primitive_form, tested_string_types}
use Rattle.tlv_head.specs.Lists.{is_among}
use Rattle.tlv_walk.specs.Forest.{Forest, Holder, OpenHolder}
use Rattle.tlv_walk.specs.Forest.{PaddingOctet, Primitive, lead, spelling}
use Rattle.tlv_show.specs.SetOrder.{offset_if}
use Rattle.tlv_value.specs.Characters.{allows_octet}

-- 8.23, X.680 41: a constructed NumericString, PrintableString, IA5String or VisibleString
abbrev pub is_tested_string : HeaderValue → Bool
is_tested_string h = h.constructed && (is_universal h.class && is_among h.number tested_string_types)

-- X.680 41: the type with this number does not allow all of these octets
abbrev pub has_wrong_octet : ℕ → List ℕ → Bool
has_wrong_octet number octets = not (list_all (allows_octet number) octets)

-- 8.6.2, 8.7.2: all contents octets of a holder that has no end-of-contents octets
abbrev pub held_contents : HeaderValue → Forest → List ℕ
held_contents h children = lead h ++ spelling children

-- 8.23: one of these elements is a primitive, and the type with this number does not allow all of its contents octets.
-- A wrapper is a primitive too
abbrev pub has_wrong_segment : ℕ → Forest → Bool
has_wrong_segment number (PaddingOctet rest) = has_wrong_segment number rest
has_wrong_segment number (Primitive h c rest) = has_wrong_octet number c || has_wrong_segment number rest
has_wrong_segment number (Holder h children rest) =
    (has_primitive_form h && has_wrong_octet number (held_contents h children)) || has_wrong_segment number rest
has_wrong_segment number _ = false

-- 8.23, X.680 41: a string with this header that holds these elements has a segment with an octet that its type does
-- not allow
abbrev pub has_wrong_characters : HeaderValue → Forest → Bool
has_wrong_characters h children = is_tested_string h && has_wrong_segment h.number children

-- the offsets of the whole strings with such a segment, as they end
abbrev pub wrong_character_offsets : Forest → List ℕ
wrong_character_offsets (PaddingOctet rest) = wrong_character_offsets rest
wrong_character_offsets (Primitive h c rest) = wrong_character_offsets rest
wrong_character_offsets (Holder h children rest) =
    wrong_character_offsets children
    ++ (offset_if (has_wrong_characters h children) h.offset ++ wrong_character_offsets rest)
wrong_character_offsets (OpenHolder h children) = wrong_character_offsets children
wrong_character_offsets _ = []
