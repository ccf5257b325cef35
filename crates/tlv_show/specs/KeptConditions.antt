-- The conditions of a header, and of an end, by what is kept when elements come event by event. `AllConditions` has
-- them by the site of an element, and by the headers of what it held: lemmas say that both find the same. The
-- conditions of a header are in parts here, as the code looks at them.
use Rattle.std.specs.Prelude.{ℕ, ◌%◌, Bool, ◌&&◌, ◌||◌, not, ◌==◌, nat_le, nat_lt, if◌then◌else◌, List, [], ◌∷◌, ◌++◌}
use Rattle.std.specs.Prelude.{length, slice_index}
use Rattle.tlv_head.specs.Header.{HeaderValue, announced_length}
use Rattle.tlv_head.specs.UniversalTypes as universal
use Rattle.tlv_head.specs.declared.type_table.Encodings.TheVariants as encodings
use Rattle.tlv_value.specs.declared.finding.Finding.{Finding}
use Rattle.tlv_value.specs.declared.finding.Finding.TheVariants.{B01, B02, B03, B04, B05, B16, B17, B22, B27, B30}
use Rattle.tlv_value.specs.declared.finding.Finding.TheVariants.{S01, D01, D02, C01, C02, C03, C04, C05, C06}
use Rattle.tlv_value.specs.Types.{has_encodings, has_segments, is_a, has_primitive_form, is_string, is_unassigned}
use Rattle.tlv_walk.specs.Place.{is_indefinite}
use Rattle.tlv_show.specs.declared.wanted.Wanted.{Wanted}
use Rattle.tlv_show.specs.Conditions.{has_high_form}
use Rattle.tlv_show.specs.AllConditions.{is_component, is_constructed_time_or_iri}
use Rattle.tlv_show.specs.ShownFindings.{shown_findings}

-- ---- What a header says

-- the number is in subsequent identifier octets, though it is below 31
abbrev pub is_high_form_needless : HeaderValue → Bool
is_high_form_needless h = has_high_form h && nat_lt h.number 31

-- there are subsequent identifier octets, and bits 7 to 1 of the first are all 0
abbrev pub begins_with_zero_bits : HeaderValue → Bool
begins_with_zero_bits h = has_high_form h && slice_index h.identifier_octets 1 % 128 == 0

-- the element is constructed, and the encodings of its type are primitive
abbrev pub is_wrongly_constructed : HeaderValue → Bool
is_wrongly_constructed h = h.constructed && has_encodings encodings.Primitive h

-- the element is primitive, and the encodings of its type are constructed
abbrev pub is_wrongly_primitive : HeaderValue → Bool
is_wrongly_primitive h = has_primitive_form h && has_encodings encodings.Constructed h

-- there are subsequent length octets
abbrev pub has_long_form : HeaderValue → Bool
has_long_form h = nat_lt 1 (length h.length_octets)

-- the length has more octets than it needs
abbrev pub is_length_padded : HeaderValue → Bool
is_length_padded h =
    has_long_form h && (nat_lt (announced_length h.size) 128 || slice_index h.length_octets 1 == 0)

-- the type of the segments of a string, which is a BIT STRING or another one
abbrev pub segment_type : Bool → ℕ
segment_type in_bit_string = if in_bit_string then universal.bit_string else universal.octet_string

-- ---- With the header

-- what is kept of what is around an element
pub record Surroundings : Type 0 where
  -- it is a segment: a constructed string holds it. And whether this string is a BIT STRING
  pub in_string : Bool
  pub in_bit_string : Bool
  -- right before this segment of a BIT STRING is one with unused bits
  pub after_unused_bits : Bool
  -- right before this segment is one that is not a primitive of 1000 contents octets
  pub after_not_full : Bool
  -- it is in an element of a type with components. And whether this is an EXTERNAL
  pub in_components : Bool
  pub in_external : Bool

abbrev pub first_basic_conditions_in : Surroundings → HeaderValue → List (Finding × Bool)
first_basic_conditions_in s h =
    (B01, is_high_form_needless h)
    ∷ (B02, begins_with_zero_bits h)
    ∷ (B03, is_unassigned h)
    ∷ (B04, is_wrongly_constructed h)
    ∷ (B05, is_wrongly_primitive h)
    ∷ (B16, s.after_unused_bits)
    ∷ (B17, s.in_string && not (is_a (segment_type s.in_bit_string) h))
    ∷ []

abbrev pub second_basic_conditions_in : Surroundings → HeaderValue → List (Finding × Bool)
second_basic_conditions_in s h =
    (B22, is_constructed_time_or_iri h)
    ∷ (B30, s.in_components && not (is_component s.in_external h))
    ∷ []

abbrev pub basic_conditions_in : Surroundings → HeaderValue → List (Finding × Bool)
basic_conditions_in s h = first_basic_conditions_in s h ++ second_basic_conditions_in s h

abbrev pub length_conditions : HeaderValue → List (Finding × Bool)
length_conditions h = (S01, is_length_padded h) ∷ []

abbrev pub der_conditions : HeaderValue → List (Finding × Bool)
der_conditions h = (D01, is_indefinite h.size) ∷ (D02, has_segments h) ∷ []

abbrev pub cer_conditions_in : Surroundings → HeaderValue → List (Finding × Bool)
cer_conditions_in s h =
    (C01, h.constructed && not (is_indefinite h.size))
    ∷ (C02, has_primitive_form h && is_string h && nat_lt 1000 (announced_length h.size))
    ∷ (C03, h.constructed && s.in_string)
    ∷ (C04, s.after_not_full)
    ∷ []

abbrev pub header_conditions_in : Surroundings → HeaderValue → List (Finding × Bool)
header_conditions_in s h =
    basic_conditions_in s h ++ length_conditions h ++ der_conditions h ++ cer_conditions_in s h

abbrev pub header_findings_in : Wanted → Surroundings → HeaderValue → List Finding
header_findings_in wanted s h = shown_findings wanted (header_conditions_in s h)

-- ---- With the end of a holder

-- what is kept of what an element held
pub record Segments : Type 0 where
  -- it is of a type that has components, and held nothing
  pub lacks_components : Bool
  -- a constructed string held it: these are segments
  pub in_string : Bool
  -- all of them are primitive
  pub all_primitive : Bool
  -- the number of contents octets that the string would have as a primitive
  pub length_as_primitive : ℕ
  -- the last one is a primitive without contents octets
  pub ends_empty : Bool

abbrev pub end_conditions_in : Segments → List (Finding × Bool)
end_conditions_in s =
    (B27, s.lacks_components)
    ∷ (C05, s.in_string && s.all_primitive && nat_le s.length_as_primitive 1000)
    ∷ (C06, s.in_string && s.ends_empty)
    ∷ []

abbrev pub end_findings_in : Wanted → Segments → List Finding
end_findings_in wanted s = shown_findings wanted (end_conditions_in s)
