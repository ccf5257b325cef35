-- All findings of a header, and of an end: the listed ones, which `Conditions` has, and the others, each finding beside
-- its condition, in the order of the codes.
use Rattle.std.specs.Prelude.{ℕ, Bool, true, false, ◌&&◌, ◌||◌, not, ◌==◌, nat_le, List, [], ◌∷◌, ◌++◌, drop, length, take}
use Rattle.std.specs.Option.{option_map_or}
use Rattle.tlv_head.specs.Header.{HeaderValue, is_universal}
use Rattle.tlv_head.specs.UniversalTypes as universal
use Rattle.tlv_head.specs.declared.header.Class.{Class}
use Rattle.tlv_head.specs.declared.header.Class.TheVariants.{Context}
use Rattle.tlv_head.specs.declared.type_table.Encodings.TheVariants.{Unjudged}
use Rattle.tlv_value.specs.declared.finding.Finding.{Finding}
use Rattle.tlv_value.specs.declared.finding.Finding.TheVariants.{B22, B27, B30}
use Rattle.tlv_value.specs.Types.{has_encodings, is_a}
use Rattle.tlv_head.specs.Lists.{is_among}
use Rattle.tlv_show.specs.Conditions.{listed_end_conditions, listed_header_conditions}
use Rattle.tlv_show.specs.Site.{Site}

-- ---- Types with components

-- 8.17, 8.18, 8.24: the types that are encoded as a SEQUENCE with components that have to be there
abbrev pub component_types : List ℕ
component_types = universal.external ∷ universal.embedded_pdv ∷ universal.character_string ∷ []

-- a constructed element of such a type
abbrev pub has_components : HeaderValue → Bool
has_components h = h.constructed && is_universal h.class && is_among h.number component_types

-- an element of such a type holds the element at this site, and an EXTERNAL does
abbrev pub in_components : Site → Bool
in_components s = option_map_or has_components s.holder false

abbrev pub in_external : Site → Bool
in_external s = option_map_or (λ h. has_components h && is_a universal.external h) s.holder false

-- 8.18: the types of direct-reference, indirect-reference and data-value-descriptor
abbrev pub external_component_types : List ℕ
external_component_types = universal.object_identifier ∷ universal.integer ∷ universal.object_descriptor ∷ []

-- the class is context-specific
abbrev pub is_context : Class → Bool
is_context Context = true
is_context class = false

-- a component has the tag. 8.18: of an EXTERNAL, one of the three above, or 0, 1 or 2 for the encoding. 8.17, 8.24: of
-- an EMBEDDED PDV or CHARACTER STRING, 0 for the identification. The others are numbered 1 and 2, or 1 alone, by the
-- edition of X.680 (36.5, 44.5), so both are allowed
abbrev pub is_component : Bool → HeaderValue → Bool
is_component of_external h =
    is_context h.class && nat_le h.number 2
    || of_external && is_universal h.class && is_among h.number external_component_types

-- ---- With the header

-- 8.21, 8.22, 8.26: a TIME, DATE, TIME-OF-DAY, DATE-TIME, DURATION, OID-IRI or RELATIVE-OID-IRI
abbrev pub is_time_or_iri : HeaderValue → Bool
is_time_or_iri h = has_encodings Unjudged h

-- the element is constructed, and is one of these
abbrev pub is_constructed_time_or_iri : HeaderValue → Bool
is_constructed_time_or_iri h = h.constructed && is_time_or_iri h

-- by the rules of all encodings
abbrev pub later_basic_conditions : Site → HeaderValue → List (Finding × Bool)
later_basic_conditions s h =
    -- 8.21, 8.22, 8.26: the encodings of these types are primitive
    (B22, is_constructed_time_or_iri h)
    -- 8.17, 8.18, 8.24: an EXTERNAL, EMBEDDED PDV or CHARACTER STRING holds components only
    ∷ (B30, in_components s && not (is_component (in_external s) h))
    ∷ []

-- all conditions of a header, listed or not: B22 and B30 come after the seven listed ones of all encodings
abbrev pub header_conditions : Site → HeaderValue → List (Finding × Bool)
header_conditions s h =
    take 7 (listed_header_conditions s h) ++ later_basic_conditions s h ++ drop 7 (listed_header_conditions s h)

-- ---- With the end of a holder

-- all conditions of an end, listed or not
abbrev pub end_conditions : HeaderValue → List HeaderValue → List (Finding × Bool)
end_conditions h children =
    -- 8.17, 8.18, 8.24: an EXTERNAL, EMBEDDED PDV or CHARACTER STRING holds an element or more
    (B27, has_components h && length children == 0)
    ∷ listed_end_conditions h children
