-- What a tag says of an element, by the table of the universal types.
use Rattle.std.specs.Prelude.{ℕ, Bool, false, ◌&&◌, ◌||◌, not, ◌==◌, if◌then◌else◌, List, [], ◌∷◌, flat_map}
use Rattle.std.specs.Option.{is_none, option_map_or}
use Rattle.tlv_head.specs.UniversalTypes as universal
use Rattle.tlv_head.specs.Header.{HeaderValue, is_universal}
use Rattle.tlv_head.specs.TypeTable.{are_same_encodings, are_same_rules, type_at, type_table}
use Rattle.tlv_head.specs.Lists.{is_among}
use Rattle.tlv_head.specs.declared.type_table.Rule.{Rule}
use Rattle.tlv_head.specs.declared.type_table.Encodings.{Encodings}
use Rattle.tlv_head.specs.declared.type_table.Encodings.TheVariants.{Constructed, Segmented}

-- the tag is the tag of this type
abbrev pub is_a : ℕ → HeaderValue → Bool
is_a number h = is_universal h.class && h.number == number

-- the numbers of the types with this rule for the contents of a primitive
abbrev pub types_with : Rule → List ℕ
types_with rule = flat_map (λ row. if are_same_rules rule row.rule then row.number ∷ [] else []) type_table

-- the number is that of a type with this rule
abbrev pub has_rule : Rule → ℕ → Bool
has_rule rule number = is_among number (types_with rule)

-- X.680 41: strings whose octets are checked one by one, as `allowed_contents` of `Checks` says
abbrev pub tested_string_types : List ℕ
tested_string_types =
    universal.numeric_string
    ∷ universal.printable_string
    ∷ universal.ia5_string
    ∷ universal.visible_string
    ∷ []

-- 8.23: strings whose characters have two octets or four
abbrev pub wide_string_types : List ℕ
wide_string_types = universal.universal_string ∷ universal.bmp_string ∷ []

-- the tag is the tag of a universal type, and the table has these encodings for it
abbrev pub has_encodings : Encodings → HeaderValue → Bool
has_encodings encodings h =
    is_universal h.class
    && option_map_or (λ t. are_same_encodings encodings t.encodings) (type_at h.number) false

-- a string of bits, octets or characters, but not a CHARACTER STRING (8.24). UTCTime, GeneralizedTime and
-- ObjectDescriptor are strings too (8.25)
abbrev pub is_string : HeaderValue → Bool
is_string h = has_encodings Segmented h

-- 8.1.2.5: bit 6 of the identifier is 0, so the element is a primitive, or a wrapper
abbrev pub has_primitive_form : HeaderValue → Bool
has_primitive_form h = not h.constructed

-- 8.6.4, 8.7.3: a constructed string, which holds segments
abbrev pub has_segments : HeaderValue → Bool
has_segments h = h.constructed && is_string h

-- the tag is universal, and no type has its number
abbrev pub is_unassigned : HeaderValue → Bool
is_unassigned h = is_universal h.class && is_none (type_at h.number)

-- a primitive may have the tag: if it is universal, its type has primitives
abbrev pub has_primitives : HeaderValue → Bool
has_primitives h = not (is_unassigned h || has_encodings Constructed h)
