-- The identifier and length octets of an element: X.690 8.1.2 and 8.1.3.
use Rattle.std.specs.Prelude.{◌==◌, ◌≡◌, ◌≢◌, ◌⊎◌, ℕ, ◌+◌, ◌*◌, ◌^◌, ◌<◌, ◌≤◌, Bool, true, false, not, ◌&&◌, ◌||◌}
use Rattle.std.specs.Prelude.{if◌then◌else◌, List, [], ◌∷◌, ◌++◌, length, map, All, Option, Some, None}
use Rattle.std.specs.Option.{is_some, unwrap_or}
use Rattle.tlv_head.specs.UniversalTypes as universal
use Rattle.tlv_head.specs.declared.header.Class.{Class}
use Rattle.tlv_head.specs.declared.header.Class.TheVariants.{Universal, Application, Context, Private}
use Rattle.tlv_head.specs.declared.header.Size.{Size}
use Rattle.tlv_head.specs.declared.header.Size.TheVariants.{Definite, Indefinite}

-- 8.1.2.2 a): bits 8 and 7 of the first identifier octet
abbrev pub class_bits : Class → ℕ
class_bits Universal = 0
class_bits Application = 1
class_bits Context = 2
class_bits Private = 3

-- 8.1.2.2, 8.1.2.4.1, 8.1.2.5: the first identifier octet is the class, the form in bit 6, and bits 5 to 1
abbrev pub identifier_octet : Class → Bool → ℕ → ℕ
identifier_octet class constructed low = 64 * class_bits class + (if constructed then 32 else 0) + low

-- 8.1.2.4.2 b), 8.1.3.5: the number that digits represent, the most significant first
abbrev pub value_of : ℕ → List ℕ → ℕ
value_of base [] = 0
value_of base (d ∷ ds) = d * base ^ length ds + value_of base ds

-- 8.1.2.4.2 a): bit 8 set
abbrev pub with_bit_8 : List ℕ → List ℕ
with_bit_8 digits = map (λ d. 128 + d) digits

-- 8.1.2.2: one octet, for a number up to 30. The octet 00 is no identifier: 8.1.5 ends contents with it
pub record IsLowForm (class : Class) (constructed : Bool) (number : ℕ) (octets : List ℕ) : Type 0 where
  pub small : number < 31
  pub octets_are : octets ≡ identifier_octet class constructed number ∷ []
  pub nonzero : identifier_octet class constructed number ≢ 0

-- 8.1.2.4: a first octet with bits 5 to 1 set, then an octet for each digit in base 128. `last` is the last digit; its
-- octet has bit 8 clear. `digits` are those before it; their octets have bit 8 set. They are at most eight, so at most
-- nine octets follow the first one, a limit of our own (F06). A number below 31 and a first digit 0, which 8.1.2.2 and
-- 8.1.2.4.2 c) forbid, are taken here, and left to findings (B01, B02)
pub record IsHighForm (class : Class) (constructed : Bool) (number : ℕ) (octets : List ℕ) : Type 0 where
  pub digits : List ℕ
  pub last : ℕ
  pub each : All (λ d. d < 128) digits
  pub last_digit : last < 128
  pub short : length digits ≤ 8
  pub value : number ≡ value_of 128 (digits ++ last ∷ [])
  pub octets_are : octets ≡ identifier_octet class constructed 31 ∷ (with_bit_8 digits ++ last ∷ [])

-- 8.1.2: identifier octets
abbrev pub IsIdentifier : Class → Bool → ℕ → List ℕ → Type 0
IsIdentifier class constructed number octets =
    IsLowForm class constructed number octets ⊎ IsHighForm class constructed number octets

-- 8.1.3.5: the number of octets that follow, 1 to 126, and the length in base 256. It is below 2^40, a limit of our own
-- (F09)
pub record IsLongForm (n : ℕ) (octets : List ℕ) : Type 0 where
  pub digits : List ℕ
  pub each : All (λ d. d < 256) digits
  pub some : 1 ≤ length digits
  pub short : length digits ≤ 126
  pub value : n ≡ value_of 256 digits
  pub limit : n < 2 ^ 40
  pub octets_are : octets ≡ (128 + length digits) ∷ digits

-- these are length octets. A definite length (8.1.3.3) is one octet below 80 (8.1.3.4) or the long form; the indefinite
-- form is the octet 80 (8.1.3.6.1)
abbrev pub IsLength : Size → List ℕ → Type 0
IsLength (Definite n) octets = ((n < 128) × (octets ≡ n ∷ [])) ⊎ IsLongForm n octets
IsLength Indefinite octets = octets ≡ 128 ∷ []

-- what contracts see of a `Header`: the meaning of its octets, the offset of its first octet, and whether the user
-- named that offset
pub record HeaderValue : Type 0 where
  pub offset : ℕ
  pub named : Bool
  pub class : Class
  pub constructed : Bool
  pub number : ℕ
  pub size : Size
  pub identifier_octets : List ℕ
  pub length_octets : List ℕ

-- 8.1.1.1: identifier octets, then length octets
abbrev pub octets_of : HeaderValue → List ℕ
octets_of h = h.identifier_octets ++ h.length_octets

-- 8.1.3.3: the length, if it is definite
abbrev pub definite_length : Size → Option ℕ
definite_length (Definite n) = Some n
definite_length Indefinite = None

-- 8.1.2, 8.1.3: `class`, `constructed` and `number` are those of the identifier octets, and `size` is that of the
-- length octets. `offset` and `named` are not in the octets: `IsHeaderAt` of tlv_walk says what they are
pub record IsHeader (h : HeaderValue) : Type 0 where
  pub identifier : IsIdentifier h.class h.constructed h.number h.identifier_octets
  pub lengths : IsLength h.size h.length_octets
  -- 8.1.3.2 a): a primitive has a definite length
  pub allowed : (h.constructed || is_some (definite_length h.size)) ≡ true

-- 8.1.3.3: the number of contents octets that the header announces: its length. An indefinite length announces none
abbrev pub announced_length : Size → ℕ
announced_length size = unwrap_or (definite_length size) 0

-- 8.1.3.3: the number of contents octets is the number that the header announces
abbrev pub HasAllContents : HeaderValue → List ℕ → Type 0
HasAllContents h contents = announced_length h.size ≡ length contents

-- 8.1.2.2, table 1: the class is universal
abbrev pub is_universal : Class → Bool
is_universal Universal = true
is_universal Application = false
is_universal Context = false
is_universal Private = false

-- a primitive OCTET STRING (8.7.2), or a primitive BIT STRING (8.6.2) of one or more contents octets. Only these can be
-- wrappers, which X.690 does not have
abbrev pub can_wrap : HeaderValue → Bool
can_wrap h =
    not h.constructed && is_universal h.class
    && (h.number == universal.octet_string
    || (h.number == universal.bit_string && not (announced_length h.size == 0)))

-- the element with this header is a wrapper, a string that holds encodings: it can be one, and the user named its
-- offset
abbrev pub wraps : HeaderValue → Bool
wraps h = h.named && can_wrap h

-- 8.1.2.5: the element with this header is a holder: it is constructed, or a wrapper
abbrev pub holds : HeaderValue → Bool
holds h = h.constructed || wraps h

-- 8.1.3.6: the identifier octets, and the indefinite form
abbrev pub spell_indefinite : HeaderValue → List ℕ
spell_indefinite h = h.identifier_octets ++ 128 ∷ []
