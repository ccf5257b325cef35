-- The definitions on real octets.
use Rattle.std.proofs.Common.{◌≡◌, inl, inr, ℕ, ◌+◌, ◌<◌, Bool, true, false, ltb, List, [], ◌∷◌, ◌++◌, length}
use Rattle.std.proofs.Common.{replicate, All, refl, get_or, arith, lit<, lit≤, ltb-true, length-append, ap}
use Rattle.std.proofs.lemmas.Bool.{and_parts}
use Rattle.std.proofs.lemmas.List.Elements.{All-nil, All-cons}
use Rattle.std.specs.List.{list_all}
use Rattle.tlv_head.specs.declared.fault.FaultCode.TheVariants.{TagTooLong, ReservedLength, IndefinitePrimitive}
use Rattle.tlv_head.specs.declared.fault.FaultCode.TheVariants.{LengthTooLarge}
use Rattle.tlv_head.specs.declared.header.Class.{Class}
use Rattle.tlv_head.specs.declared.header.Class.TheVariants.{Universal, Application, Context}
use Rattle.tlv_head.specs.declared.header.Size.{Size}
use Rattle.tlv_head.specs.declared.header.Size.TheVariants.{Definite, Indefinite}
use Rattle.tlv_head.specs.Header.{HeaderValue, IsHeader, IsIdentifier, IsLength}
use Rattle.tlv_head.specs.Header.{octets_of, with_bit_8}
use Rattle.tlv_head.specs.Refusal.{BeginsWith, IsHeaderPrefix, IsRefusedOctet, tag_too_long, reserved_length}
use Rattle.tlv_head.specs.Refusal.{indefinite_primitive, length_too_large}

-- digits below a base, by a test
below : (base : ℕ) (digits : List ℕ) → list_all (λ d. ltb d base) digits ≡ true → All (λ d. d < base) digits
below base [] e = All-nil (λ d. d < base)
below base (d ∷ ds) e =
    let parts : (ltb d base ≡ true) × (list_all (λ d. ltb d base) ds ≡ true) = and_parts _ _ e in
    All-cons (λ d. d < base) d ds (ltb-true d base parts.0) (below base ds parts.1)

-- 04: OCTET STRING, primitive
octet-string : IsIdentifier Universal false 4 (0x04 ∷ [])
octet-string = inl (record { small = lit< tt; octets_are = refl; nonzero = omega arith })

-- 30: SEQUENCE, constructed
sequence_identifier : IsIdentifier Universal true 16 (0x30 ∷ [])
sequence_identifier = inl (record { small = lit< tt; octets_are = refl; nonzero = omega arith })

-- 20: an element may have the number 0 if the octet is not 00
constructed-zero : IsIdentifier Universal true 0 (0x20 ∷ [])
constructed-zero = inl (record { small = lit< tt; octets_are = refl; nonzero = omega arith })

-- 00 is no identifier
zero-no_identifier : (class : Class) (constructed : Bool) (number : ℕ)
    → IsIdentifier class constructed number (0x00 ∷ []) → ⊥
zero-no_identifier class constructed number (inl low) = low.nonzero (cc (low.octets_are))
zero-no_identifier class constructed number (inr high) =
    omega (arith, ap length high.octets_are, length-append (with_bit_8 high.digits) (high.last ∷ []))

-- 1f 02: INTEGER, the number 2 in the high form
high-integer : IsIdentifier Universal false 2 (0x1f ∷ 0x02 ∷ [])
high-integer = inr (record {
  digits = [];
  last = 2;
  each = below 128 [] refl;
  last_digit = lit< tt;
  short = omega arith;
  value = refl;
  octets_are = refl;
})

-- 1f 80 02: the same number after a digit 0
padded-integer : IsIdentifier Universal false 2 (0x1f ∷ 0x80 ∷ 0x02 ∷ [])
padded-integer = inr (record {
  digits = 0 ∷ [];
  last = 2;
  each = below 128 (0 ∷ []) refl;
  last_digit = lit< tt;
  short = lit≤ tt;
  value = refl;
  octets_are = refl;
})

-- 5f 1f: application class, primitive, the number 31
application-31 : IsIdentifier Application false 31 (0x5f ∷ 0x1f ∷ [])
application-31 = inr (record {
  digits = [];
  last = 31;
  each = below 128 [] refl;
  last_digit = lit< tt;
  short = omega arith;
  value = refl;
  octets_are = refl;
})

-- 9f 81, seven 80 and 00: nine subsequent octets, the number 2^56
nine-octets : IsIdentifier Context false 72057594037927936
    (0x9f ∷ 0x81 ∷ 0x80 ∷ 0x80 ∷ 0x80 ∷ 0x80 ∷ 0x80 ∷ 0x80 ∷ 0x80 ∷ 0x00 ∷ [])
nine-octets = inr (record {
  digits = 1 ∷ 0 ∷ 0 ∷ 0 ∷ 0 ∷ 0 ∷ 0 ∷ 0 ∷ [];
  last = 0;
  each = below 128 (1 ∷ 0 ∷ 0 ∷ 0 ∷ 0 ∷ 0 ∷ 0 ∷ 0 ∷ []) refl;
  last_digit = lit< tt;
  short = lit≤ tt;
  value = refl;
  octets_are = refl;
})

-- 03: three contents octets, in the short form
short-3 : IsLength (Definite 3) (0x03 ∷ [])
short-3 = inl (lit< tt, refl)

-- 81 03: the same in the long form
long-3 : IsLength (Definite 3) (0x81 ∷ 0x03 ∷ [])
long-3 = inr (record {
  digits = 3 ∷ [];
  each = below 256 (3 ∷ []) refl;
  some = lit≤ tt;
  short = lit≤ tt;
  value = refl;
  limit = lit< tt;
  octets_are = refl;
})

-- 82 00 80: 128 contents octets, with a leading 00
padded-128 : IsLength (Definite 128) (0x82 ∷ 0x00 ∷ 0x80 ∷ [])
padded-128 = inr (record {
  digits = 0 ∷ 128 ∷ [];
  each = below 256 (0 ∷ 128 ∷ []) refl;
  some = lit≤ tt;
  short = lit≤ tt;
  value = refl;
  limit = lit< tt;
  octets_are = refl;
})

-- 85 and five ff: the largest length
largest : IsLength (Definite 1099511627775) (0x85 ∷ 0xff ∷ 0xff ∷ 0xff ∷ 0xff ∷ 0xff ∷ [])
largest = inr (record {
  digits = 255 ∷ 255 ∷ 255 ∷ 255 ∷ 255 ∷ [];
  each = below 256 (255 ∷ 255 ∷ 255 ∷ 255 ∷ 255 ∷ []) refl;
  some = lit≤ tt;
  short = lit≤ tt;
  value = refl;
  limit = lit< tt;
  octets_are = refl;
})

-- 80: the indefinite form
indefinite : IsLength Indefinite (0x80 ∷ [])
indefinite = refl

-- ff begins no length
reserved-no_length : (size : Size) (digits : List ℕ) → IsLength size (0xff ∷ digits) → ⊥
reserved-no_length (Definite n) digits (inl short) = let same : 255 ≡ n = cc (short.1) in omega (arith, short.0)
reserved-no_length (Definite n) digits (inr long) =
    let same : 255 ≡ 128 + length long.digits = cc (long.octets_are) in
    omega (arith, long.short)
reserved-no_length Indefinite digits e = omega (arith, ap (λ o. get_or o 0 0) e)

-- a header at the start of an input, which is not named
abbrev first : Class → Bool → ℕ → Size → List ℕ → List ℕ → HeaderValue
first class constructed number size identifier lengths = record {
  offset = 0;
  named = false;
  class = class;
  constructed = constructed;
  number = number;
  size = size;
  identifier_octets = identifier;
  length_octets = lengths;
}

-- 1f 02 01: an INTEGER of one contents octet
high-integer_header : IsHeader (first Universal false 2 (Definite 1) (0x1f ∷ 0x02 ∷ []) (0x01 ∷ []))
high-integer_header = record { identifier = high-integer; lengths = inl (lit< tt, refl); allowed = refl }

-- 04 82 00 80: an OCTET STRING of 128 contents octets
octet-string_header : IsHeader (first Universal false 4 (Definite 128) (0x04 ∷ []) (0x82 ∷ 0x00 ∷ 0x80 ∷ []))
octet-string_header = record { identifier = octet-string; lengths = padded-128; allowed = refl }

-- 30 80: a SEQUENCE up to the end-of-contents octets
sequence-header : IsHeader (first Universal true 16 Indefinite (0x30 ∷ []) (0x80 ∷ []))
sequence-header = record { identifier = sequence_identifier; lengths = refl; allowed = refl }

-- 9f 81, seven 80, 00, fe, 125 octets 00 and 01: one contents octet, announced by the longest header there is
abbrev longest : HeaderValue
longest =
    first Context false 72057594037927936 (Definite 1)
    (0x9f ∷ 0x81 ∷ 0x80 ∷ 0x80 ∷ 0x80 ∷ 0x80 ∷ 0x80 ∷ 0x80 ∷ 0x80 ∷ 0x00 ∷ [])
    (0xfe ∷ (replicate 125 0x00 ++ 0x01 ∷ []))

longest-header : IsHeader longest
longest-header = record {
  identifier = nine-octets;
  lengths = inr (record {
    digits = replicate 125 0 ++ 1 ∷ [];
    each = below 256 (replicate 125 0 ++ 1 ∷ []) refl;
    some = lit≤ tt;
    short = lit≤ tt;
    value = refl;
    limit = lit< tt;
    octets_are = refl;
  });
  allowed = refl;
}

longest-137 : length (octets_of longest) ≡ 137
longest-137 = refl

-- 9f 81 and seven 80, then 80: a ninth subsequent octet that is not the last
refused-number : IsRefusedOctet (0x9f ∷ 0x81 ∷ 0x80 ∷ 0x80 ∷ 0x80 ∷ 0x80 ∷ 0x80 ∷ 0x80 ∷ 0x80 ∷ []) 0x80 TagTooLong
refused-number =
    tag_too_long Context false (record {
      digits = 1 ∷ 0 ∷ 0 ∷ 0 ∷ 0 ∷ 0 ∷ 0 ∷ 0 ∷ [];
      each = below 128 (1 ∷ 0 ∷ 0 ∷ 0 ∷ 0 ∷ 0 ∷ 0 ∷ 0 ∷ []) refl;
      octets_are = refl;
    }) refl (lit≤ tt)

-- 04, then ff
refused-reserved : IsRefusedOctet (0x04 ∷ []) 0xff ReservedLength
refused-reserved = reserved_length Universal false 4 octet-string refl

-- 04, then 80
refused-indefinite : IsRefusedOctet (0x04 ∷ []) 0x80 IndefinitePrimitive
refused-indefinite = indefinite_primitive Universal 4 octet-string refl

-- 04 86, then 01, which five octets are to follow
refused-length : IsRefusedOctet (0x04 ∷ 0x86 ∷ []) 0x01 LengthTooLarge
refused-length = length_too_large Universal false 4 6 (record {
  identifier_octets = 0x04 ∷ [];
  digits = [];
  identifier = octet-string;
  each = below 256 [] refl;
  some = lit≤ tt;
  within = lit≤ tt;
  octets_are = refl;
}) (lit≤ tt) (omega arith)

-- 04 fe and 120 octets 00, then 01, which five octets are to follow
refused-padded_length : IsRefusedOctet (0x04 ∷ 0xfe ∷ replicate 120 0x00) 0x01 LengthTooLarge
refused-padded_length = length_too_large Universal false 4 6 (record {
  identifier_octets = 0x04 ∷ [];
  digits = replicate 120 0;
  identifier = octet-string;
  each = below 256 (replicate 120 0) refl;
  some = lit≤ tt;
  within = lit≤ tt;
  octets_are = refl;
}) (lit≤ tt) (omega arith)

-- 04 85 01: the same octet where four are to follow: with 00 they make a length of 2^32
prefix-length : IsHeaderPrefix (0x04 ∷ 0x85 ∷ 0x01 ∷ [])
prefix-length = record {
  header = first Universal false 4 (Definite 4294967296) (0x04 ∷ []) (0x85 ∷ 0x01 ∷ 0x00 ∷ 0x00 ∷ 0x00 ∷ 0x00 ∷ []);
  more = 0x00 ∷ 0x00 ∷ 0x00 ∷ 0x00 ∷ [];
  valid = record {
    identifier = octet-string;
    lengths = inr (record {
      digits = 1 ∷ 0 ∷ 0 ∷ 0 ∷ 0 ∷ [];
      each = below 256 (1 ∷ 0 ∷ 0 ∷ 0 ∷ 0 ∷ []) refl;
      some = lit≤ tt;
      short = lit≤ tt;
      value = refl;
      limit = lit< tt;
      octets_are = refl;
    });
    allowed = refl;
  };
  proper = λ e. cc;
  prefix = refl;
}

-- 1f: with 02 01 it is a header
prefix-high_form : IsHeaderPrefix (0x1f ∷ [])
prefix-high_form = record {
  header = first Universal false 2 (Definite 1) (0x1f ∷ 0x02 ∷ []) (0x01 ∷ []);
  more = 0x02 ∷ 0x01 ∷ [];
  valid = high-integer_header;
  proper = λ e. cc;
  prefix = refl;
}

-- 30 80 00 00: a header and two octets
begins-sequence : BeginsWith (0x30 ∷ 0x80 ∷ 0x00 ∷ 0x00 ∷ []) 0 false
    (first Universal true 16 Indefinite (0x30 ∷ []) (0x80 ∷ []))
begins-sequence = record {
  valid = sequence-header;
  offset = refl;
  named = refl;
  rest = 0x00 ∷ 0x00 ∷ [];
  octets_are = refl;
}
