-- Prefixes of headers, and the octets that cannot follow them: X.690 8.1.2 and 8.1.3.
use Rattle.std.specs.Prelude.{◌≡◌, ◌≢◌, ℕ, ◌+◌, ◌<◌, ◌≤◌, Bool, false, List, [], ◌∷◌, ◌++◌, length, All}
use Rattle.tlv_head.specs.declared.header.Class.{Class}
use Rattle.tlv_head.specs.declared.fault.FaultCode.{FaultCode}
use Rattle.tlv_head.specs.declared.fault.FaultCode.TheVariants.{TagTooLong, ReservedLength, IndefinitePrimitive}
use Rattle.tlv_head.specs.declared.fault.FaultCode.TheVariants.{LengthTooLarge}
use Rattle.tlv_head.specs.Header.{HeaderValue, IsHeader, IsIdentifier, identifier_octet, octets_of, with_bit_8}

-- 8.1.2, 8.1.3: octets that become a header when one or more octets are added
pub record IsHeaderPrefix (octets : List ℕ) : Type 0 where
  pub header : HeaderValue
  pub more : List ℕ
  pub valid : IsHeader header
  pub proper : more ≢ []
  pub prefix : octets ++ more ≡ octets_of header

-- octets with which no header begins
abbrev pub CannotBecomeHeader : List ℕ → Type 0
CannotBecomeHeader octets = (h : HeaderValue) (more : List ℕ) → IsHeader h → octets ++ more ≡ octets_of h → ⊥

-- the octets begin with this header, which is at that offset
pub record BeginsWith (input : List ℕ) (start : ℕ) (is_named : Bool) (h : HeaderValue) : Type 0 where
  pub valid : IsHeader h
  pub offset : h.offset ≡ start
  pub named : h.named ≡ is_named
  pub rest : List ℕ
  pub octets_are : input ≡ octets_of h ++ rest

-- no header is a prefix of the octets
abbrev pub BeginsWithNoHeader : List ℕ → Type 0
BeginsWithNoHeader octets = (h : HeaderValue) (rest : List ℕ) → IsHeader h → octets ≡ octets_of h ++ rest → ⊥

-- 8.1.2.4.2: the high form so far: digits, each with bit 8 set, after the first octet
pub record IsNumberPrefix (class : Class) (constructed : Bool) (octets : List ℕ) : Type 0 where
  pub digits : List ℕ
  pub each : All (λ d. d < 128) digits
  pub octets_are : octets ≡ identifier_octet class constructed 31 ∷ with_bit_8 digits

-- 8.1.3.5: identifier octets, the first length octet, and the digits so far; `left` digits, one or more, are missing
pub record IsLengthPrefix (class : Class) (constructed : Bool) (number left : ℕ) (octets : List ℕ) : Type 0 where
  pub identifier_octets : List ℕ
  pub digits : List ℕ
  pub identifier : IsIdentifier class constructed number identifier_octets
  pub each : All (λ d. d < 256) digits
  pub some : 1 ≤ left
  pub within : length digits + left ≤ 126
  pub octets_are : octets ≡ identifier_octets ++ (128 + (length digits + left)) ∷ digits

-- why the octet x is refused after a prefix of a header, at any place in an input. One line for each cause
pub data IsRefusedOctet (octets : List ℕ) (x : ℕ) : FaultCode → Type 0 where
  -- F06, a limit of our own on 8.1.2.4.2: a ninth subsequent identifier octet with bit 8 set
  tag_too_long : (class : Class) (constructed : Bool) (prefix : IsNumberPrefix class constructed octets)
      → length prefix.digits ≡ 8 → 128 ≤ x
      → IsRefusedOctet octets x TagTooLong
  -- F07, 8.1.3.5 c): a first length octet ff
  reserved_length : (class : Class) (constructed : Bool) (number : ℕ)
      → IsIdentifier class constructed number octets → x ≡ 255
      → IsRefusedOctet octets x ReservedLength
  -- F08, 8.1.3.2 a): a first length octet 80 of a primitive
  indefinite_primitive : (class : Class) (number : ℕ)
      → IsIdentifier class false number octets → x ≡ 128
      → IsRefusedOctet octets x IndefinitePrimitive
  -- F09, a limit of our own on 8.1.3.5: x is a length octet after the first one, it is not 00, and five or more follow
  -- it (`left` counts x too). So the length is at least 256^5 = 2^40. The digits before x are all 0: any other was
  -- refused where it came
  length_too_large : (class : Class) (constructed : Bool) (number left : ℕ)
      → IsLengthPrefix class constructed number left octets → 6 ≤ left → x ≢ 0
      → IsRefusedOctet octets x LengthTooLarge
