-- What `read_header` and `read_short` return.
use Rattle.std.specs.Prelude.{◌≡◌, ℕ, ◌+◌, ◌≤◌, Bool, List, ◌++◌, length, take}
use Rattle.tlv_head.specs.declared.header.HeaderFields.{HeaderFields}
use Rattle.tlv_head.specs.HeaderFields.{IsHeaderSized, new_header}
use Rattle.tlv_head.specs.Header.{HeaderValue, IsHeader, octets_of}
use Rattle.tlv_head.specs.Refusal.{BeginsWith}

-- the octets begin with the header that has these fields and `count` octets
pub record BeginsWithFields
    (octets : List ℕ) (offset : ℕ) (is_named : Bool) (f : HeaderFields) (count : ℕ)
    : Type 0 where
  pub within : count ≤ length octets
  pub sized : IsHeaderSized f (take count octets)
  pub begins : BeginsWith octets offset is_named (new_header f (take count octets))

-- the header with these fields and `count` octets has at most three identifier octets and three length octets
pub record IsShortHeader (f : HeaderFields) (count : ℕ) : Type 0 where
  pub identifier : f.id_len ≤ 3
  pub lengths : count ≤ f.id_len + 3

-- no header with at most three identifier octets and three length octets is a prefix of the octets
abbrev pub BeginsWithNoShortHeader : List ℕ → Type 0
BeginsWithNoShortHeader octets =
    (h : HeaderValue) (rest : List ℕ) → IsHeader h → octets ≡ octets_of h ++ rest
    → length h.identifier_octets ≤ 3 → length h.length_octets ≤ 3 → ⊥
