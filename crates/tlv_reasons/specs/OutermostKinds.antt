-- With how many different octets the outermost elements of an input begin: X.690 8.1.2.
use Rattle.std.specs.Prelude.{◌≡◌, ℕ, ◌+◌, ◌<◌, ◌≤◌, ◌&&◌, Bool, true, false, not, nat_le, nat_lt, List, [], ◌∷◌, length, drop}
use Rattle.std.specs.Prelude.{map, Option, Some, None, slice_index}
use Rattle.std.specs.List.{filter}
use Rattle.tlv_head.specs.Header.{HeaderValue, definite_length}
use Rattle.tlv_head.specs.Refusal.{BeginsWith}
use Rattle.tlv_reasons.specs.declared.element_kinds.OutermostKinds.{OutermostKinds}
use Rattle.tlv_reasons.specs.OutermostSizes.{is_padded_at}
use Rattle.tlv_reasons.specs.Suspects.{distinct}
use Rattle.tlv_reasons.specs.WrongLength.{contents_start}

-- the headers of the outermost elements from this offset on up to the end of the input, if each has a definite length
pub data AreOutermost (padding : Bool) (octets : List ℕ) : ℕ → List HeaderValue → Type 0 where
  no_more : {offset : ℕ} → offset ≡ length octets → AreOutermost padding octets offset []
  behind_padding : {offset : ℕ} {more : List HeaderValue} → offset < length octets
      → is_padded_at padding octets offset ≡ true → AreOutermost padding octets (offset + 1) more
      → AreOutermost padding octets offset more
  element : {offset : ℕ} {more : List HeaderValue} (h : HeaderValue) (n : ℕ)
      → is_padded_at padding octets offset ≡ false → BeginsWith (drop offset octets) offset false h
      → definite_length h.size ≡ Some n → contents_start h + n ≤ length octets
      → AreOutermost padding octets (contents_start h + n) more → AreOutermost padding octets offset (h ∷ more)

-- 8.1.2.2: the octets with which these elements begin, each only once
abbrev pub first_octets : List ℕ → List HeaderValue → List ℕ
first_octets octets headers = distinct (map (λ h. slice_index octets h.offset) headers)

-- the elements begin with three different octets or more, and fewer than 64: limits of our own
abbrev pub are_many : List ℕ → List HeaderValue → Bool
are_many octets headers =
    nat_le 3 (length (first_octets octets headers)) && nat_lt (length (first_octets octets headers)) 64

-- how many they are, with how many different octets they begin, and how many are primitive
abbrev pub kinds_of : List ℕ → List HeaderValue → OutermostKinds
kinds_of octets headers = record {
  elements = length headers;
  kinds = length (first_octets octets headers);
  primitives = length (filter (λ h. not h.constructed) headers);
}

-- the same of the outermost elements of an input, if these begin with many different octets
pub data AreKinds (padding : Bool) (octets : List ℕ) : Option OutermostKinds → Type 0 where
  many : {headers : List HeaderValue} → AreOutermost padding octets 0 headers → are_many octets headers ≡ true
      → AreKinds padding octets (Some (kinds_of octets headers))
  few : ((headers : List HeaderValue) → AreOutermost padding octets 0 headers → are_many octets headers ≡ false)
      → AreKinds padding octets None
