-- The shortest identifier and length octets: X.690 8.1.2, 9.1 and 10.1.
use Rattle.std.specs.Prelude.{◌≡◌, ◌≢◌, ℕ, ◌%◌, ◌<◌, List, length, slice_index}
use Rattle.tlv_head.specs.Header.{HeaderValue, IsHeader, announced_length}

-- 8.1.2.2: a number below 31 is in the single octet. 8.1.2.4.2 c): no subsequent octets begin with seven bits 0
pub record IsShortestIdentifier (number : ℕ) (octets : List ℕ) : Type 0 where
  pub single : number < 31 → length octets ≡ 1
  pub leading : 1 < length octets → slice_index octets 1 % 128 ≢ 0

-- 10.1: a length below 128 is in the single octet, and no subsequent octets begin with 00
pub record IsShortestLength (n : ℕ) (octets : List ℕ) : Type 0 where
  pub single : n < 128 → length octets ≡ 1
  pub leading : 1 < length octets → slice_index octets 1 ≢ 0

-- the identifier and the length are both as short as 8.1.2 and 10.1 say
pub record IsShortest (h : HeaderValue) : Type 0 where
  pub identifier : IsShortestIdentifier h.number h.identifier_octets
  pub lengths : IsShortestLength (announced_length h.size) h.length_octets

-- 8.1.2: class, form and number are the same
pub record HaveOneTagAndForm (h g : HeaderValue) : Type 0 where
  pub class : h.class ≡ g.class
  pub constructed : h.constructed ≡ g.constructed
  pub number : h.number ≡ g.number

-- another header with that tag, form and size has fewer octets in that part
pub record HasShorter (part : HeaderValue → List ℕ) (h : HeaderValue) : Type 0 where
  pub other : HeaderValue
  pub valid : IsHeader other
  pub tag_and_form : HaveOneTagAndForm h other
  pub size : h.size ≡ other.size
  pub fewer : length (part other) < length (part h)
