-- Elements that differ only in their spelling: X.690 8.1.
use Rattle.std.specs.Prelude.{◌≢◌, List, ℕ}
use Rattle.tlv_head.specs.Header.{HeaderValue, identifier_octet}
use Rattle.tlv_head.specs.ShortestHeaders.{HaveOneTagAndForm}
use Rattle.tlv_walk.specs.Forest.{Forest, NoMore, PaddingOctet, Primitive, Holder, OpenPrimitive, OpenHolder}
use Rattle.tlv_walk.specs.Forest.{OpenBitString, OpenHeader, OpenEndOctets}

-- whole elements with the same classes, forms, numbers and contents, one by one: the contents octets of primitives
-- are the same, the elements inside others are alike, and so is the padding between them. Offsets, lengths and header
-- octets may differ
pub data AreAlike : Forest → Forest → Type 0 where
  nothing : AreAlike NoMore NoMore
  padding : (f g : Forest) → AreAlike f g → AreAlike (PaddingOctet f) (PaddingOctet g)
  primitives : (h k : HeaderValue) (contents : List ℕ) (f g : Forest) → HaveOneTagAndForm h k → AreAlike f g
      → AreAlike (Primitive h contents f) (Primitive k contents g)
  holders : (h k : HeaderValue) (children within f g : Forest) → HaveOneTagAndForm h k → AreAlike children within
      → AreAlike f g → AreAlike (Holder h children f) (Holder k within g)

-- none of the primitives is the universal 0, whose low form would be the octet 00 of end-of-contents octets
abbrev pub HaveNoUniversalZero : Forest → Type 0
HaveNoUniversalZero NoMore = Unit {0}
HaveNoUniversalZero (PaddingOctet rest) = HaveNoUniversalZero rest
HaveNoUniversalZero (Primitive h c rest) =
    (identifier_octet h.class h.constructed h.number ≢ 0) × HaveNoUniversalZero rest
HaveNoUniversalZero (Holder h children rest) = HaveNoUniversalZero children × HaveNoUniversalZero rest
HaveNoUniversalZero (OpenPrimitive h c) = identifier_octet h.class h.constructed h.number ≢ 0
HaveNoUniversalZero (OpenHolder h children) = HaveNoUniversalZero children
HaveNoUniversalZero (OpenBitString h) = Unit {0}
HaveNoUniversalZero (OpenHeader octets) = Unit {0}
HaveNoUniversalZero OpenEndOctets = Unit {0}
