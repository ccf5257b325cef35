-- Laws of headers.
use Rattle.std.specs.Prelude.{◌≡◌, ◌≢◌, ◌⊎◌, ℕ, ◌<◌, ◌≤◌, Bool, List, [], ◌∷◌, ◌++◌, length, Option}
use Rattle.tlv_head.specs.declared.fault.FaultCode.{FaultCode}
use Rattle.tlv_head.specs.Header.{HeaderValue, IsHeader, identifier_octet, octets_of}
use Rattle.tlv_head.specs.declared.head_reader.Head.{Head}
use Rattle.tlv_head.specs.HeadReader.{HeadReaderState, Pushes}
use Rattle.tlv_head.specs.declared.header.HeaderFields.{HeaderFields}
use Rattle.tlv_head.specs.ReadHeader.{BeginsWithFields}
use Rattle.tlv_head.specs.Refusal.{CannotBecomeHeader, BeginsWith, BeginsWithNoHeader, IsHeaderPrefix, IsRefusedOctet}
use Rattle.tlv_head.specs.ShortestHeaders.{HaveOneTagAndForm, IsShortest}

-- two headers with which an input begins at one offset are the same, and the same octets follow them
abbrev pub OctetsBeginOneHeader : Type 0
OctetsBeginOneHeader =
    (input : List ℕ) (offset : ℕ) (named : Bool) (h g : HeaderValue)
    → (p : BeginsWith input offset named h) → (q : BeginsWith input offset named g)
    → (h ≡ g) × (p.rest ≡ q.rest)

-- no header's octets become another header when octets are added
abbrev pub HeadersAreNoPrefixes : Type 0
HeadersAreNoPrefixes = (h : HeaderValue) → IsHeader h → IsHeaderPrefix (octets_of h) → ⊥

-- if an octet is refused with F06 to F09, no header begins with the octets up to and including it
abbrev pub RefusalsAreFinal : Type 0
RefusalsAreFinal = (code : FaultCode) (octets : List ℕ) (x : ℕ) → IsRefusedOctet octets x code
    → CannotBecomeHeader (octets ++ x ∷ [])

-- if an octet is refused with F06 to F09, no input that begins with the octets up to and including it begins with a
-- header
abbrev pub RefusedInputsBeginWithNone : Type 0
RefusedInputsBeginWithNone =
    (code : FaultCode) (octets : List ℕ) (x : ℕ) (more : List ℕ) → IsRefusedOctet octets x code
    → BeginsWithNoHeader ((octets ++ x ∷ []) ++ more)

-- the octets are a header
abbrev pub AreHeaderOctets : List ℕ → Type 0
AreHeaderOctets octets = (h : HeaderValue) × IsHeader h × (octets_of h ≡ octets)

-- the octet is refused with one of F06 to F09
abbrev pub IsRefusedWithSomeCode : List ℕ → ℕ → Type 0
IsRefusedWithSomeCode octets x = (code : FaultCode) × IsRefusedOctet octets x code

-- an octet after a prefix of a header makes a longer prefix or a header, or is refused; the same holds for a first
-- octet other than 00
abbrev pub OctetsGoOnOrAreRefused : Type 0
OctetsGoOnOrAreRefused =
    (octets : List ℕ) (x : ℕ) → x < 256 → (octets ≡ []) ⊎ IsHeaderPrefix octets → (octets ≡ [] → x ≢ 0)
    → IsHeaderPrefix (octets ++ x ∷ []) ⊎ (AreHeaderOctets (octets ++ x ∷ []) ⊎ IsRefusedWithSomeCode octets x)

-- what a reader returns is determined by what contracts see of it, the octet, the room and the depth
abbrev pub PushesReturnOneHead : Type 0
PushesReturnOneHead =
    (old new other : HeadReaderState) (x : ℕ) (room : Option ℕ) (depth : ℕ) (a b : Head)
    → Pushes old x room depth new a → Pushes old x room depth other b → a ≡ b

-- what `read_header` returns is determined by the octets, their offset, and whether the offset is named
abbrev pub ReadHeaderReturnsOneHeader : Type 0
ReadHeaderReturnsOneHeader =
    (octets : List ℕ) (offset : ℕ) (named : Bool) (f g : HeaderFields) (m n : ℕ)
    → BeginsWithFields octets offset named f m → BeginsWithFields octets offset named g n
    → (f ≡ g) × (m ≡ n)

-- two headers of one tag, form and size have the same octets if both are as short as 8.1.2 and 10.1 say
abbrev pub ShortestHeadersAreOne : Type 0
ShortestHeadersAreOne =
    (h g : HeaderValue) → IsHeader h → IsHeader g
    → HaveOneTagAndForm h g → h.size ≡ g.size → IsShortest h → IsShortest g
    → (h.identifier_octets ≡ g.identifier_octets) × (h.length_octets ≡ g.length_octets)

-- if a header is as short as 8.1.2 and 10.1 say, no other header of its tag, form and size has fewer identifier
-- octets or fewer length octets
abbrev pub NoHeaderIsShorter : Type 0
NoHeaderIsShorter =
    (h g : HeaderValue) → IsHeader h → IsHeader g
    → HaveOneTagAndForm h g → h.size ≡ g.size → IsShortest h
    → (length h.identifier_octets ≤ length g.identifier_octets) × (length h.length_octets ≤ length g.length_octets)

-- each header can be spelled as short as 8.1.2 and 10.1 say, except the header of the universal primitive 0, whose
-- low form would be 00
abbrev pub HeadersHaveAShortest : Type 0
HeadersHaveAShortest =
    (h : HeaderValue) → IsHeader h → identifier_octet h.class h.constructed h.number ≢ 0
    → (g : HeaderValue) × IsHeader g × HaveOneTagAndForm h g × (h.size ≡ g.size) × IsShortest g
