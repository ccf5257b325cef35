-- Elements, of which the last may still be open: X.690 8.1.1, 8.1.4 and 8.1.5.
use Rattle.std.specs.Prelude.{ℕ, ◌+◌, Bool, true, false, not, ◌&&◌, ◌==◌, if◌then◌else◌, List, [], ◌∷◌, ◌++◌, length}
use Rattle.std.specs.Prelude.{Option, Some, None}
use Rattle.tlv_head.specs.declared.header.Size.{Size}
use Rattle.std.specs.Option.{is_some}
use Rattle.tlv_head.specs.UniversalTypes as universal
use Rattle.tlv_head.specs.Header.{HeaderValue, definite_length, octets_of}

-- 8.1.1.1, 8.1.4: whole elements and padding, one after another, and then at most one thing that is open, that is, has
-- not ended: an element, a header or end-of-contents octets. A holder is an element that holds others: a constructed
-- element, or a wrapper. A wrapper is a string that is read as encodings, because the user named its offset
pub data Forest : Type 0 where
  -- no more
  NoMore : Forest
  -- an octet 00 of padding: at the top level, before, between or after encodings
  PaddingOctet : (rest : Forest) → Forest
  -- a primitive with all its contents octets. A wrapper is no `Primitive`, but a `Holder`
  Primitive : (header : HeaderValue) (contents : List ℕ) (rest : Forest) → Forest
  -- a holder that has ended
  Holder : (header : HeaderValue) (children rest : Forest) → Forest
  -- a primitive that is open: it has fewer contents octets than its length
  OpenPrimitive : (header : HeaderValue) (contents : List ℕ) → Forest
  -- a holder that is open, with what it holds so far
  OpenHolder : (header : HeaderValue) (children : Forest) → Forest
  -- a wrapping BIT STRING without its first contents octet
  OpenBitString : (header : HeaderValue) → Forest
  -- a prefix of a header
  OpenHeader : (octets : List ℕ) → Forest
  -- the first of the end-of-contents octets
  OpenEndOctets : Forest

-- 8.6.2: the holder with this header is a wrapping BIT STRING. Asked only of headers of holders: a holder that is not
-- constructed is a wrapper, so its class is universal, and its number says which string it is
abbrev pub is_wrapping_bit_string : HeaderValue → Bool
is_wrapping_bit_string h = not h.constructed && h.number == universal.bit_string

-- 8.6.2.2: the contents octets of a holder before the elements in it: in a wrapping BIT STRING 00, for no unused bits,
-- and otherwise none
abbrev pub lead : HeaderValue → List ℕ
lead h = if is_wrapping_bit_string h then 0 ∷ [] else []

-- 8.1.1.1: the octets of a holder before the elements in it
abbrev pub opening : HeaderValue → List ℕ
opening h = octets_of h ++ lead h

-- 8.1.5: the octets that end the contents
abbrev pub end_octets : Size → List ℕ
end_octets size = if is_some (definite_length size) then [] else 0 ∷ 0 ∷ []

-- 8.1.1.1: the octets
abbrev pub spelling : Forest → List ℕ
spelling NoMore = []
spelling (PaddingOctet rest) = 0 ∷ spelling rest
spelling (Primitive h c rest) = octets_of h ++ (c ++ spelling rest)
spelling (Holder h children rest) = opening h ++ (spelling children ++ (end_octets h.size ++ spelling rest))
spelling (OpenPrimitive h c) = octets_of h ++ c
spelling (OpenHolder h children) = opening h ++ spelling children
spelling (OpenBitString h) = octets_of h
spelling (OpenHeader octets) = octets
spelling OpenEndOctets = 0 ∷ []

-- 8.1.4: the number of contents octets so far in a holder
abbrev pub contents_length : HeaderValue → Forest → ℕ
contents_length h children = length (lead h) + length (spelling children)

-- 8.1.1.1: the number of octets of a primitive with these contents octets
abbrev pub primitive_extent : HeaderValue → List ℕ → ℕ
primitive_extent h contents = length (octets_of h) + length contents

-- 8.1.1.1: the number of octets of a holder that has ended
abbrev pub holder_extent : HeaderValue → Forest → ℕ
holder_extent h children = length (opening h) + (length (spelling children) + length (end_octets h.size))

-- 8.1.5: the offset of the end-of-contents octets of a holder, if its length is indefinite
abbrev pub end_octets_offset : HeaderValue → Forest → Option ℕ
end_octets_offset h children =
    if is_some (definite_length h.size) then None
    else Some (h.offset + length (opening h) + length (spelling children))

-- the outermost elements have all ended: the list ends with `NoMore`. It does not look into a `Holder`; `ObeysGrammar`
-- asks the same of what each `Holder` holds
abbrev pub is_whole : Forest → Bool
is_whole NoMore = true
is_whole (PaddingOctet rest) = is_whole rest
is_whole (Primitive h c rest) = is_whole rest
is_whole (Holder h children rest) = is_whole rest
is_whole _ = false

-- at least one octet of an element is there. It is asked of outermost elements, so the last line is never for
-- `OpenEndOctets`, which are inside a holder
abbrev pub has_element : Forest → Bool
has_element NoMore = false
has_element (PaddingOctet rest) = has_element rest
has_element f = true
