-- Elements with indefinite lengths at other offsets: they have the same octets, and `indef` writes them as they are.
use Rattle.std.proofs.Common.{◌≡◌, ℕ, ◌+◌, Bool, true, false, ◌||◌, List, [], ◌∷◌, ◌++◌}
use Rattle.std.proofs.Common.{length, refl, ap, ap₂, ◌∙◌}
use Rattle.tlv_head.specs.declared.header.Class.{Class}
use Rattle.tlv_head.specs.declared.header.Size.{Size}
use Rattle.tlv_head.specs.Header.{HeaderValue, holds, octets_of}
use Rattle.tlv_head.proofs.Wraps.{is_wrapper}
use Rattle.tlv_walk.specs.Forest.{Forest, NoMore, PaddingOctet, Primitive, Holder, OpenPrimitive, OpenHolder}
use Rattle.tlv_walk.specs.Forest.{OpenBitString, OpenHeader, OpenEndOctets}
use Rattle.tlv_walk.specs.Forest.{end_octets, holder_extent, opening, spelling}
use Rattle.tlv_head.specs.Lists.{is_among}
use Rattle.tlv_walk.specs.Place.{IsHeaderAt, Place}
use Rattle.tlv_run.specs.Indef.{indef_text, indefinite_header, with_indefinite_lengths, with_offsets_from}

-- ---- an element that holds others is constructed if no string is read as encodings

pub is_named : (offset : ℕ) (names : List ℕ) → names ≡ [] → is_among offset names ≡ false
is_named offset names e = ap (λ (l : List ℕ). is_among offset l) e

holds_by : (constructed named : Bool) (class : Class) (number : ℕ) (size : Size) → named ≡ false
    → (constructed || is_wrapper named class constructed number size) ≡ true → constructed ≡ true
holds_by true named class number size e holds = refl
holds_by false true class number size e holds = absurd (cc)
holds_by false false class number size e holds = absurd (cc)

pub constructed_at : (p : Place) (h : HeaderValue) → p.inside ≡ [] → IsHeaderAt p h → holds h ≡ true
    → h.constructed ≡ true
constructed_at p h e header form =
    holds_by h.constructed h.named h.class h.number h.size (header.named ∙ is_named p.offset p.inside e) form

-- ---- the octets do not depend on the offsets

pub spelling-with_offsets_from : (offset : ℕ) (f : Forest) → spelling (with_offsets_from offset f) ≡ spelling f
spelling-with_offsets_from offset NoMore = refl
spelling-with_offsets_from offset (PaddingOctet rest) =
    ap (λ (l : List ℕ). 0 ∷ l) (spelling-with_offsets_from (offset + 1) rest)
spelling-with_offsets_from offset (Primitive h c rest) =
    ap (λ (l : List ℕ). octets_of h ++ (c ++ l))
    (spelling-with_offsets_from (offset + (length (octets_of h) + length c)) rest)
spelling-with_offsets_from offset (Holder h inside rest) =
    ap₂ (λ (k l : List ℕ). opening h ++ (k ++ (end_octets h.size ++ l)))
    (spelling-with_offsets_from (offset + length (opening h)) inside)
    (spelling-with_offsets_from (offset + holder_extent h inside) rest)
spelling-with_offsets_from offset (OpenPrimitive h c) = refl
spelling-with_offsets_from offset (OpenHolder h inside) =
    ap (λ (l : List ℕ). opening h ++ l) (spelling-with_offsets_from (offset + length (opening h)) inside)
spelling-with_offsets_from offset (OpenBitString h) = refl
spelling-with_offsets_from offset (OpenHeader octets) = refl
spelling-with_offsets_from offset OpenEndOctets = refl

-- ---- elements with indefinite lengths stay as they are

-- at any offset
abbrev StaysAnywhere : Forest → Type 0
StaysAnywhere f = (offset : ℕ) → with_indefinite_lengths (with_offsets_from offset f) ≡ with_offsets_from offset f

stays_anywhere : (f : Forest) → StaysAnywhere (with_indefinite_lengths f)
stays_anywhere NoMore offset = refl
stays_anywhere (PaddingOctet rest) offset = ap (λ (f : Forest). PaddingOctet f) (stays_anywhere rest (offset + 1))
stays_anywhere (Primitive h c rest) offset =
    ap (λ (f : Forest). Primitive (record h { offset = offset }) c f)
    (stays_anywhere rest (offset + (length (octets_of h) + length c)))
stays_anywhere (Holder h inside rest) offset =
    let g = record (indefinite_header h) { offset = offset } in
    ap₂ (λ (j k : Forest). Holder g j k) (stays_anywhere inside (offset + length (opening g)))
    (stays_anywhere rest (offset + holder_extent g (with_indefinite_lengths inside)))
stays_anywhere (OpenPrimitive h c) offset = refl
stays_anywhere (OpenHolder h inside) offset =
    let g = record (indefinite_header h) { offset = offset } in
    ap (λ (f : Forest). OpenHolder g f) (stays_anywhere inside (offset + length (opening g)))
stays_anywhere (OpenBitString h) offset = refl
stays_anywhere (OpenHeader octets) offset = refl
stays_anywhere OpenEndOctets offset = refl

-- the same octets are written again
pub indef_text-again : (offset : ℕ) (f : Forest)
    → indef_text (with_offsets_from offset (with_indefinite_lengths f)) ≡ indef_text f
indef_text-again offset f =
    ap spelling (stays_anywhere f offset) ∙ spelling-with_offsets_from offset (with_indefinite_lengths f)
