-- What one more octet makes of a forest that obeys the grammar, and when that is right.
use Rattle.std.proofs.Common.{◌≡◌, ℕ, ◌+◌, Bool, true, false, cond, ◌&&◌, eqb, leb, List, [], ◌∷◌, ◌++◌, length}
use Rattle.tlv_head.specs.declared.fault.FaultCode.{FaultCode}
use Rattle.tlv_head.specs.declared.fault.FaultCode.TheVariants.{StrayEnd, BadEnd, MissingEnd, TooDeep, Overrun}
use Rattle.tlv_head.specs.declared.fault.FaultCode.TheVariants.{BadInside}
use Rattle.tlv_head.specs.declared.header.Size.TheVariants.{Definite}
use Rattle.tlv_head.specs.Header.{HeaderValue, announced_length, holds, octets_of}
use Rattle.tlv_head.proofs.GrammarLemmas.Scan.{Origin, Scan, Fresh, High, Named, Long, Ready, Stuck, Over, step, scan}
use Rattle.tlv_walk.specs.Forest.{Forest, Holder, NoMore, OpenBitString, OpenEndOctets, OpenHeader, OpenHolder}
use Rattle.tlv_walk.specs.Forest.{OpenPrimitive, PaddingOctet, Primitive, contents_length, holder_extent, is_whole, lead}
use Rattle.tlv_walk.specs.Forest.{spelling}
use Rattle.tlv_head.specs.Lists.{is_among}
use Rattle.tlv_walk.specs.Place.{Fits, IsHolderAt, IsPrimitiveAt, ObeysGrammar, Place, place_after, place_of_children}
use Rattle.tlv_walk.proofs.GrammarLemmas.Lengths.{HasLength}
use Rattle.tlv_walk.proofs.GrammarLemmas.Bounds.{fits, has_length}

-- a primitive with all its contents octets
abbrev pub IsWholePrimitive : Place → HeaderValue → List ℕ → Type 0
IsWholePrimitive p h c = IsPrimitiveAt p h (length (octets_of h) + length c) × (h.size ≡ Definite (length c))

-- an element that holds others and has ended
abbrev pub IsWholeHolder : Place → HeaderValue → Forest → Type 0
IsWholeHolder p h inside =
    IsHolderAt p h (holder_extent h inside) × (is_whole inside ≡ true) × HasLength h.size (contents_length h inside)

-- what an octet makes of a forest that obeys the grammar
pub data PushStep : Type 0 where
  -- this forest
  Grown : (grown : Forest) → PushStep
  -- the end of the contents, which are these elements
  Ended : (contents : Forest) → PushStep
  Refused : (code : FaultCode) → PushStep

-- where a header that begins there begins
abbrev pub origin : Place → Origin
origin p = record { offset = p.offset; named = is_among p.offset p.inside }

-- what an element holds is whole, and as long as was announced
abbrev pub is_filled_by : HeaderValue → Forest → Bool
is_filled_by h f = is_whole f && has_length h.size (contents_length h f)

-- an element that holds these others so far
abbrev pub holder_so_far : HeaderValue → Forest → Forest
holder_so_far h f = cond (is_filled_by h f) (Holder h f NoMore) (OpenHolder h f)

-- a primitive with these contents octets so far
abbrev pub primitive_so_far : HeaderValue → List ℕ → Forest
primitive_so_far h c = cond (eqb (length c) (announced_length h.size)) (Primitive h c NoMore) (OpenPrimitive h c)

-- an element that holds none yet, after its header: the octets are those to come before the first
abbrev pub holder_begun : HeaderValue → List ℕ → Forest
holder_begun h [] = holder_so_far h NoMore
holder_begun h (x ∷ xs) = OpenBitString h

-- a header alone, of an element that holds others or of one that does not
abbrev pub element_begun : Bool → HeaderValue → Forest
element_begun true h = holder_begun h (lead h)
element_begun false h = primitive_so_far h []

-- a header is complete
abbrev pub complete : Place → HeaderValue → PushStep
complete p h = cond (holds h && leb 128 p.depth) (Refused TooDeep)
    (cond (fits p (length (octets_of h) + announced_length h.size)) (Grown (element_begun (holds h) h))
    (Refused Overrun))

-- octets of a header, by what they say
abbrev pub begin : Place → List ℕ → Scan → PushStep
begin p o Fresh = Grown (OpenHeader o)
begin p o (High c k ds) = Grown (OpenHeader o)
begin p o (Named c k n i) = Grown (OpenHeader o)
begin p o (Long c k n i m ds) = Grown (OpenHeader o)
begin p o (Ready h) = complete p h
begin p o (Stuck code) = Refused code
begin p o Over = Refused StrayEnd

-- an octet 00 between elements: inside an element of indefinite length, or if there is padding, or neither
abbrev pub zero_between : Bool → Bool → PushStep
zero_between true padding = Grown OpenEndOctets
zero_between false true = Grown (PaddingOctet NoMore)
zero_between false false = Refused StrayEnd

-- a step of what follows an element is a step of both
abbrev pub push_after : (Forest → Forest) → PushStep → PushStep
push_after f (Grown g) = Grown (f g)
push_after f (Ended g) = Ended (f g)
push_after f (Refused code) = Refused code

-- a step of what an element holds is a step of the element
abbrev pub settle : HeaderValue → PushStep → PushStep
settle h (Grown g) = Grown (holder_so_far h g)
settle h (Ended g) = Grown (Holder h g NoMore)
settle h (Refused code) = Refused code

-- the octet x after a forest that obeys the grammar
abbrev pub push : Place → Forest → ℕ → PushStep
push p NoMore x =
    cond (fits p 1) (cond (eqb x 0) (zero_between p.indefinite p.padding) (Grown (OpenHeader (x ∷ []))))
    (Refused MissingEnd)
push p (PaddingOctet rest) x = push_after PaddingOctet (push (place_after p 1) rest x)
push p (Primitive h c rest) x =
    push_after (Primitive h c) (push (place_after p (length (octets_of h) + length c)) rest x)
push p (Holder h inside rest) x = push_after (Holder h inside) (push (place_after p (holder_extent h inside)) rest x)
push p (OpenPrimitive h c) x = Grown (primitive_so_far h (c ++ x ∷ []))
push p (OpenHolder h inside) x = settle h (push (place_of_children p h) inside x)
push p (OpenBitString h) x = cond (eqb x 0) (Grown (holder_so_far h NoMore)) (Refused BadInside)
push p (OpenHeader o) x =
    cond (fits p (length o + 1)) (begin p (o ++ x ∷ []) (step (origin p) (scan (origin p) o) x)) (Refused Overrun)
push p OpenEndOctets x = cond (fits p 2) (cond (eqb x 0) (Ended NoMore) (Refused BadEnd)) (Refused MissingEnd)

-- a forest that obeys the grammar there spells the octets
pub record Spells (p : Place) (o : List ℕ) (g : Forest) : Type 0 where
  pub obeys_grammar : ObeysGrammar p g
  pub spelled : spelling g ≡ o

-- the octets are whole elements and the end-of-contents octets
pub record Ends (p : Place) (o : List ℕ) (g : Forest) : Type 0 where
  pub obeys_grammar : ObeysGrammar p g
  pub whole : is_whole g ≡ true
  pub indefinite : p.indefinite ≡ true
  pub spelled : spelling g ++ 0 ∷ 0 ∷ [] ≡ o
  pub fits : Fits p (length (spelling g) + 2)

-- a step is right
abbrev pub IsStep : Place → List ℕ → PushStep → Type 0
IsStep p o (Grown g) = Spells p o g
IsStep p o (Ended g) = Ends p o g
IsStep p o (Refused code) = Unit {0}
