-- Where elements are allowed, and what may be open there: X.690 8.1.3, 8.1.4 and 8.1.5.
use Rattle.std.specs.Prelude.{◌≡◌, ◌≢◌, ℕ, ◌+◌, ◌<◌, ◌≤◌, Bool, true, false, List, [], length, Option}
use Rattle.std.specs.Prelude.{Some, None, IfSome}
use Rattle.std.specs.Option.{is_none, option_map_or}
use Rattle.tlv_head.specs.Limits.{depth_limit}
use Rattle.tlv_head.specs.declared.header.Size.{Size}
use Rattle.tlv_head.specs.declared.header.Size.TheVariants.{Definite}
use Rattle.tlv_head.specs.Header.{HeaderValue, IsHeader, announced_length, definite_length, holds, octets_of}
use Rattle.tlv_head.specs.Refusal.{IsHeaderPrefix}
use Rattle.tlv_walk.specs.declared.framing.Framing.{Framing}
use Rattle.tlv_head.specs.Lists.{is_among}
use Rattle.tlv_walk.specs.Forest.{Forest, Holder, NoMore, OpenBitString, OpenEndOctets, OpenHeader}
use Rattle.tlv_walk.specs.Forest.{OpenHolder, OpenPrimitive, PaddingOctet, Primitive, contents_length, holder_extent}
use Rattle.tlv_walk.specs.Forest.{is_whole, is_wrapping_bit_string, opening, primitive_extent}

-- where a forest is
pub record Place : Type 0 where
  -- the offset of its first octet
  pub offset : ℕ
  -- the number of holders around it
  pub depth : ℕ
  -- the end of the innermost holder around it that has a definite length
  pub bound : Option ℕ
  -- the innermost holder around it has an indefinite length
  pub indefinite : Bool
  -- there may be padding
  pub padding : Bool
  -- the offsets that the user named
  pub inside : List ℕ

-- the start of the input
abbrev pub top_place : Framing → Place
top_place framing = record {
  offset = 0;
  depth = 0;
  bound = None;
  indefinite = false;
  padding = framing.padding;
  inside = framing.inside;
}

-- the place n octets later
abbrev pub place_after : Place → ℕ → Place
place_after p n = record p { offset = p.offset + n }

-- 8.1.3.6: the length is indefinite
abbrev pub is_indefinite : Size → Bool
is_indefinite size = is_none (definite_length size)

-- 8.1.4: the place of the elements inside an element with this header. 8.1.3.3: the bound is the end of its contents,
-- if its length is definite; otherwise it is the bound outside, and end-of-contents octets may come. No padding may.
-- The first contents octet of a wrapping BIT STRING (`lead`) is before the elements, and counts for the bound
abbrev pub place_of_children : Place → HeaderValue → Place
place_of_children p h = record p {
  offset = p.offset + length (opening h);
  depth = p.depth + 1;
  indefinite = is_indefinite h.size;
  padding = false;
  bound = option_map_or (λ n. Some (p.offset + length (octets_of h) + n)) (definite_length h.size) p.bound;
}

-- n octets from there on do not end beyond the bound
abbrev pub Fits : Place → ℕ → Type 0
Fits p n = IfSome p.bound (λ b. p.offset + n ≤ b)

-- 8.1.2, 8.1.3: the header of an element is there
pub record IsHeaderAt (p : Place) (h : HeaderValue) : Type 0 where
  pub valid : IsHeader h
  pub offset : h.offset ≡ p.offset
  pub named : h.named ≡ is_among p.offset p.inside

-- 8.1.3.3: the number of octets of the header and of all the contents octets that it announces
abbrev pub announced_extent : HeaderValue → ℕ
announced_extent h = length (octets_of h) + announced_length h.size

-- 8.1.4: a primitive that is no wrapper is there, and n octets from its first octet on do not go beyond the bound.
-- `ObeysGrammar` gives as n its `primitive_extent` if it has ended, and its `announced_extent` if it is open
pub record IsPrimitiveAt (p : Place) (h : HeaderValue) (n : ℕ) : Type 0 where
  pub header : IsHeaderAt p h
  pub holding : holds h ≡ false
  pub fits : Fits p n

-- 8.1.4: a holder is there, and n octets from its first octet on do not go beyond the bound. n is its `holder_extent`
-- if it has ended, and its `announced_extent` if it is open: only the header, if the length is indefinite. The holder
-- is inside fewer than `depth_limit` holders, a limit of our own
pub record IsHolderAt (p : Place) (h : HeaderValue) (n : ℕ) : Type 0 where
  pub header : IsHeaderAt p h
  pub holding : holds h ≡ true
  pub shallow : p.depth < depth_limit
  pub fits : Fits p n

-- 8.1.3.3: a definite length is the length of the contents, for an element with this header that holds these elements
abbrev pub HasItsLength : HeaderValue → Forest → Type 0
HasItsLength h children = IfSome (definite_length h.size) (λ n. contents_length h children ≡ n)

-- what may be at this place, one line for each constructor of `Forest`. The last thing may be open. No octet, and no
-- announced end, lies beyond the bound
abbrev pub ObeysGrammar : Place → Forest → Type 0
ObeysGrammar p NoMore = Unit {0}
-- padding, which X.690 does not have: at the top level only, if the user allows it. There are no bound and no
-- indefinite holder at the top level, so only `p.padding` counts; the other two conditions are for the laws, which are
-- about any `Place`
ObeysGrammar p (PaddingOctet rest) =
    ((p.padding ≡ true) × (p.indefinite ≡ false) × Fits p 1) × ObeysGrammar (place_after p 1) rest
-- 8.1.4: a primitive with all its contents octets
ObeysGrammar p (Primitive h c rest) =
    (IsPrimitiveAt p h (primitive_extent h c) × (h.size ≡ Definite (length c)))
    × ObeysGrammar (place_after p (primitive_extent h c)) rest
-- 8.1.4, 8.1.5: a holder that has ended. 8.1.3.3: a definite length is the length of the contents
ObeysGrammar p (Holder h children rest) =
    (IsHolderAt p h (holder_extent h children) × (is_whole children ≡ true) × HasItsLength h children)
    × ObeysGrammar (place_of_children p h) children × ObeysGrammar (place_after p (holder_extent h children)) rest
-- 8.1.4: a primitive that lacks contents octets. The bound leaves room for all that its header announces
ObeysGrammar p (OpenPrimitive h c) = IsPrimitiveAt p h (announced_extent h) × (length c < announced_length h.size)
-- 8.1.4: a holder that is open. If something in it is open, nothing more is asked here: the line of that thing keeps it
-- inside the bound. If all in it is whole and the length of the holder is definite, contents octets are still missing:
-- with all of them it would be a `Holder`
ObeysGrammar p (OpenHolder h children) =
    (IsHolderAt p h (announced_extent h)
    × (is_whole children ≡ true → IfSome (definite_length h.size) (λ n. contents_length h children < n)))
    × ObeysGrammar (place_of_children p h) children
-- 8.6.2.2: a wrapping BIT STRING with only its header there. The bound leaves room for all that this announces
ObeysGrammar p (OpenBitString h) = IsHolderAt p h (announced_extent h) × (is_wrapping_bit_string h ≡ true)
-- a prefix of a header, or the first of the end-of-contents octets, inside the bound
ObeysGrammar p (OpenHeader octets) = (octets ≢ []) × IsHeaderPrefix octets × Fits p (length octets)
ObeysGrammar p OpenEndOctets = (p.indefinite ≡ true) × Fits p 1
