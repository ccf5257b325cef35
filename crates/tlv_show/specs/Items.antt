-- What is reported of elements, item by item. A dump and a check write the lines of the items in this order, and
-- their number of findings is the number of findings here.
use Rattle.std.specs.Prelude.{ℕ, if◌then◌else◌, List, [], ◌∷◌, ◌++◌, map, Option}
use Rattle.tlv_head.specs.Header.{HeaderValue}
use Rattle.tlv_value.specs.declared.finding.Finding.{Finding}
use Rattle.tlv_walk.specs.Forest.{Forest, Holder, NoMore, OpenBitString, OpenHolder, OpenPrimitive, PaddingOctet}
use Rattle.tlv_walk.specs.Forest.{Primitive, end_octets_offset, holder_extent, primitive_extent}
use Rattle.tlv_show.specs.ListedFindings.{ElementFindings}
use Rattle.tlv_show.specs.Site.{Site, is_padding, site_after, site_of_children}

-- an item, with its depth: the number of holders around what it is about
pub data Item : Type 0 where
  -- a finding in the element that begins at this offset
  FindingAt : (depth offset : ℕ) (finding : Finding) → Item
  -- a holder begins
  OpeningLine : (depth : ℕ) (header : HeaderValue) → Item
  -- a holder ends: with the offset of its end-of-contents octets, if it has them
  ClosingLine : (depth : ℕ) (offset : Option ℕ) → Item
  -- a whole primitive
  PrimitiveLines : (depth : ℕ) (header : HeaderValue) (contents : List ℕ) → Item
  -- a primitive that lacks contents octets
  OpenPrimitiveLines : (depth : ℕ) (header : HeaderValue) (contents : List ℕ) → Item
  -- padding begins at this offset
  PaddingLine : (depth offset : ℕ) → Item

-- findings in an element at this depth and offset, in order
abbrev pub finding_items : ℕ → ℕ → List Finding → List Item
finding_items depth offset findings = map (FindingAt depth offset) findings

-- the argument says what is found in an element
module _ (found : ElementFindings) where
  -- the items of elements, the first of which is at this site. The findings of a header come before the element's
  -- first line, all other findings after its last line
  abbrev pub items : Site → Forest → List Item
  -- a run of padding has one line
  items s (PaddingOctet rest) =
      (if is_padding s.previous then [] else PaddingLine s.depth s.offset ∷ [])
      ++ items (site_after s 1 (PaddingOctet NoMore)) rest
  -- the findings of its header, its line and rows, the findings on its contents, and then the elements after it
  items s (Primitive h c rest) =
      finding_items s.depth h.offset (found.of_header s h)
      ++ (PrimitiveLines s.depth h c ∷ finding_items s.depth h.offset (found.of_primitive s h c)
      ++ items (site_after s (primitive_extent h c) (Primitive h c NoMore)) rest)
  -- the findings of its header, its first line, what it holds, its last line, the findings with its end, and then the
  -- elements after it
  items s (Holder h children rest) =
      finding_items s.depth h.offset (found.of_header s h)
      ++ (OpeningLine s.depth h ∷ items (site_of_children s h) children
      ++ (ClosingLine s.depth (end_octets_offset h children)
      ∷ finding_items s.depth h.offset (found.of_holder s h children)
      ++ items (site_after s (holder_extent h children) (Holder h children NoMore)) rest))
  -- of what is open, the findings of its header, its line and rows, and for a holder what it holds so far: it has no
  -- other findings yet, and no last line
  items s (OpenPrimitive h c) =
      finding_items s.depth h.offset (found.of_header s h) ++ OpenPrimitiveLines s.depth h c ∷ []
  items s (OpenHolder h children) =
      finding_items s.depth h.offset (found.of_header s h)
      ++ OpeningLine s.depth h ∷ items (site_of_children s h) children
  items s (OpenBitString h) = finding_items s.depth h.offset (found.of_header s h) ++ OpeningLine s.depth h ∷ []
  items s _ = []
