-- Words of sites and of items that proofs use.
use Rattle.std.specs.Prelude.{ℕ, Bool, false, List, Option}
use Rattle.std.specs.Option.{option_map_or}
use Rattle.tlv_head.specs.Header.{HeaderValue}
use Rattle.tlv_walk.specs.Forest.{Forest, Holder, NoMore, PaddingOctet, Primitive, holder_extent, primitive_extent}
use Rattle.tlv_show.specs.Items.{Item, finding_items}
use Rattle.tlv_show.specs.ListedFindings.{ElementFindings}
use Rattle.tlv_show.specs.Site.{Site, site_after}

abbrev pub is_held_by : (HeaderValue → Bool) → Option HeaderValue → Bool
is_held_by test holder = option_map_or test holder false

-- after a primitive, after an element that holds others, and after an octet of padding
abbrev pub site_after_primitive : Site → HeaderValue → List ℕ → Site
site_after_primitive s h c = site_after s (primitive_extent h c) (Primitive h c NoMore)

abbrev pub site_after_holder : Site → HeaderValue → Forest → Site
site_after_holder s h children = site_after s (holder_extent h children) (Holder h children NoMore)

abbrev pub site_after_padding : Site → Site
site_after_padding s = site_after s 1 (PaddingOctet NoMore)

-- the findings of the header of an element, on the contents of a primitive, and of the end of an element that held
-- others
abbrev pub header_items : ElementFindings → Site → HeaderValue → List Item
header_items found s h = finding_items s.depth h.offset (found.of_header s h)

abbrev pub contents_items : ElementFindings → Site → HeaderValue → List ℕ → List Item
contents_items found s h c = finding_items s.depth h.offset (found.of_primitive s h c)

abbrev pub end_items : ElementFindings → Site → HeaderValue → Forest → List Item
end_items found s h children = finding_items s.depth h.offset (found.of_holder s h children)
