-- The order of the elements of a SET: X.690 9.3, 10.3 and 11.6, and X.680 8.6.
use Rattle.std.specs.Prelude.{ℕ, Bool, false, ◌&&◌, ◌||◌, not, ◌==◌, nat_lt, if◌then◌else◌, List, [], ◌∷◌, ◌++◌}
use Rattle.std.specs.Prelude.{Option, Some, None, replicate, take}
use Rattle.tlv_head.specs.declared.header.Class.{Class}
use Rattle.tlv_head.specs.Header.{HeaderValue, class_bits, octets_of}
use Rattle.tlv_head.specs.UniversalTypes as universal
use Rattle.tlv_value.specs.Types.{is_a}
use Rattle.tlv_walk.specs.Forest.{Forest, Holder, NoMore, OpenBitString, OpenEndOctets, OpenHeader, OpenHolder}
use Rattle.tlv_walk.specs.Forest.{OpenPrimitive, PaddingOctet, Primitive, end_octets, opening, spelling}
use Rattle.tlv_show.specs.declared.rules.Rules.{Rules}
use Rattle.tlv_show.specs.declared.rules.Rules.TheVariants.{Ber, Der, Cer}
use Rattle.tlv_show.specs.Site.{Site}

-- 8.11, 8.12: a constructed element with the tag of SET, which SET OF has too
abbrev pub is_set : HeaderValue → Bool
is_set h = h.constructed && is_a universal.set h

-- ---- The elements that are compared

-- a whole element: its header and its octets
pub record Element : Type 0 where
  pub header : HeaderValue
  pub octets : List ℕ

-- 8.1.1.1: a primitive: its identifier octets, length octets and contents octets
abbrev pub primitive_element : HeaderValue → List ℕ → Element
primitive_element h c = record { header = h; octets = octets_of h ++ c }

-- 8.1.1.1: a holder, with its end-of-contents octets, if any
abbrev pub holder_element : HeaderValue → Forest → Element
holder_element h children = record {
  header = h;
  octets = opening h ++ (spelling children ++ end_octets h.size);
}

-- ---- By octets

-- the number of octets of each element that are compared, a limit of our own: if these agree, nothing is said
abbrev pub compared_count : ℕ
compared_count = 64

-- as many octets 00 as are compared
unfoldable pub zeros : List ℕ
zeros = replicate compared_count 0

-- 11.6: the octets that are compared: the first ones of the element, which is filled up with 00 at its end
abbrev pub compared_octets : List ℕ → List ℕ
compared_octets octets = take compared_count (octets ++ zeros)

-- 11.6: at the first octet at which these differ, the octet of the first list is smaller
abbrev pub is_smaller : List ℕ → List ℕ → Bool
is_smaller [] b = false
is_smaller (x ∷ a) [] = false
is_smaller (x ∷ a) (y ∷ b) = nat_lt x y || (x == y && is_smaller a b)

-- 11.6: the element comes before this other one
abbrev pub comes_before_by_octets : Element → Element → Bool
comes_before_by_octets e other = is_smaller (compared_octets e.octets) (compared_octets other.octets)

-- ---- By tag

-- X.680 8.6: the tag with this class and number comes after the other tag: universal, application, context-specific,
-- private, as the class bits are numbered; and in one class by number
abbrev pub is_tag_after : Class → ℕ → Class → ℕ → Bool
is_tag_after class number other_class other_number =
    nat_lt (class_bits other_class) (class_bits class)
    || (class_bits class == class_bits other_class && nat_lt other_number number)

abbrev pub is_same_tag : Class → ℕ → Class → ℕ → Bool
is_same_tag class number other_class other_number =
    class_bits class == class_bits other_class && number == other_number

-- 9.3, 10.3: the octets of two neighbours decide: the tag of the later one, which is the first here, is not after that
-- of the other. So either they are elements of a SET OF, or they are not in the order of a SET. By 9.3 the order of a
-- SET under CER can depend on a type that is a CHOICE: there the tags must be the same, so that this is a SET OF
abbrev pub do_octets_decide : Rules → Class → ℕ → Class → ℕ → Bool
do_octets_decide Ber class number other_class other_number = not (is_tag_after class number other_class other_number)
do_octets_decide Der class number other_class other_number = not (is_tag_after class number other_class other_number)
do_octets_decide Cer class number other_class other_number = is_same_tag class number other_class other_number

-- ---- Out of order

-- 9.3, 10.3, 11.6: an element of a SET comes after this neighbour neither by its octets nor by its tag
abbrev pub is_out_of_order : Rules → Element → Element → Bool
is_out_of_order rules neighbour e =
    do_octets_decide rules e.header.class e.header.number neighbour.header.class neighbour.header.number
    && comes_before_by_octets e neighbour

-- the same of an element with what holds it, and its neighbour: the element right before it in this holder
abbrev pub is_out_of_order_after : Rules → Option HeaderValue → Option Element → Element → Bool
is_out_of_order_after rules (Some holder) (Some neighbour) e = is_set holder && is_out_of_order rules neighbour e
is_out_of_order_after rules holder neighbour e = false

-- ---- At a site

-- an element right before, in what holds it
abbrev pub neighbour_of : Forest → Option Element
neighbour_of (Primitive h c rest) = Some (primitive_element h c)
neighbour_of (Holder h children rest) = Some (holder_element h children)
neighbour_of _ = None

-- 9.3, 10.3, 11.6: the element is in a SET, and out of order
abbrev pub is_out_of_order_at : Rules → Site → Element → Bool
is_out_of_order_at rules s e = is_out_of_order_after rules s.holder (neighbour_of s.previous) e

-- ---- In a forest

-- the offset of the element, if it is out of order
abbrev pub offset_if : Bool → ℕ → List ℕ
offset_if out_of_order offset = if out_of_order then offset ∷ [] else []

-- the offsets of the whole elements that are out of order, as they end. The first element is held by `holder`, if any,
-- and is right after `neighbour`, if any
abbrev pub out_of_order_offsets : Rules → Option HeaderValue → Option Element → Forest → List ℕ
out_of_order_offsets rules holder neighbour NoMore = []
out_of_order_offsets rules holder neighbour (PaddingOctet rest) = out_of_order_offsets rules holder None rest
out_of_order_offsets rules holder neighbour (Primitive h c rest) =
    offset_if (is_out_of_order_after rules holder neighbour (primitive_element h c)) h.offset
    ++ out_of_order_offsets rules holder (Some (primitive_element h c)) rest
out_of_order_offsets rules holder neighbour (Holder h children rest) =
    out_of_order_offsets rules (Some h) None children
    ++ (offset_if (is_out_of_order_after rules holder neighbour (holder_element h children)) h.offset
    ++ out_of_order_offsets rules holder (Some (holder_element h children)) rest)
out_of_order_offsets rules holder neighbour (OpenPrimitive h c) = []
out_of_order_offsets rules holder neighbour (OpenHolder h children) = out_of_order_offsets rules (Some h) None children
out_of_order_offsets rules holder neighbour (OpenBitString h) = []
out_of_order_offsets rules holder neighbour (OpenHeader octets) = []
out_of_order_offsets rules holder neighbour OpenEndOctets = []
