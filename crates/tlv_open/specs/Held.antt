-- What an OCTET STRING or a BIT STRING holds, if it is to be opened: X.690 8.6 and 8.7.
use Rattle.std.specs.Prelude.{◌≡◌, ℕ, ◌+◌, ◌<◌, true, false, eqb, List, [], ◌∷◌, Option, Some, None}
use Rattle.std.specs.Prelude.{if◌then◌else◌}
use Rattle.tlv_head.specs.Limits.{depth_limit}
use Rattle.tlv_head.specs.Header.{HeaderValue, is_universal}
use Rattle.tlv_head.specs.UniversalTypes as universal
use Rattle.tlv_show.specs.ListedFindings.{listed_findings}
use Rattle.tlv_show.specs.Site.{top_site}
use Rattle.tlv_show.specs.declared.rules.Rules.TheVariants.{Ber}
use Rattle.tlv_value.specs.Types.{is_a}
use Rattle.tlv_walk.specs.Forest.{Forest, Holder, Primitive, has_element, spelling}
use Rattle.tlv_walk.specs.Place.{Place}
use Rattle.tlv_walk.specs.Reading.{IsSound}

-- 8.6.2.2: the contents octets of a BIT STRING after the first, if the first says that no bit is unused
abbrev pub after_unused_bits : List ℕ → Option (List ℕ)
after_unused_bits [] = None
after_unused_bits (x ∷ octets) = if eqb x 0 then Some octets else None

-- 8.6.2, 8.7.2: the octets of a primitive with this header and these contents that may be encodings
abbrev pub inner_octets : HeaderValue → List ℕ → Option (List ℕ)
inner_octets h contents =
    if is_a universal.octet_string h then Some contents
    else (if is_a universal.bit_string h then after_unused_bits contents else None)

-- the place where octets are read by themselves: at offset 0, inside `depth` elements, and without padding
abbrev pub place_by_itself : ℕ → Place
place_by_itself depth = record {
  offset = 0;
  depth = depth;
  bound = None;
  indefinite = false;
  padding = false;
  inside = [];
}

-- a primitive of the universal class that has no findings under BER: random octets are seldom one
pub record IsClearPrimitive (h : HeaderValue) (contents : List ℕ) : Type 0 where
  pub in_universal_class : is_universal h.class ≡ true
  pub no_header_findings : (listed_findings Ber).of_header top_site h ≡ []
  pub no_contents_findings : (listed_findings Ber).of_primitive top_site h contents ≡ []

-- each of the outermost elements is constructed, or such a primitive
abbrev pub AreLikely : Forest → Type 0
AreLikely (Primitive h contents rest) = IsClearPrimitive h contents × AreLikely rest
AreLikely (Holder h children rest) = AreLikely rest
AreLikely end = Unit {0}

-- a primitive inside `depth` elements is a string that holds encodings and nothing else: read by themselves, at
-- `depth + 1`, they are one or more sound elements, and the outermost are likely to be encodings
pub record HoldsEncodings (depth : ℕ) (h : HeaderValue) (contents : List ℕ) (inner : Forest) : Type 0 where
  pub octets : inner_octets h contents ≡ Some (spelling inner)
  -- the string counts among the holders
  pub shallow : depth < depth_limit
  pub sound : IsSound (place_by_itself (depth + 1)) inner
  pub some : has_element inner ≡ true
  pub likely : AreLikely inner
