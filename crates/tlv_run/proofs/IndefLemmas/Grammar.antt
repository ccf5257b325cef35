-- The same elements with indefinite lengths obey the grammar.
use Rattle.std.specs.Option.{option_map_or}
use Rattle.std.proofs.Common.{refl, sym, ap, ◌∙◌, subst}
use Rattle.std.specs.Prelude.{◌≡◌, ℕ, ◌+◌, ◌<◌, ◌≤◌, Bool, true, false, not, ◌&&◌, ◌||◌, eqb, List}
use Rattle.std.specs.Prelude.{[], length, Option, Some, None, IfSome}
use Rattle.tlv_head.specs.declared.header.Size.{Size}
use Rattle.tlv_head.specs.declared.header.Size.TheVariants.{Indefinite}
use Rattle.tlv_head.specs.Header.{HeaderValue, definite_length, holds, octets_of}
use Rattle.tlv_head.specs.HeaderSoFar.{AllowsSize}
use Rattle.tlv_head.proofs.Wraps.{is_wrapper}
use Rattle.tlv_walk.specs.Forest.{Forest, NoMore, PaddingOctet, Primitive, Holder, OpenPrimitive, OpenHolder}
use Rattle.tlv_walk.specs.Forest.{OpenBitString, OpenHeader, OpenEndOctets}
use Rattle.tlv_walk.specs.Forest.{holder_extent, has_element, is_whole, is_wrapping_bit_string, opening}
use Rattle.tlv_walk.specs.Place.{Fits, IsHeaderAt, ObeysGrammar, Place, announced_extent, place_after}
use Rattle.tlv_walk.specs.Place.{place_of_children}
use Rattle.tlv_run.specs.Indef.{with_indefinite_lengths, indefinite_header, with_offsets_from}
use Rattle.tlv_run.proofs.IndefLemmas.Offsets.{constructed_at, is_named, spelling-with_offsets_from}

-- elements that have all ended have ended at any offset
is_whole-with_offsets_from : (offset : ℕ) (f : Forest) → is_whole (with_offsets_from offset f) ≡ is_whole f
is_whole-with_offsets_from offset NoMore = refl
is_whole-with_offsets_from offset (PaddingOctet rest) = is_whole-with_offsets_from (offset + 1) rest
is_whole-with_offsets_from offset (Primitive h c rest) =
    is_whole-with_offsets_from (offset + (length (octets_of h) + length c)) rest
is_whole-with_offsets_from offset (Holder h inside rest) = is_whole-with_offsets_from (offset + holder_extent h inside) rest
is_whole-with_offsets_from offset (OpenPrimitive h c) = refl
is_whole-with_offsets_from offset (OpenHolder h inside) = refl
is_whole-with_offsets_from offset (OpenBitString h) = refl
is_whole-with_offsets_from offset (OpenHeader octets) = refl
is_whole-with_offsets_from offset OpenEndOctets = refl

-- and with indefinite lengths
is_whole-with_indefinite_lengths : (f : Forest) → is_whole f ≡ true → is_whole (with_indefinite_lengths f) ≡ true
is_whole-with_indefinite_lengths NoMore e = refl
is_whole-with_indefinite_lengths (PaddingOctet rest) e = is_whole-with_indefinite_lengths rest e
is_whole-with_indefinite_lengths (Primitive h c rest) e = is_whole-with_indefinite_lengths rest e
is_whole-with_indefinite_lengths (Holder h inside rest) e =
    is_whole-with_indefinite_lengths rest e
is_whole-with_indefinite_lengths (OpenPrimitive h c) e = absurd (cc)
is_whole-with_indefinite_lengths (OpenHolder h inside) e = absurd (cc)
is_whole-with_indefinite_lengths (OpenBitString h) e = absurd (cc)
is_whole-with_indefinite_lengths (OpenHeader octets) e = refl
is_whole-with_indefinite_lengths OpenEndOctets e = refl

pub offsets-whole : (offset : ℕ) (f : Forest) → is_whole f ≡ true
    → is_whole (with_offsets_from offset (with_indefinite_lengths f)) ≡ true
offsets-whole offset f e =
    is_whole-with_offsets_from offset (with_indefinite_lengths f) ∙ is_whole-with_indefinite_lengths f e

-- if there is an element, there is one with indefinite lengths too
pub offsets-has_element : (offset : ℕ) (f : Forest) → is_whole f ≡ true → has_element f ≡ true
    → has_element (with_offsets_from offset (with_indefinite_lengths f)) ≡ true
offsets-has_element offset NoMore w e = e
offsets-has_element offset (PaddingOctet rest) w e = offsets-has_element (offset + 1) rest w e
offsets-has_element offset (Primitive h c rest) w e = refl
offsets-has_element offset (Holder h inside rest) w e = refl
offsets-has_element offset (OpenPrimitive h c) w e = absurd (cc)
offsets-has_element offset (OpenHolder h inside) w e = absurd (cc)
offsets-has_element offset (OpenBitString h) w e = absurd (cc)
offsets-has_element offset (OpenHeader octets) w e = absurd (cc)
offsets-has_element offset OpenEndOctets w e = absurd (cc)

-- the place `q` is as `p`, if no string is read as encodings, but for a bound: at `q` there is none
pub record IsFree (p q : Place) : Type 0 where
  pub names : p.inside ≡ []
  pub same_names : q.inside ≡ []
  pub depth : q.depth ≡ p.depth
  pub bound : q.bound ≡ None
  pub padding : p.padding ≡ true → q.padding ≡ true
  pub definite : p.padding ≡ true → q.indefinite ≡ false

free_fits : (p q : Place) → IsFree p q → (n : ℕ) → Fits q n
free_fits p q k n = subst (λ (b : Option ℕ). IfSome b (λ b. q.offset + n ≤ b)) (sym k.bound) tt

free_after : (p q : Place) (m n : ℕ) → IsFree p q → IsFree (place_after p m) (place_after q n)
free_after p q m n k =
    record {
      names = k.names;
      same_names = k.same_names;
      depth = k.depth;
      bound = k.bound;
      padding = k.padding;
      definite = k.definite;
    }

free_inside : (p q : Place) (h g : HeaderValue) → g.size ≡ Indefinite → IsFree p q
    → IsFree (place_of_children p h) (place_of_children q g)
free_inside p q h g e k = record {
  names = k.names;
  same_names = k.same_names;
  depth = ap (λ (d : ℕ). d + 1) k.depth;
  bound =
      ap (λ (s : Size). option_map_or (λ n. Some (q.offset + length (octets_of g) + n)) (definite_length s) q.bound) e
      ∙ k.bound;
  padding = λ z. absurd (cc);
  definite = λ z. absurd (cc);
}

-- the header of a primitive may be there
primitive_at : (p q : Place) (h : HeaderValue) → IsFree p q → IsHeaderAt p h
    → IsHeaderAt q (record h { offset = q.offset })
primitive_at p q h k v = record {
  valid = record { identifier = v.valid.identifier; lengths = v.valid.lengths; allowed = v.valid.allowed };
  offset = refl;
  named = v.named ∙ is_named p.offset p.inside k.names ∙ sym (is_named q.offset q.inside k.same_names);
}

-- the header of a constructed element, with an indefinite length, may be there
abbrev heading_at : Place → HeaderValue → HeaderValue
heading_at q h = record (indefinite_header h) { offset = q.offset }

constructed_header : (p q : Place) (h : HeaderValue) → IsFree p q → IsHeaderAt p h → h.constructed ≡ true
    → IsHeaderAt q (heading_at q h)
constructed_header p q h k v constructed =
    record {
      valid = record {
        identifier = v.valid.identifier;
        lengths = refl;
        allowed = subst
            (λ (c : Bool). AllowsSize c Indefinite) (sym constructed) refl;
      };
      offset = refl;
      named = v.named ∙ is_named p.offset p.inside k.names ∙ sym (is_named q.offset q.inside k.same_names);
    }

constructed_holds : (q : Place) (h : HeaderValue) → h.constructed ≡ true → holds (heading_at q h) ≡ true
constructed_holds q h constructed = ap (λ (c : Bool). c || is_wrapper h.named h.class c h.number Indefinite) constructed

-- the offsets of what an element holds do not move what follows the element
offsets-rest_obeys_grammar : (q : Place) (h : HeaderValue) (offset : ℕ) (inside rest : Forest)
    → ObeysGrammar (place_after q (holder_extent (heading_at q h) inside)) rest
    → ObeysGrammar (place_after q (holder_extent (heading_at q h) (with_offsets_from offset inside))) rest
offsets-rest_obeys_grammar q h offset inside rest v =
    subst (λ (l : List ℕ). ObeysGrammar (place_after q (length (opening (heading_at q h)) + (length l + 2))) rest)
    (sym (spelling-with_offsets_from offset inside)) v

pub obeys_grammar : (p q : Place) (f : Forest) → IsFree p q → ObeysGrammar p f
    → ObeysGrammar q (with_offsets_from q.offset (with_indefinite_lengths f))
obeys_grammar p q NoMore k v = tt
obeys_grammar p q (PaddingOctet rest) k v = (
  (k.padding v.0.0, k.definite v.0.0, free_fits p q k 1),
  obeys_grammar (place_after p 1) (place_after q 1) rest (free_after p q 1 1 k) v.1,
)
obeys_grammar p q (Primitive h c rest) k v =
    let n = length (octets_of h) + length c in (
      (
        record {
          header = primitive_at p q h k v.0.0.header;
          holding = v.0.0.holding;
          fits = free_fits p q k n;
        },
        v.0.1,
      ),
      obeys_grammar (place_after p n) (place_after q n) rest (free_after p q n n k) v.1,
    )
obeys_grammar p q (Holder h inside rest) k v =
    let header = heading_at q h in
    let offset = q.offset + length (opening header) in
    let n = holder_extent header (with_indefinite_lengths inside) in
    let constructed = constructed_at p h k.names v.0.0.header v.0.0.holding in (
      (
        record {
          header = constructed_header p q h k v.0.0.header constructed;
          holding = constructed_holds q h constructed;
          shallow = subst (λ (d : ℕ). d < 128) (sym k.depth) v.0.0.shallow;
          fits = free_fits p q k (holder_extent header (with_offsets_from offset (with_indefinite_lengths inside)));
        },
        offsets-whole offset inside v.0.1,
        tt,
      ),
      obeys_grammar (place_of_children p h) (place_of_children q header) inside (free_inside p q h header refl k) v.1,
      offsets-rest_obeys_grammar q h offset (with_indefinite_lengths inside)
          (with_offsets_from (q.offset + n) (with_indefinite_lengths rest))
          (obeys_grammar (place_after p (holder_extent h inside)) (place_after q n) rest (free_after p q
          (holder_extent h inside) n k) v.2),
    )
obeys_grammar p q (OpenPrimitive h c) k v = (
  record {
    header = primitive_at p q h k v.0.header;
    holding = v.0.holding;
    fits = free_fits p q k (announced_extent h);
  },
  v.1,
)
obeys_grammar p q (OpenHolder h inside) k v =
    let header = heading_at q h in
    let constructed = constructed_at p h k.names v.0.0.header v.0.0.holding in (
      (
        record {
          header = constructed_header p q h k v.0.0.header constructed;
          holding = constructed_holds q h constructed;
          shallow = subst (λ (d : ℕ). d < 128) (sym k.depth) v.0.0.shallow;
          fits = free_fits p q k (length (octets_of header) + 0);
        },
        λ w. tt,
      ),
      obeys_grammar (place_of_children p h) (place_of_children q header) inside (free_inside p q h header refl k) v.1,
    )
obeys_grammar p q (OpenBitString h) k v = absurd (awaits h (constructed_at p h k.names v.0.header v.0.holding) v.1)
  where
    awaits : (h : HeaderValue) → h.constructed ≡ true → is_wrapping_bit_string h ≡ true → ⊥
    awaits h e bits = cc (ap (λ (k : Bool). not k && eqb h.number 3) e, bits)
obeys_grammar p q (OpenHeader octets) k v = tt
obeys_grammar p q OpenEndOctets k v = tt
