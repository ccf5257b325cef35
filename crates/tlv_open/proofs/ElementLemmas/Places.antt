-- Sound elements are so at each place with the same offset, depth and padding.
use Rattle.std.proofs.Common.{◌≡◌, ℕ, ◌+◌, length, refl, sym, ap, ap₂, ◌∙◌, arith}
use Rattle.tlv_head.specs.Header.{HeaderValue}
use Rattle.tlv_walk.specs.Forest.{Forest, Holder, NoMore, OpenBitString, OpenEndOctets, OpenHeader, OpenHolder}
use Rattle.tlv_walk.specs.Forest.{OpenPrimitive, PaddingOctet, Primitive, holder_extent, opening, primitive_extent}
use Rattle.tlv_head.specs.Lists.{is_among}
use Rattle.tlv_walk.specs.Place.{IsHeaderAt, Place, place_after, place_of_children}
use Rattle.tlv_walk.specs.Reading.{IsSound}

pub record AreAlikePlaces (p q : Place) : Type 0 where
  pub offset : p.offset ≡ q.offset
  pub depth : p.depth ≡ q.depth
  pub padding : p.padding ≡ q.padding
  pub inside : p.inside ≡ q.inside

pub alike-back : (p q : Place) → AreAlikePlaces p q → AreAlikePlaces q p
alike-back p q a = record {
  offset = sym a.offset;
  depth = sym a.depth;
  padding = sym a.padding;
  inside = sym a.inside;
}

pub header-alike : (p q : Place) (h : HeaderValue) → AreAlikePlaces p q → IsHeaderAt p h → IsHeaderAt q h
header-alike p q h a k = record {
  valid = k.valid;
  offset = k.offset ∙ a.offset;
  named = k.named ∙ ap₂ is_among a.offset a.inside;
}

pub alike-after : (p q : Place) (n : ℕ) → AreAlikePlaces p q → AreAlikePlaces (place_after p n) (place_after q n)
alike-after p q n a = record {
  offset = ap (λ (o : ℕ). o + n) a.offset;
  depth = a.depth;
  padding = a.padding;
  inside = a.inside;
}

pub alike-children : (p q : Place) (h : HeaderValue) → AreAlikePlaces p q
    → AreAlikePlaces (place_of_children p h) (place_of_children q h)
alike-children p q h a = record {
  offset = ap (λ (o : ℕ). o + length (opening h)) a.offset;
  depth = ap (λ (o : ℕ). o + 1) a.depth;
  padding = refl;
  inside = a.inside;
}

pub sound-alike : (p q : Place) (f : Forest) → AreAlikePlaces p q → IsSound p f → IsSound q f
sound-alike p q NoMore a s = tt
sound-alike p q (PaddingOctet rest) a s =
    (sym a.padding ∙ s.0, sound-alike (place_after p 1) (place_after q 1) rest (alike-after p q 1 a) s.1)
sound-alike p q (Primitive h c rest) a s = (
  (header-alike p q h a s.0.0, s.0.1, s.0.2),
  sound-alike (place_after p (primitive_extent h c)) (place_after q (primitive_extent h c)) rest
      (alike-after p q (primitive_extent h c) a) s.1,
)
sound-alike p q (Holder h inside rest) a s = (
  (header-alike p q h a s.0.0, s.0.1, omega (arith, a.depth, s.0.2), s.0.3),
  sound-alike (place_of_children p h) (place_of_children q h) inside (alike-children p q h a) s.1,
  sound-alike (place_after p (holder_extent h inside)) (place_after q (holder_extent h inside)) rest
      (alike-after p q (holder_extent h inside) a) s.2,
)
sound-alike p q (OpenPrimitive h c) a s = absurd s
sound-alike p q (OpenHolder h inside) a s = absurd s
sound-alike p q (OpenBitString h) a s = absurd s
sound-alike p q (OpenHeader octets) a s = absurd s
sound-alike p q OpenEndOctets a s = absurd s
