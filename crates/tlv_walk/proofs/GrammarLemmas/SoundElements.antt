-- Sound elements are forests that obey the grammar and in which nothing is open, and the other way.
use Rattle.std.proofs.Common.{◌≡◌, ◌+◌, true, false, length, refl, arith}
use Rattle.tlv_head.specs.Header.{HeaderValue, octets_of}
use Rattle.tlv_walk.specs.declared.framing.Framing.{Framing}
use Rattle.tlv_walk.specs.Forest.{Forest, Holder, NoMore, OpenBitString, OpenEndOctets, OpenHeader, OpenHolder}
use Rattle.tlv_walk.specs.Forest.{OpenPrimitive, PaddingOctet, Primitive, contents_length, holder_extent, is_whole, spelling}
use Rattle.tlv_walk.specs.Place.{Fits, ObeysGrammar, Place, place_after, place_of_children, top_place}
use Rattle.tlv_walk.proofs.GrammarLemmas.Lengths.{HasLength}
use Rattle.tlv_walk.specs.Reading.{IsSound}
use Rattle.tlv_walk.proofs.GrammarLemmas.Bounds.{filled-within, within-le}
use Rattle.tlv_walk.proofs.GrammarLemmas.Spellings.{length-holder, length-opening, length-primitive}

-- nothing is open in sound elements
pub sound-whole : (p : Place) (f : Forest) → IsSound p f → is_whole f ≡ true
sound-whole p NoMore s = refl
sound-whole p (PaddingOctet rest) s = sound-whole (place_after p 1) rest s.1
sound-whole p (Primitive h c rest) s = sound-whole (place_after p (length (octets_of h) + length c)) rest s.1
sound-whole p (Holder h inside rest) s = sound-whole (place_after p (holder_extent h inside)) rest s.2
sound-whole p (OpenPrimitive h c) s = absurd s
sound-whole p (OpenHolder h inside) s = absurd s
sound-whole p (OpenBitString h) s = absurd s
sound-whole p (OpenHeader octets) s = absurd s
sound-whole p OpenEndOctets s = absurd s

-- the contents of an element within the bound are within the bound inside
fits-contents : (p : Place) (h : HeaderValue) (inside : Forest) → HasLength h.size (contents_length h inside)
    → Fits p (holder_extent h inside) → Fits (place_of_children p h) (length (spelling inside))
fits-contents p h inside same f =
    within-le (place_of_children p h).bound _ _ (omega (arith, length-opening h))
    (filled-within h.size (p.offset + length (octets_of h)) p.bound (contents_length h inside) same
    (within-le p.bound _ _ (omega (arith, length-opening h)) f))

-- sound elements that end within the bound obey the grammar
pub sound-obeys_grammar : (p : Place) (f : Forest) → (p.padding ≡ true → p.indefinite ≡ false)
    → Fits p (length (spelling f))
    → IsSound p f → ObeysGrammar p f
sound-obeys_grammar p NoMore d z s = tt
sound-obeys_grammar p (PaddingOctet rest) d z s = (
  (s.0, d s.0, within-le p.bound _ _ (omega arith) z),
  sound-obeys_grammar (place_after p 1) rest d (within-le p.bound _ _ (omega arith) z) s.1,
)
sound-obeys_grammar p (Primitive h c rest) d z s = (
  (
    record {
      header = s.0.0;
      holding = s.0.1;
      fits = within-le p.bound _ _ (omega (arith, length-primitive h c rest)) z;
    },
    s.0.2,
  ),
  sound-obeys_grammar (place_after p (length (octets_of h) + length c)) rest d
      (within-le p.bound _ _ (omega (arith, length-primitive h c rest)) z) s.1,
)
sound-obeys_grammar p (Holder h inside rest) d z s =
    let f : Fits p (holder_extent h inside) = within-le p.bound _ _ (omega (arith, length-holder h inside rest)) z in (
      (
        record { header = s.0.0; holding = s.0.1; shallow = s.0.2; fits = f },
        sound-whole (place_of_children p h) inside s.1,
        s.0.3,
      ),
      sound-obeys_grammar (place_of_children p h) inside (λ e. absurd (cc)) (fits-contents p h inside s.0.3 f) s.1,
      sound-obeys_grammar (place_after p (holder_extent h inside)) rest d
          (within-le p.bound _ _ (omega (arith, length-holder h inside rest)) z) s.2,
    )
sound-obeys_grammar p (OpenPrimitive h c) d z s = absurd s
sound-obeys_grammar p (OpenHolder h inside) d z s = absurd s
sound-obeys_grammar p (OpenBitString h) d z s = absurd s
sound-obeys_grammar p (OpenHeader octets) d z s = absurd s
sound-obeys_grammar p OpenEndOctets d z s = absurd s

-- a forest that obeys the grammar and in which nothing is open is sound
pub grammar-sound : (p : Place) (f : Forest) → ObeysGrammar p f → is_whole f ≡ true → IsSound p f
grammar-sound p NoMore w t = tt
grammar-sound p (PaddingOctet rest) w t = (w.0.0, grammar-sound (place_after p 1) rest w.1 t)
grammar-sound p (Primitive h c rest) w t =
    ((w.0.0.header, w.0.0.holding, w.0.1), grammar-sound (place_after p (length (octets_of h) + length c)) rest w.1 t)
grammar-sound p (Holder h inside rest) w t = (
  (w.0.0.header, w.0.0.holding, w.0.0.shallow, w.0.2),
  grammar-sound (place_of_children p h) inside w.1 w.0.1,
  grammar-sound (place_after p (holder_extent h inside)) rest w.2 t,
)
grammar-sound p (OpenPrimitive h c) w t = absurd (cc)
grammar-sound p (OpenHolder h inside) w t = absurd (cc)
grammar-sound p (OpenBitString h) w t = absurd (cc)
grammar-sound p (OpenHeader octets) w t = absurd (cc)
grammar-sound p OpenEndOctets w t = absurd (cc)

-- at the start of the input
pub sound-obeys_grammar_top : (w : Framing) (f : Forest) → IsSound (top_place w) f → ObeysGrammar (top_place w) f
sound-obeys_grammar_top w f s = sound-obeys_grammar (top_place w) f (λ _. refl) tt s
