-- What stands at the open end of a forest, and the octets before it.
use Rattle.std.proofs.Common.{◌≡◌, ◌≢◌, inl, inr, ℕ, ◌+◌, Bool, true, false, List, [], ◌∷◌, ◌++◌, length, refl, sym, ap}
use Rattle.std.proofs.Common.{◌∙◌, arith}
use Rattle.std.proofs.Common.{append_assoc, length-append}
use Rattle.tlv_head.specs.declared.header.Class.{Class}
use Rattle.tlv_head.specs.Header.{IsIdentifier, identifier_octet, octets_of, with_bit_8}
use Rattle.tlv_head.specs.Refusal.{IsHeaderPrefix}
use Rattle.tlv_walk.specs.Ending.{open_end}
use Rattle.tlv_walk.specs.Forest.{Forest, Holder, NoMore, OpenBitString, OpenEndOctets, OpenHeader, OpenHolder}
use Rattle.tlv_walk.specs.Forest.{OpenPrimitive, PaddingOctet, Primitive, end_octets, holder_extent, opening, primitive_extent}
use Rattle.tlv_walk.specs.Forest.{spelling}
use Rattle.tlv_walk.specs.Place.{ObeysGrammar, Place, place_after, place_of_children}
use Rattle.tlv_walk.proofs.GrammarLemmas.Spellings.{append_assoc-3, append_assoc-4}

-- what can stand at an open end: nothing, or what lacks octets
abbrev pub is_end : Forest → Bool
is_end NoMore = true
is_end (OpenPrimitive h c) = true
is_end (OpenBitString h) = true
is_end (OpenHeader octets) = true
is_end OpenEndOctets = true
is_end f = false

-- the octets before the open end, which obeys the grammar there
pub record HasOpenEnd (p : Place) (f : Forest) : Type 0 where
  pub octets : List ℕ
  pub spelled : spelling f ≡ octets ++ spelling (open_end p f).forest
  pub offset : (open_end p f).place.offset ≡ p.offset + length octets
  pub grammar : ObeysGrammar (open_end p f).place (open_end p f).forest
  pub end : is_end (open_end p f).forest ≡ true

pub has_open_end : (p : Place) (f : Forest) → ObeysGrammar p f → HasOpenEnd p f
has_open_end p NoMore o = record {
  octets = [];
  spelled = refl;
  offset = omega arith;
  grammar = o;
  end = refl;
}
has_open_end p (PaddingOctet rest) o =
    let q : HasOpenEnd (place_after p 1) rest = has_open_end (place_after p 1) rest o.1 in
    record {
      octets = 0 ∷ q.octets;
      spelled = ap (λ (l : List ℕ). 0 ∷ l) q.spelled;
      offset = omega (arith, q.offset);
      grammar = q.grammar;
      end = q.end;
    }
has_open_end p (Primitive h c rest) o =
    let q : HasOpenEnd (place_after p (primitive_extent h c)) rest =
    has_open_end (place_after p (primitive_extent h c)) rest o.1 in
    record {
      octets = octets_of h ++ (c ++ q.octets);
      spelled =
          ap (λ (l : List ℕ). octets_of h ++ (c ++ l)) q.spelled
          ∙ sym (append_assoc-3 (octets_of h) c q.octets
          (spelling (open_end (place_after p (primitive_extent h c)) rest).forest));
      offset =
          omega (
            arith,
            q.offset,
            length-append (octets_of h) (c ++ q.octets),
            length-append c q.octets,
          );
      grammar = q.grammar;
      end = q.end;
    }
has_open_end p (Holder h children rest) o =
    let q : HasOpenEnd (place_after p (holder_extent h children)) rest =
    has_open_end (place_after p (holder_extent h children)) rest o.2 in
    record {
      octets = opening h ++ (spelling children ++ (end_octets h.size ++ q.octets));
      spelled =
          ap (λ (l : List ℕ). opening h ++ (spelling children ++ (end_octets h.size ++ l))) q.spelled
          ∙ sym (append_assoc-4 (opening h) (spelling children) (end_octets h.size) q.octets
          (spelling (open_end (place_after p (holder_extent h children)) rest).forest));
      offset =
          omega (
            arith,
            q.offset,
            length-append (opening h) (spelling children ++ (end_octets h.size ++ q.octets)),
            length-append (spelling children) (end_octets h.size ++ q.octets),
            length-append (end_octets h.size) q.octets,
          );
      grammar = q.grammar;
      end = q.end;
    }
has_open_end p (OpenPrimitive h c) o = record {
  octets = [];
  spelled = refl;
  offset = omega arith;
  grammar = o;
  end = refl;
}
has_open_end p (OpenHolder h children) o =
    let q : HasOpenEnd (place_of_children p h) children = has_open_end (place_of_children p h) children o.1 in
    record {
      octets = opening h ++ q.octets;
      spelled =
          ap (λ (l : List ℕ). opening h ++ l) q.spelled
          ∙ sym (append_assoc (opening h) q.octets (spelling (open_end (place_of_children p h) children).forest));
      offset = omega (arith, q.offset, length-append (opening h) q.octets);
      grammar = q.grammar;
      end = q.end;
    }
has_open_end p (OpenBitString h) o = record {
  octets = [];
  spelled = refl;
  offset = omega arith;
  grammar = o;
  end = refl;
}
has_open_end p (OpenHeader octets) o = record {
  octets = [];
  spelled = refl;
  offset = omega arith;
  grammar = o;
  end = refl;
}
has_open_end p OpenEndOctets o = record {
  octets = [];
  spelled = refl;
  offset = omega arith;
  grammar = o;
  end = refl;
}

-- 8.1.2.4: no identifier begins with 00
identifier-first : (class : Class) (constructed : Bool) (number : ℕ) (id : List ℕ) (x : ℕ) (rest : List ℕ)
    → IsIdentifier class constructed number id → (more : List ℕ) → id ++ more ≡ x ∷ rest → x ≢ 0
identifier-first class constructed number id x rest (inl low) more e zero_ =
    let front : id ++ more ≡ identifier_octet class constructed number ∷ more =
    ap (λ (l : List ℕ). l ++ more) low.octets_are in
    let first : identifier_octet class constructed number ≡ x = cc (front, e) in
    low.nonzero (first ∙ zero_)
identifier-first class constructed number id x rest (inr high) more e zero_ =
    let front : id ++ more
    ≡ identifier_octet class constructed 31 ∷ ((with_bit_8 high.digits ++ high.last ∷ []) ++ more) =
    ap (λ (l : List ℕ). l ++ more) high.octets_are in
    let first : identifier_octet class constructed 31 ≡ x = cc (front, e) in
    absurd (omega (arith, first, zero_))

-- nor does a prefix of a header
pub header_prefix-first : (x : ℕ) (octets : List ℕ) → IsHeaderPrefix (x ∷ octets) → x ≢ 0
header_prefix-first x octets k =
    identifier-first k.header.class k.header.constructed k.header.number k.header.identifier_octets x (octets ++ k.more)
    k.valid.identifier k.header.length_octets (sym k.prefix)
