-- Sound elements at another place, and where octets that begin with them break.
use Rattle.std.proofs.Common.{◌≡◌, ℕ, ◌+◌, ◌≤◌, false, true, List, [], ◌∷◌, ◌++◌, length, ap, refl}
use Rattle.std.proofs.Common.{◌∙◌, sym, subst, arith, IfSome}
use Rattle.tlv_head.specs.declared.fault.FaultCode.TheVariants.{StrayEnd}
use Rattle.tlv_head.specs.Header.{HeaderValue, definite_length, octets_of}
use Rattle.tlv_open.specs.Opens.{closed_framing}
use Rattle.tlv_walk.proofs.GrammarLemmas.Endings.{ending-by}
use Rattle.tlv_walk.proofs.GrammarLemmas.Faults.{fault-refused}
use Rattle.tlv_walk.proofs.GrammarLemmas.Readings.{Halted, run-reading}
use Rattle.tlv_walk.proofs.GrammarLemmas.SoundElements.{sound-obeys_grammar_top}
use Rattle.tlv_walk.specs.Ending.{IsEnding, IsRefusedAt, fault_ending, open_end, refused, stray_end}
use Rattle.tlv_walk.specs.Forest.{Forest, Holder, NoMore, OpenBitString, OpenEndOctets, OpenHeader, OpenHolder}
use Rattle.tlv_walk.specs.Forest.{OpenPrimitive, PaddingOctet, Primitive, end_octets, holder_extent, lead}
use Rattle.tlv_walk.specs.Forest.{opening, primitive_extent, spelling}
use Rattle.tlv_walk.specs.Place.{IsHeaderAt, Place, place_after, place_of_children, top_place}
use Rattle.tlv_walk.specs.Reading.{IsReading, IsSound}

-- two places at which no offset is named, and there is no padding
record AreLoose (p q : Place) : Type 0 where
  depth : q.depth ≤ p.depth
  named : p.inside ≡ []
  unnamed : q.inside ≡ []
  padding : p.padding ≡ false

loose-after : (p q : Place) (m n : ℕ) → AreLoose p q → AreLoose (place_after p m) (place_after q n)
loose-after p q m n a = record { depth = a.depth; named = a.named; unnamed = a.unnamed; padding = a.padding }

loose-inside : (p q : Place) (h k : HeaderValue) → AreLoose p q
    → AreLoose (place_of_children p h) (place_of_children q k)
loose-inside p q h k a = record {
  depth = omega (arith, a.depth);
  named = a.named;
  unnamed = a.unnamed;
  padding = refl;
}

-- a header at another place
header-at : Place → HeaderValue → HeaderValue
header-at q h = record h { offset = q.offset }

header-loose : (p q : Place) (h : HeaderValue) → AreLoose p q → IsHeaderAt p h → IsHeaderAt q (header-at q h)
unfolding header-at
header-loose p q h a k =
    let named : h.named ≡ false = rw a.named at k.named in
    record {
      valid = record { identifier = k.valid.identifier; lengths = k.valid.lengths; allowed = k.valid.allowed };
      offset = refl;
      named = rw a.unnamed named;
    }

-- the same elements at another place
record Moved (q : Place) (f : Forest) : Type 0 where
  forest : Forest
  sound : IsSound q forest
  spelled : spelling forest ≡ spelling f

move : (p q : Place) (f : Forest) → AreLoose p q → IsSound p f → Moved q f
unfolding header-at
move p q NoMore a s = record { forest = NoMore; sound = tt; spelled = refl }
move p q (PaddingOctet rest) a s = let e : true ≡ false = sym s.0 ∙ a.padding in absurd (cc)
move p q (Primitive h c rest) a s =
    let n : ℕ = primitive_extent h c in
    let r : Moved (place_after q n) rest =
    move (place_after p n) (place_after q n) rest (loose-after p q n n a) s.1 in
    record {
      forest = Primitive (header-at q h) c r.forest;
      sound = ((header-loose p q h a s.0.0, s.0.1, s.0.2), r.sound);
      spelled = ap (λ (o : List ℕ). octets_of h ++ (c ++ o)) r.spelled;
    }
move p q (Holder h children rest) a s =
    let k : HeaderValue = header-at q h in
    let i : Moved (place_of_children q k) children =
    move (place_of_children p h) (place_of_children q k) children (loose-inside p q h k a) s.1 in
    let n : ℕ = holder_extent h children in
    let m : ℕ = holder_extent k i.forest in
    let r : Moved (place_after q m) rest =
    move (place_after p n) (place_after q m) rest (loose-after p q n m a) s.2 in
    record {
      forest = Holder k i.forest r.forest;
      sound = (
        (
          header-loose p q h a s.0.0,
          s.0.1,
          omega (arith, s.0.2, a.depth),
          subst (λ (o : List ℕ). IfSome (definite_length h.size) (λ n. length (lead h) + length o ≡ n)) (sym i.spelled)
              s.0.3,
        ),
        i.sound,
        r.sound,
      );
      spelled =
          ap (λ (o : List ℕ). opening h ++ (o ++ (end_octets h.size ++ spelling r.forest))) i.spelled
          ∙ ap (λ (o : List ℕ). opening h ++ (spelling children ++ (end_octets h.size ++ o))) r.spelled;
    }
move p q (OpenPrimitive h c) a s = absurd s
move p q (OpenHolder h children) a s = absurd s
move p q (OpenBitString h) a s = absurd s
move p q (OpenHeader octets) a s = absurd s
move p q OpenEndOctets a s = absurd s

-- after sound elements at the top an octet 00 is refused
zero-refused : (p : Place) (f : Forest) → IsSound p f → p.indefinite ≡ false → p.padding ≡ false
    → IsRefusedAt (open_end p f) 0 StrayEnd
zero-refused p NoMore s i a = stray_end i a refl
zero-refused p (PaddingOctet rest) s i a = let e : true ≡ false = sym s.0 ∙ a in absurd (cc)
zero-refused p (Primitive h c rest) s i a = zero-refused (place_after p (primitive_extent h c)) rest s.1 i a
zero-refused p (Holder h children rest) s i a = zero-refused (place_after p (holder_extent h children)) rest s.2 i a
zero-refused p (OpenPrimitive h c) s i a = absurd s
zero-refused p (OpenHolder h children) s i a = absurd s
zero-refused p (OpenBitString h) s i a = absurd s
zero-refused p (OpenHeader octets) s i a = absurd s
zero-refused p OpenEndOctets s i a = absurd s

-- so octets that begin with sound elements and an octet 00 break there
breaks-at_zero : (f : Forest) (more : List ℕ) → IsSound (top_place (closed_framing false)) f
    → IsEnding (closed_framing false) (spelling f ++ 0 ∷ more) (fault_ending StrayEnd (length (spelling f)))
breaks-at_zero f more s =
    let w = closed_framing false in
    let x : IsRefusedAt (open_end (top_place w) f) 0 StrayEnd = zero-refused (top_place w) f s refl refl in
    let reading : IsReading w (spelling f ++ 0 ∷ more) f =
    run-reading w (Halted f StrayEnd) (spelling f ++ 0 ∷ more) (record {
      obeys_grammar = sound-obeys_grammar_top w f s;
      octet = 0;
      rest = more;
      front = refl;
      refused = fault-refused w f 0 StrayEnd (sound-obeys_grammar_top w f s) x;
    }) in
    ending-by w (spelling f ++ 0 ∷ more) f _ reading (refused 0 more StrayEnd refl x)

-- the same of elements at any place
pub inner-breaks : (p : Place) (f : Forest) (more : List ℕ) → p.inside ≡ [] → p.padding ≡ false → IsSound p f
    → IsEnding (closed_framing false) (spelling f ++ 0 ∷ more) (fault_ending StrayEnd (length (spelling f)))
inner-breaks p f more named padding s =
    let w = closed_framing false in
    let a : AreLoose p (top_place w) =
    record { depth = omega arith; named = named; unnamed = refl; padding = padding } in
    let m : Moved (top_place w) f = move p (top_place w) f a s in
    subst (λ (o : List ℕ). IsEnding w (o ++ 0 ∷ more) (fault_ending StrayEnd (length o))) m.spelled
    (breaks-at_zero m.forest more m.sound)
