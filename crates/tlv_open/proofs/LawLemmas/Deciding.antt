-- Whether a string holds encodings can be decided.
use Rattle.std.proofs.Common.{◌≡◌, ℕ, ◌+◌, ◌<◌, ◌≤◌, Bool, true, false, ◌&&◌, eqb, ltb, List, [], ◌∷◌}
use Rattle.std.proofs.Common.{◌++◌, length, Some, refl, sym, ap, ◌∙◌, arith, subst, append-nil}
use Rattle.std.proofs.Common.{eq-eqb, eqb-true, length-append, lt-ltb, ltb-true}
use Rattle.std.proofs.lemmas.Bool.{and_parts}
use Rattle.tlv_head.specs.Header.{HeaderValue, is_universal}
use Rattle.tlv_show.specs.ListedFindings.{listed_findings}
use Rattle.tlv_show.specs.Site.{top_site}
use Rattle.tlv_show.specs.declared.rules.Rules.TheVariants.{Ber}
use Rattle.tlv_value.specs.declared.finding.Finding.{Finding}
use Rattle.tlv_walk.specs.Forest.{Forest, Holder, NoMore, OpenBitString, OpenEndOctets, OpenHeader, OpenHolder}
use Rattle.tlv_walk.specs.Forest.{OpenPrimitive, PaddingOctet, Primitive, holder_extent, has_element, is_whole}
use Rattle.tlv_walk.specs.Forest.{primitive_extent, spelling}
use Rattle.tlv_walk.specs.Framing.{plain_framing}
use Rattle.tlv_walk.specs.Place.{IsHeaderAt, Place, place_after, place_of_children, top_place}
use Rattle.tlv_walk.specs.Reading.{AreOctets, IsReading, IsSound}
use Rattle.tlv_walk.proofs.GrammarLemmas.Readings.{is-reading, reading, reading-unique}
use Rattle.tlv_walk.proofs.GrammarLemmas.SoundElements.{grammar-sound, sound-obeys_grammar, sound-whole}
use Rattle.tlv_open.specs.Held.{AreLikely, HoldsEncodings, inner_octets, place_by_itself}

-- so many elements that hold others are few enough, with those in which they are
abbrev pub is_shallow : ℕ → Forest → Bool
is_shallow depth NoMore = true
is_shallow depth (PaddingOctet rest) = is_shallow depth rest
is_shallow depth (Primitive h c rest) = is_shallow depth rest
is_shallow depth (Holder h inside rest) = ltb depth 128 && (is_shallow (depth + 1) inside && is_shallow depth rest)
is_shallow depth end = true

and-true : (a b : Bool) → a ≡ true → b ≡ true → (a && b) ≡ true
and-true a b e d = rw (e, d) refl

-- sound elements are shallow
sound-shallow : (p : Place) (f : Forest) → IsSound p f → is_shallow p.depth f ≡ true
sound-shallow p NoMore s = refl
sound-shallow p (PaddingOctet rest) s = sound-shallow (place_after p 1) rest s.1
sound-shallow p (Primitive h c rest) s = sound-shallow (place_after p (primitive_extent h c)) rest s.1
sound-shallow p (Holder h inside rest) s =
    and-true _ _ (lt-ltb p.depth 128 s.0.2)
    (and-true _ _ (sound-shallow (place_of_children p h) inside s.1)
    (sound-shallow (place_after p (holder_extent h inside)) rest s.2))
sound-shallow p (OpenPrimitive h c) s = refl
sound-shallow p (OpenHolder h inside) s = refl
sound-shallow p (OpenBitString h) s = refl
sound-shallow p (OpenHeader octets) s = refl
sound-shallow p OpenEndOctets s = refl

abbrev place_with : Place → ℕ → Place
place_with p depth = record p { depth = depth }

header-with : (p : Place) (depth : ℕ) (h : HeaderValue) → IsHeaderAt p h → IsHeaderAt (place_with p depth) h
header-with p depth h k = record { valid = k.valid; offset = k.offset; named = k.named }

-- sound elements are sound at another depth, if they are shallow there
sound-at : (p : Place) (depth : ℕ) (f : Forest) → IsSound p f → is_shallow depth f ≡ true
    → IsSound (place_with p depth) f
sound-at p depth NoMore s e = tt
sound-at p depth (PaddingOctet rest) s e = (s.0, sound-at (place_after p 1) depth rest s.1 e)
sound-at p depth (Primitive h c rest) s e =
    ((header-with p depth h s.0.0, s.0.1, s.0.2), sound-at (place_after p (primitive_extent h c)) depth rest s.1 e)
sound-at p depth (Holder h inside rest) s e =
    let parts : (ltb depth 128 ≡ true) × ((is_shallow (depth + 1) inside && is_shallow depth rest) ≡ true) =
    and_parts _ _ e in
    let others : (is_shallow (depth + 1) inside ≡ true) × (is_shallow depth rest ≡ true) = and_parts _ _ parts.1 in (
      (header-with p depth h s.0.0, s.0.1, ltb-true depth 128 parts.0, s.0.3),
      sound-at (place_of_children p h) (depth + 1) inside s.1 others.0,
      sound-at (place_after p (holder_extent h inside)) depth rest s.2 others.1,
    )
sound-at p depth (OpenPrimitive h c) s e = absurd s
sound-at p depth (OpenHolder h inside) s e = absurd s
sound-at p depth (OpenBitString h) s e = absurd s
sound-at p depth (OpenHeader octets) s e = absurd s
sound-at p depth OpenEndOctets s e = absurd s

-- what is shallow is so inside fewer
shallow-less : (n m : ℕ) (f : Forest) → m ≤ n → is_shallow n f ≡ true → is_shallow m f ≡ true
shallow-less n m NoMore h e = refl
shallow-less n m (PaddingOctet rest) h e = shallow-less n m rest h e
shallow-less n m (Primitive k c rest) h e = shallow-less n m rest h e
shallow-less n m (Holder k inside rest) h e =
    let parts : (ltb n 128 ≡ true) × ((is_shallow (n + 1) inside && is_shallow n rest) ≡ true) = and_parts _ _ e in
    let others : (is_shallow (n + 1) inside ≡ true) × (is_shallow n rest ≡ true) = and_parts _ _ parts.1 in
    let few : n < 128 = ltb-true n 128 parts.0 in
    and-true _ _ (lt-ltb m 128 (omega arith))
    (and-true _ _ (shallow-less (n + 1) (m + 1) inside (omega arith) others.0) (shallow-less n m rest h others.1))
shallow-less n m (OpenPrimitive k c) h e = refl
shallow-less n m (OpenHolder k inside) h e = refl
shallow-less n m (OpenBitString k) h e = refl
shallow-less n m (OpenHeader octets) h e = refl
shallow-less n m OpenEndOctets h e = refl

-- whether elements are likely to be encodings, as a test
abbrev pub is_nil : List Finding → Bool
is_nil found = eqb (length found) 0

nil-is : (found : List Finding) → is_nil found ≡ true → found ≡ []
nil-is [] e = refl
nil-is (x ∷ found) e = absurd (omega (arith, eqb-true (length (x ∷ found)) 0 e))

is-nil : (found : List Finding) → found ≡ [] → is_nil found ≡ true
is-nil found e = rw e refl

abbrev pub is_clear : HeaderValue → List ℕ → Bool
is_clear h c =
    is_universal h.class
    && (is_nil ((listed_findings Ber).of_header top_site h) && is_nil ((listed_findings Ber).of_primitive top_site h c))

abbrev pub are_likely : Forest → Bool
are_likely (Primitive h c rest) = is_clear h c && are_likely rest
are_likely (Holder h inside rest) = are_likely rest
are_likely f = true

clear-from : (u : Bool) (a b : List Finding) → (u && (is_nil a && is_nil b)) ≡ true
    → (u ≡ true) × (a ≡ []) × (b ≡ [])
clear-from u a b e =
    let parts : (u ≡ true) × ((is_nil a && is_nil b) ≡ true) = and_parts _ _ e in
    let others : (is_nil a ≡ true) × (is_nil b ≡ true) = and_parts _ _ parts.1 in
    (parts.0, nil-is a others.0, nil-is b others.1)

likely-from : (f : Forest) → are_likely f ≡ true → AreLikely f
likely-from (Primitive h c rest) e =
    let parts : (is_clear h c ≡ true) × (are_likely rest ≡ true) = and_parts _ _ e in
    let clear : (is_universal h.class ≡ true) × ((listed_findings Ber).of_header top_site h ≡ [])
    × ((listed_findings Ber).of_primitive top_site h c ≡ []) =
    clear-from (is_universal h.class) ((listed_findings Ber).of_header top_site h) ((listed_findings Ber).of_primitive top_site h c)
    parts.0 in (
      record { in_universal_class = clear.0; no_header_findings = clear.1; no_contents_findings = clear.2 },
      likely-from rest parts.1,
    )
likely-from (Holder h inside rest) e = likely-from rest e
likely-from NoMore e = tt
likely-from (PaddingOctet rest) e = tt
likely-from (OpenPrimitive h c) e = tt
likely-from (OpenHolder h inside) e = tt
likely-from (OpenBitString h) e = tt
likely-from (OpenHeader octets) e = tt
likely-from OpenEndOctets e = tt

likely-is : (f : Forest) → AreLikely f → are_likely f ≡ true
likely-is (Primitive h c rest) s =
    and-true _ _
    (and-true _ _ s.0.in_universal_class
    (and-true _ _ (is-nil ((listed_findings Ber).of_header top_site h) s.0.no_header_findings)
    (is-nil ((listed_findings Ber).of_primitive top_site h c) s.0.no_contents_findings)))
    (likely-is rest s.1)
likely-is (Holder h inside rest) s = likely-is rest s
likely-is NoMore s = refl
likely-is (PaddingOctet rest) s = refl
likely-is (OpenPrimitive h c) s = refl
likely-is (OpenHolder h inside) s = refl
likely-is (OpenBitString h) s = refl
likely-is (OpenHeader octets) s = refl
likely-is OpenEndOctets s = refl

-- ---- What octets hold

-- what octets are read as, if they are what a string holds
abbrev pub candidate_of : List ℕ → Forest
candidate_of octets = reading plain_framing octets

-- whether a string so deep holds them
abbrev pub holds_test : ℕ → List ℕ → Bool
holds_test depth octets =
    ltb depth 128
    && (eqb (length (spelling (candidate_of octets))) (length octets)
    && (is_whole (candidate_of octets) && (has_element (candidate_of octets)
    && (is_shallow (depth + 1) (candidate_of octets) && are_likely (candidate_of octets)))))

module _ (depth : ℕ) (h : HeaderValue) (contents octets : List ℕ) (inner : inner_octets h contents ≡ Some octets)
    (each : AreOctets octets) where
  abbrev candidate : Forest
  candidate = candidate_of octets

  is-candidate : IsReading plain_framing octets candidate
  is-candidate = is-reading plain_framing octets each

  -- what is held is the reading of the octets
  held-is : (f : Forest) → HoldsEncodings depth h contents f → f ≡ candidate
  held-is f s =
      let e : Some (spelling f) ≡ Some octets = sym s.octets ∙ inner in
      let spelled : spelling f ≡ octets = cc (e) in
      let sound : IsSound (top_place plain_framing) f =
      sound-at (place_by_itself (depth + 1)) 0 f s.sound
      (shallow-less (depth + 1) 0 f (omega arith) (sound-shallow (place_by_itself (depth + 1)) f s.sound)) in
      reading-unique plain_framing octets f candidate
      (record {
        obeys_grammar = sound-obeys_grammar (top_place plain_framing) f (λ t. refl) tt sound;
        is_prefix = ([], append-nil (spelling f) ∙ spelled);
        longest = λ g o q. omega (arith, ap length q.1, length-append (spelling g) q.0, ap length spelled);
      })
      is-candidate

  prefix-all : (a b o : List ℕ) → a ++ b ≡ o → length a ≡ length o → a ≡ o
  prefix-all a [] o e l = sym (append-nil a) ∙ e
  prefix-all a (x ∷ b) o e l = absurd (omega (arith, ap length e, length-append a (x ∷ b)))

  pub passes : holds_test depth octets ≡ true → HoldsEncodings depth h contents candidate
  passes e =
      let a : (ltb depth 128 ≡ true) × _ = and_parts _ _ e in
      let b : (eqb (length (spelling candidate)) (length octets) ≡ true) × _ = and_parts _ _ a.1 in
      let c : (is_whole candidate ≡ true) × _ = and_parts _ _ b.1 in
      let d : (has_element candidate ≡ true) × _ = and_parts _ _ c.1 in
      let f : (is_shallow (depth + 1) candidate ≡ true) × (are_likely candidate ≡ true) = and_parts _ _ d.1 in
      let all : spelling candidate ≡ octets =
      prefix-all (spelling candidate) is-candidate.is_prefix.0 octets is-candidate.is_prefix.1 (eqb-true _ _ b.0) in
      record {
        octets = inner ∙ ap Some (sym all);
        shallow = ltb-true depth 128 a.0;
        sound =
            sound-at (top_place plain_framing) (depth + 1) candidate
            (grammar-sound (top_place plain_framing) candidate is-candidate.obeys_grammar c.0) f.0;
        some = d.0;
        likely = likely-from candidate f.1;
      }

  tested : (f : Forest) → HoldsEncodings depth h contents f → holds_test depth octets ≡ true
  tested f s =
      let holds : HoldsEncodings depth h contents candidate =
      subst (λ (g : Forest). HoldsEncodings depth h contents g) (held-is f s) s in
      let e : Some (spelling candidate) ≡ Some octets = sym holds.octets ∙ inner in
      let spelled : spelling candidate ≡ octets = cc (e) in
      and-true _ _ (lt-ltb depth 128 holds.shallow)
      (and-true _ _ (eq-eqb _ _ (ap length spelled))
      (and-true _ _ (sound-whole (place_by_itself (depth + 1)) candidate holds.sound)
      (and-true _ _ holds.some
      (and-true _ _ (sound-shallow (place_by_itself (depth + 1)) candidate holds.sound)
      (likely-is candidate holds.likely)))))

  pub fails : holds_test depth octets ≡ false → (f : Forest) → HoldsEncodings depth h contents f → ⊥
  fails e f s = let t : true ≡ false = sym (tested f s) ∙ e in absurd (cc (t))
