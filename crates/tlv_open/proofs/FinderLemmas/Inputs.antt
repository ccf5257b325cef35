-- What is found in an input.
use Rattle.std.proofs.Common.{◌≡◌, ℕ, ◌+◌, ◌<◌, ◌≤◌, Bool, true, false, ◌++◌, List, [], ◌∷◌, Fits, w8, length, take}
use Rattle.std.proofs.Common.{inl, eqb, IsTrue, MatchOption, Option, Some, None, is_some}
use Rattle.std.proofs.Common.{refl, sym, ap, ap₂, arith, subst, append-nil, length-append, slice_index_or, ◌∙◌}
use Rattle.std.proofs.lemmas.List.{get_or_default, take_all}
use Rattle.std.proofs.Math.Seq.{take-append_seam}
use Rattle.tlv_head.specs.Header.{HeaderValue}
use Rattle.tlv_walk.specs.declared.framing.Framing.{Framing}
use Rattle.tlv_walk.specs.Forest.{Forest, Holder, NoMore, OpenBitString, OpenEndOctets, OpenHeader, OpenHolder}
use Rattle.tlv_walk.specs.Forest.{OpenPrimitive, PaddingOctet, Primitive, holder_extent, opening, primitive_extent, spelling}
use Rattle.tlv_head.specs.Lists.{is_among}
use Rattle.tlv_walk.specs.Place.{IsHeaderAt, Place, place_after, place_of_children, top_place}
use Rattle.tlv_walk.specs.Reading.{AreOctets, IsReading, IsSound, IsSoundList}
use Rattle.tlv_walk.proofs.GrammarLemmas.SoundElements.{sound-obeys_grammar_top}
use Rattle.tlv_open.specs.declared.extent.Extent.{Extent}
use Rattle.tlv_open.specs.declared.spot.Spot.{Spot}
use Rattle.tlv_open.specs.Breaks.{AreBroken}
use Rattle.tlv_open.specs.Opens.{AreOpened, closed_framing}
use Rattle.tlv_open.specs.Private.Adds.{SaysSound, place_among}
use Rattle.tlv_open.specs.Private.Elements.{BeginsWithElements, BeginsWithNoElements, is_elements_end, place_at}
use Rattle.tlv_open.specs.Private.Finds.{AddsAll, AddsStrings, FoundStrings, spot_before}
use Rattle.tlv_open.proofs.ElementLemmas.Held.{element-there}
use Rattle.tlv_open.proofs.FinderLemmas.NothingFound.{nothing_found}

-- if each number of a slice fits an octet, they are octets
pub octets-fit : (xs : List ℕ) → ((i : ℕ) → Fits w8 (slice_index_or xs i 0)) → AreOctets xs
octets-fit xs fits k d less = below (slice_index_or xs k d) (rw (get_or_default xs k d 0 less) (fits k))
  where
    below : (x : ℕ) → Fits w8 x → x < 256
    below x f = omega (arith, f)

pub read-within : (framing : Framing) (octets : List ℕ) (f : Forest) → IsReading framing octets f
    → length (spelling f) ≤ length octets
read-within framing octets f r =
    omega (arith, ap length r.is_prefix.1, length-append (spelling f) r.is_prefix.0)

abbrev pub top_spot : Bool → Spot
top_spot padding = record {
  start = 0;
  depth = 0;
  may_open = true;
  in_extension = false;
  likely = false;
  padding = padding;
}

-- what is found in the octets that are read
pub are-found : (padding : Bool) (octets : List ℕ) (new : FoundStrings) (f : Forest) (m n : ℕ)
    → IsReading (closed_framing padding) octets f → m ≡ length (spelling f)
    → AddsAll (top_spot padding) 0 false (take m octets) nothing_found new n
    → AreOpened padding octets new.opened × AreBroken padding octets new.broken
are-found padding octets new f m n r count a =
    let front : take m octets ≡ spelling f =
    subst (λ (o : List ℕ). take m o ≡ spelling f) r.is_prefix.1
    (ap (λ (k : ℕ). take k (spelling f ++ r.is_prefix.0)) count ∙ take-append_seam (spelling f) r.is_prefix.0) in
    let s : AddsStrings (spot_before (top_spot padding) false []) f (take m octets) nothing_found new n =
    a (top_place (closed_framing padding)) f [] (record {
      depth_is = refl;
      offset_is = refl;
      none_named = refl;
      indefinite = refl;
      obeys_grammar = r.obeys_grammar;
      spelled = append-nil (spelling f) ∙ sym front;
      end = inl refl;
    }) in (
      record { reading = f; is_reading = r; opens = rw s.added s.finds.opens },
      record { reading = f; is_reading = r; breaks = rw s.added s.finds.breaks },
    )

header-padded : (p q : Place) (h : HeaderValue) → q.offset ≡ p.offset → q.inside ≡ p.inside → IsHeaderAt p h
    → IsHeaderAt q h
header-padded p q h o i k = record {
  valid = k.valid;
  offset = k.offset ∙ sym o;
  named = k.named ∙ ap₂ is_among (sym o) (sym i);
}

-- sound elements without padding are sound where padding is allowed
pub sound-padded : (p q : Place) (f : Forest) → p.padding ≡ false → q.offset ≡ p.offset → q.depth ≡ p.depth
    → q.inside ≡ p.inside → IsSound p f → IsSound q f
sound-padded p q NoMore z o d i s = tt
sound-padded p q (PaddingOctet rest) z o d i s = let w : true ≡ false = sym s.0 ∙ z in absurd (cc (w))
sound-padded p q (Primitive h c rest) z o d i s = (
  (header-padded p q h o i s.0.0, s.0.1, s.0.2),
  sound-padded (place_after p (primitive_extent h c)) (place_after q (primitive_extent h c)) rest z
      (ap (λ (n : ℕ). n + primitive_extent h c) o) d i s.1,
)
sound-padded p q (Holder h inside rest) z o d i s = (
  (header-padded p q h o i s.0.0, s.0.1, omega (arith, s.0.2, d), s.0.3),
  sound-padded (place_of_children p h) (place_of_children q h) inside refl
      (ap (λ (n : ℕ). n + length (opening h)) o) (ap (λ (n : ℕ). n + 1) d) i s.1,
  sound-padded (place_after p (holder_extent h inside)) (place_after q (holder_extent h inside)) rest z
      (ap (λ (n : ℕ). n + holder_extent h inside) o) d i s.2,
)
sound-padded p q (OpenPrimitive h c) z o d i s = absurd s
sound-padded p q (OpenHolder h inside) z o d i s = absurd s
sound-padded p q (OpenBitString h) z o d i s = absurd s
sound-padded p q (OpenHeader octets) z o d i s = absurd s
sound-padded p q OpenEndOctets z o d i s = absurd s

at_end : (o : List ℕ) → is_elements_end false o ≡ true → o ≡ []
at_end [] w = refl
at_end (x ∷ o) w = absurd (cc (w))

-- octets that are sound elements are a sound list, whether padding is allowed or not
sound-from : (padding : Bool) (octets : List ℕ) (n : ℕ) → eqb (length octets) 0 ≡ false
    → BeginsWithElements (place_at 0 0) false false octets n → IsSoundList (closed_framing padding) octets
sound-from padding octets n some b =
    let spelled : spelling b.elements ≡ octets =
    sym (append-nil (spelling b.elements))
    ∙ (ap (λ (o : List ℕ). spelling b.elements ++ o) (sym (at_end b.rest b.end)) ∙ b.spelled) in
    record {
      forest = b.elements;
      sound = sound-padded (place_at 0 0) (top_place (closed_framing padding)) b.elements refl refl refl refl b.sound;
      some =
          element-there (place_at 0 0) b.elements refl b.sound
          (ap (λ (o : List ℕ). eqb (length o) 0) spelled ∙ some);
      spelled = spelled;
    }

pub sound-by : (octets : List ℕ) (r : Option ℕ) (k : Bool) → eqb (length octets) 0 ≡ false → k ≡ is_some r
    → MatchOption r (BeginsWithNoElements (place_at 0 0) false false octets)
    (λ n. BeginsWithElements (place_at 0 0) false false octets n)
    → IsTrue k → (padding : Bool) → IsSoundList (closed_framing padding) octets
sound-by octets None k some e m t padding = absurd (cc (e, t))
sound-by octets (Some n) k some e m t padding = sound-from padding octets n some m

-- of sound elements all is read
pub all-read : (padding : Bool) (octets : List ℕ) (n : ℕ) (f : Forest)
    → BeginsWithElements (place_among (top_spot padding) 0) false false octets n
    → IsReading (closed_framing padding) octets f → length octets ≡ length (spelling f)
all-read padding octets n f b r =
    let spelled : spelling b.elements ++ [] ≡ octets =
    ap (λ (o : List ℕ). spelling b.elements ++ o) (sym (at_end b.rest b.end)) ∙ b.spelled in
    let sound : IsSound (top_place (closed_framing padding)) b.elements = b.sound in
    let most : length (spelling b.elements) ≤ length (spelling f) =
    r.longest b.elements (sound-obeys_grammar_top (closed_framing padding) b.elements sound) ([], spelled) in
    omega (
      arith,
      most,
      read-within (closed_framing padding) octets f r,
      ap length spelled,
      length-append (spelling b.elements) [],
    )

-- and what is found in them is all that there is
pub are-all-found : (padding : Bool) (octets : List ℕ) (new : FoundStrings) (f : Forest) (e : Extent)
    → IsReading (closed_framing padding) octets f → SaysSound (top_spot padding) 0 false octets e → e.sound ≡ true
    → AddsAll (top_spot padding) 0 false octets nothing_found new e.size
    → AreOpened padding octets new.opened × AreBroken padding octets new.broken
are-all-found padding octets new f e r says sound a =
    are-found padding octets new f (length octets) e.size r (all-read padding octets e.size f (says.sound sound) r)
    (subst (λ (o : List ℕ). AddsAll (top_spot padding) 0 false o nothing_found new e.size)
    (sym (take_all (length octets) octets (omega arith))) a)
