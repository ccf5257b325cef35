-- Over the events of a forest, exactly the strings are found whose segments have wrong characters.
use Rattle.std.proofs.Common.{◌≡◌, ℕ, ◌<◌, ◌≤◌, ◌&&◌, Bool, true, List, [], ◌∷◌, ◌++◌, length, refl}
use Rattle.std.proofs.Common.{sym, ap, ap₂, ◌∙◌, arith, append_assoc}
use Rattle.std.proofs.lemmas.Bool.{true≢false}
use Rattle.tlv_head.specs.Header.{octets_of, wraps}
use Rattle.tlv_value.specs.Types.{has_primitive_form}
use Rattle.tlv_walk.specs.Events.{EventValue, closing_event, events}
use Rattle.tlv_walk.specs.Forest.{Forest, Holder, NoMore, OpenBitString, OpenEndOctets, OpenHeader, OpenHolder}
use Rattle.tlv_walk.specs.Forest.{OpenPrimitive, PaddingOctet, Primitive, end_octets, holder_extent, is_whole, lead}
use Rattle.tlv_walk.specs.Forest.{primitive_extent, spelling}
use Rattle.tlv_walk.specs.Place.{ObeysGrammar, Place, place_after, place_of_children, top_place}
use Rattle.tlv_walk.proofs.GrammarLemmas.ShortHeaders.{not-holding}
use Rattle.tlv_walk.proofs.GrammarLemmas.Spellings.{append_assoc-3}
use Rattle.tlv_show.specs.declared.segment_frame.SegmentFrame.{SegmentFrame}
use Rattle.tlv_show.specs.SegmentCharacters.{has_wrong_octet, has_wrong_segment, held_contents}
use Rattle.tlv_show.specs.SegmentCharacters.{wrong_character_offsets}
use Rattle.tlv_show.specs.SegmentCharactersState.{WrongCharactersAreFound, closing_offsets, segment_offsets}
use Rattle.tlv_show.specs.SegmentCharactersState.{segments_closed, segments_found, segments_opened, segments_step}
use Rattle.tlv_show.proofs.SegmentLemmas.Events.{SegmentsRun, closing-found, held_passed, holder-passed, opened-between}
use Rattle.tlv_show.proofs.SegmentLemmas.Events.{opened-few, opened-length, primitive-passed, primitive_taken}
use Rattle.tlv_show.proofs.SegmentLemmas.Events.{run-closing, run-opening, run-primitive, run_more, run_segments}
use Rattle.tlv_show.proofs.SegmentLemmas.Events.{then_offsets}
use Rattle.tlv_show.proofs.SegmentLemmas.Frames.{AreBetweenSegments, AreFewOpen, passed, passed-between, passed-few}
use Rattle.tlv_show.proofs.SegmentLemmas.Frames.{passed-length, passed-more, passed-none}

-- what is found and kept of a forest
record IsRunAs (frames : List SegmentFrame) (f : Forest) : Type 0 where
  found : (run_segments frames (events f)).found ≡ wrong_character_offsets f
  after : is_whole f ≡ true → (run_segments frames (events f)).frames ≡ held_passed f frames

pub few-more : (n m : ℕ) (frames : List SegmentFrame) → n ≤ m → AreFewOpen n frames → AreFewOpen m frames
few-more n m [] more few = tt
few-more n m (w ∷ outer) more few = omega (arith, few, more)

segments-forest : (p : Place) (frames : List SegmentFrame) (f : Forest) → ObeysGrammar p f
    → AreBetweenSegments frames → AreFewOpen p.depth frames → length frames ≤ p.depth
    → (p.padding ≡ true → frames ≡ [])
    → IsRunAs frames f
segments-forest p frames NoMore v between few short free = record {
  found = refl;
  after = λ whole. passed-none frames;
}
segments-forest p frames (PaddingOctet rest) v between few short free =
    let r = segments-forest (place_after p 1) frames rest v.1 between few short free in
    let wrong : ℕ → Bool = λ n. has_wrong_segment n rest in
    record {
      found = r.found;
      after = λ whole.
          r.after whole
          ∙ ap (passed (spelling rest) wrong) (free v.0.0)
          ∙ sym (ap (passed (0 ∷ spelling rest) wrong) (free v.0.0));
    }
segments-forest p frames (Primitive h c rest) v between few short free =
    let wrong : ℕ → Bool = λ n. has_wrong_octet n c in
    let octets : List ℕ = octets_of h ++ c in
    let t : List SegmentFrame = passed octets wrong frames in
    let taken : primitive_taken frames h c ≡ t =
    primitive-passed frames h c (not-holding h.constructed (wraps h) v.0.0.holding) between in
    let same = passed-length octets wrong frames in
    let r =
    segments-forest (place_after p (primitive_extent h c)) t rest v.1 (passed-between octets wrong frames between)
    (passed-few octets wrong p.depth frames few) (omega (arith, same, short))
    (λ padding. ap (passed octets wrong) (free padding)) in
    let run : run_segments frames (events (Primitive h c rest)) ≡ run_segments t (events rest) =
    run-primitive frames h c (events rest) ∙ ap (λ (l : List SegmentFrame). run_segments l (events rest)) taken in
    record {
      found = ap (λ (u : SegmentsRun). u.found) run ∙ r.found;
      after = λ whole.
          ap (λ (u : SegmentsRun). u.frames) run
          ∙ r.after whole
          ∙ passed-more octets (spelling rest) wrong (λ n. has_wrong_segment n rest) frames
          ∙ ap (λ (l : List ℕ). passed l (λ n. has_wrong_segment n (Primitive h c rest)) frames)
          (append_assoc (octets_of h) c (spelling rest));
    }
segments-forest p frames (Holder h inside rest) v between few short free =
    let wrong : ℕ → Bool = λ n. has_primitive_form h && has_wrong_octet n (held_contents h inside) in
    let octets : List ℕ = octets_of h ++ (lead h ++ (spelling inside ++ end_octets h.size)) in
    let t : List SegmentFrame = passed octets wrong frames in
    let room : length frames < 128 = omega (arith, short, v.0.0.shallow) in
    let opened : List SegmentFrame = segments_opened frames h in
    let longer = opened-length frames h room in
    let same = passed-length octets wrong frames in
    let i =
    segments-forest (place_of_children p h) opened inside v.1 (opened-between frames h room)
    (opened-few frames h p.depth room few) (omega (arith, short, longer))
    (λ x. absurd (true≢false (sym x))) in
    let r =
    segments-forest (place_after p (holder_extent h inside)) t rest v.2 (passed-between octets wrong frames between)
    (passed-few octets wrong p.depth frames few) (omega (arith, same, short))
    (λ padding. ap (passed octets wrong) (free padding)) in
    let u : List SegmentFrame = (run_segments opened (events inside)).frames in
    let u_is : u ≡ held_passed inside opened = i.after v.0.1 in
    let allowed = v.0.0.header.valid.allowed in
    let closed : segments_closed u (end_octets h.size) ≡ t =
    ap (λ (l : List SegmentFrame). segments_closed l (end_octets h.size)) u_is
    ∙ holder-passed frames h inside room between
    (few-more p.depth 254 frames (omega (arith, v.0.0.shallow)) few) allowed in
    let es : List EventValue = closing_event h inside ∷ events rest in
    let put : List ℕ = (run_segments opened (events inside)).found in
    let run : run_segments frames (events (Holder h inside rest))
    ≡ then_offsets put (then_offsets (closing_offsets u) (run_segments t (events rest))) =
    run-opening frames h (events inside ++ es)
    ∙ run_more opened (events inside) es
    ∙ ap (then_offsets put) (run-closing u h inside (events rest) allowed)
    ∙ ap (λ (l : List SegmentFrame). then_offsets put
    (then_offsets (closing_offsets u) (run_segments l (events rest))))
    closed in
    record {
      found =
          ap (λ (x : SegmentsRun). x.found) run
          ∙ ap₂ (λ (a b : List ℕ). a ++ b) i.found
          (ap₂ (λ (a b : List ℕ). a ++ b)
          (ap closing_offsets u_is ∙ closing-found frames h inside room) r.found);
      after = λ whole.
          ap (λ (x : SegmentsRun). x.frames) run
          ∙ r.after whole
          ∙ passed-more octets (spelling rest) wrong (λ n. has_wrong_segment n rest) frames
          ∙ ap (λ (l : List ℕ). passed l (λ n. has_wrong_segment n (Holder h inside rest)) frames)
          (ap (λ (l : List ℕ). l ++ spelling rest)
          (sym (append_assoc (octets_of h) (lead h) (spelling inside ++ end_octets h.size)))
          ∙ append_assoc-3 (octets_of h ++ lead h) (spelling inside) (end_octets h.size) (spelling rest));
    }
segments-forest p frames (OpenPrimitive h c) v between few short free =
    record { found = refl; after = λ whole. absurd (true≢false (sym whole)) }
segments-forest p frames (OpenHolder h inside) v between few short free =
    let room : length frames < 128 = omega (arith, short, v.0.0.shallow) in
    let longer = opened-length frames h room in
    let i =
    segments-forest (place_of_children p h) (segments_opened frames h) inside v.1 (opened-between frames h room)
    (opened-few frames h p.depth room few) (omega (arith, short, longer))
    (λ x. absurd (true≢false (sym x))) in
    record {
      found = ap (λ (u : SegmentsRun). u.found) (run-opening frames h (events inside)) ∙ i.found;
      after = λ whole. absurd (true≢false (sym whole));
    }
segments-forest p frames (OpenBitString h) v between few short free =
    record { found = refl; after = λ whole. absurd (true≢false (sym whole)) }
segments-forest p frames (OpenHeader octets) v between few short free =
    record { found = refl; after = λ whole. absurd (true≢false (sym whole)) }
segments-forest p frames OpenEndOctets v between few short free =
    record { found = refl; after = λ whole. absurd (true≢false (sym whole)) }

same-offsets : (frames : List SegmentFrame) (es : List EventValue)
    → segment_offsets frames es ≡ (run_segments frames es).found
same-offsets frames [] = refl
same-offsets frames (e ∷ es) =
    ap (λ (l : List ℕ). segments_found frames e ++ l) (same-offsets (segments_step frames e) es)

pub wrong_characters_found : WrongCharactersAreFound
wrong_characters_found framing f v =
    same-offsets [] (events f)
    ∙ (segments-forest (top_place framing) [] f v tt tt (omega arith) (λ padding. refl)).found
