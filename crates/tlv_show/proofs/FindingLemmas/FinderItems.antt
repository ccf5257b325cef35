-- A finder reports the findings of the items, event by event.
use Rattle.std.proofs.Common.{◌≡◌, ℕ, ◌+◌, ◌<◌, Bool, true, false, if◌then◌else◌, List, [], ◌∷◌}
use Rattle.std.proofs.Common.{◌++◌, length, refl, sym, subst, not, ap, ap₂, ◌∙◌, arith}
use Rattle.std.proofs.lemmas.List.Elements.{filter-append}
use Rattle.std.specs.List.{filter}
use Rattle.std.specs.Prelude.{None}
use Rattle.tlv_head.specs.Header.{HasAllContents, HeaderValue, announced_length, octets_of, wraps}
use Rattle.tlv_value.specs.declared.finding.Finding.{Finding}
use Rattle.tlv_value.specs.ValueCheckState.{has_unused_bits, value_check_for}
use Rattle.tlv_value.specs.Types.{has_primitive_form}
use Rattle.tlv_walk.specs.Events.{EventValue, closing_event}
use Rattle.tlv_walk.specs.Events.{events}
use Rattle.tlv_walk.specs.Forest.{end_octets_offset}
use Rattle.tlv_walk.specs.Forest.{Forest, NoMore, PaddingOctet, Primitive, Holder, OpenPrimitive, OpenHolder}
use Rattle.tlv_walk.specs.Forest.{OpenBitString, OpenHeader, OpenEndOctets, holder_extent, is_whole}
use Rattle.tlv_walk.specs.Place.{ObeysGrammar, Place, place_after, place_of_children}
use Rattle.tlv_show.specs.declared.holder_frame.HolderFrame.{HolderFrame}
use Rattle.tlv_show.specs.declared.wanted.Wanted.{Wanted}
use Rattle.tlv_show.specs.FinderState.{CheckState}
use Rattle.tlv_show.specs.NestingState.{frame_after, frame_under, surroundings_in, with_element}
use Rattle.tlv_show.specs.KeptConditions.{header_findings_in}
use Rattle.tlv_show.specs.ShownFindings.{contents_findings, end_findings, header_findings, held_findings, last_findings}
use Rattle.tlv_show.specs.ShownFindings.{wanted_findings, with_characters_if, with_order_if}
use Rattle.tlv_show.specs.Items.{ClosingLine, FindingAt, Item, OpenPrimitiveLines, OpeningLine, PaddingLine}
use Rattle.tlv_show.specs.Items.{PrimitiveLines, finding_items, items}
use Rattle.tlv_show.proofs.FindingLemmas.SiteWords.{contents_items, end_items, header_items, site_after_holder}
use Rattle.tlv_show.proofs.FindingLemmas.SiteWords.{site_after_padding, site_after_primitive}
use Rattle.tlv_show.specs.Conditions.{headers}
use Rattle.tlv_show.specs.Site.{Site, is_padding, site_of_children}
use Rattle.std.proofs.Common.{◌≢◌}
use Rattle.tlv_show.specs.SetOrder.{Element, holder_element, primitive_element}
use Rattle.tlv_show.specs.FinderState.{SeenState}
use Rattle.tlv_show.proofs.SegmentLemmas.Seen.{HasPassed, HasSeen, HasSeenAll, after-holder, after-primitive}
use Rattle.tlv_show.proofs.SegmentLemmas.Seen.{has_wrong_string, holder-seen, is_wrong_held, nothing-seen, opened-seen}
use Rattle.tlv_show.proofs.SegmentLemmas.Seen.{passed-found, passed-offset, passed-seen, primitive-seen, seen-padding}
use Rattle.tlv_show.proofs.SegmentLemmas.Seen.{seen_held, seen_whole, some-string, string-seen}
use Rattle.tlv_show.specs.SegmentCharacters.{has_wrong_octet}
use Rattle.std.specs.Option.{is_some}
use Rattle.tlv_show.proofs.FindingLemmas.FinderSteps.{Kept}
use Rattle.tlv_show.specs.Texts.{is_finding}
use Rattle.tlv_show.proofs.FindingLemmas.FinderFolds.{not-constructed, frame_after_elements}
use Rattle.tlv_show.proofs.FindingLemmas.FramesAround.{full-of, knows-after, knows-inside, knows-padding}
use Rattle.tlv_show.proofs.FindingLemmas.FramesAround.{unused-of}
use Rattle.tlv_show.proofs.FindingLemmas.HeaderFindings.{Knows, header-same}
use Rattle.tlv_show.proofs.FindingLemmas.FinderSteps.{FinderRun, after_contents, after_end, after_primitive}
use Rattle.tlv_show.proofs.FindingLemmas.FinderSteps.{check_between}
use Rattle.tlv_show.proofs.FindingLemmas.FinderSteps.{run-closing, later_header, run-opening, run-primitive, run_finder}
use Rattle.tlv_show.proofs.FindingLemmas.FinderSteps.{run-more}
use Rattle.tlv_show.proofs.FindingLemmas.FinderSteps.{then_found}

abbrev pub only : List Item → List Item
only l = filter is_finding l

pub only-finding_items : (level offset : ℕ) (fs : List Finding) (rest : List Item)
    → only (finding_items level offset fs ++ rest) ≡ finding_items level offset fs ++ only rest
only-finding_items level offset [] rest = refl
only-finding_items level offset (f ∷ fs) rest =
    ap (λ (l : List Item). FindingAt level offset f ∷ l) (only-finding_items level offset fs rest)

only-pads : (k : Bool) (level offset : ℕ) (l : List Item)
    → only ((if k then [] else PaddingLine level offset ∷ []) ++ l) ≡ only l
only-pads true level offset l = refl
only-pads false level offset l = refl

module _ (wanted : Wanted) where
  -- what was reported of elements: the findings of their items; and if they are whole, the frame after them
  pub record IsFoundAs (s : Site) (w : HolderFrame) (outer : List HolderFrame) (f : Forest) : Type 0 where
    pub put : (n : Kept) → HasSeen wanted s n.seen
        → (run_finder (check_between wanted w outer n) (events f)).put ≡ only (items (wanted_findings wanted) s f)
    pub after : (n : Kept) → HasSeen wanted s n.seen → s.holder ≢ None → is_whole f ≡ true
        → (m : Kept)
        × ((run_finder (check_between wanted w outer n) (events f)).state
        ≡ check_between wanted (frame_after_elements w f) outer m)
        × HasSeenAll wanted n.seen f m.seen

  -- findings with a header, and then other items
  header-items : (s : Site) (w : HolderFrame) (outer : List HolderFrame) (h : HeaderValue) (found rest : List Item)
      → Knows w s → length outer ≡ s.depth → found ≡ only rest
      → finding_items (length outer) h.offset (header_findings_in wanted (surroundings_in w) h) ++ found
      ≡ only (header_items (wanted_findings wanted) s h ++ rest)
  header-items s w outer h found rest k l e =
      ap₂ (λ (n : ℕ) (fs : List Finding). finding_items n h.offset fs ++ found) l (header-same wanted w s h k)
      ∙ ap (λ (t : List Item). header_items (wanted_findings wanted) s h ++ t) e
      ∙ sym (only-finding_items s.depth h.offset (header_findings wanted s h) rest)

  -- other findings, and then other items
  more-items : (s : Site) (outer : List HolderFrame) (offset : ℕ) (fs : List Finding) (found rest : List Item)
      → length outer ≡ s.depth → found ≡ only rest
      → finding_items (length outer) offset fs ++ found ≡ only (finding_items s.depth offset fs ++ rest)
  more-items s outer offset fs found rest l e =
      ap₂ (λ (n : ℕ) (t : List Item). finding_items n offset fs ++ t) l e
      ∙ sym (only-finding_items s.depth offset fs rest)

  pub finds_forest : (p : Place) (s : Site) (w : HolderFrame) (outer : List HolderFrame) (f : Forest) → ObeysGrammar p f
      → Knows w s → length outer ≡ s.depth → s.depth ≡ p.depth → (p.padding ≡ true → s.holder ≡ None)
      → IsFoundAs s w outer f
  finds_forest p s w outer NoMore v k l d free =
      record { put = λ n o. refl; after = λ n o held e. (n, refl, nothing-seen wanted n.seen) }
  finds_forest p s w outer (PaddingOctet rest) v k l d free =
      let r =
      finds_forest (place_after p 1) (site_after_padding s) w outer rest v.1 (knows-padding w s k (free v.0.0)) l
      d free in
      record {
        put =
            λ n o. r.put n (seen-padding wanted s n.seen o (free v.0.0))
            ∙ sym (only-pads (is_padding s.previous) s.depth s.offset (items (wanted_findings wanted) (site_after_padding s) rest));
        after = λ n o held e. absurd (held (free v.0.0));
      }
  finds_forest p s w outer (Primitive h c rest) v k l d free =
      let size : HasAllContents h c = ap announced_length v.0.1 in
      let form : h.constructed ≡ false = not-constructed h.constructed (wraps h) v.0.0.holding in
      let u : Bool = has_unused_bits (value_check_for h c) in
      let known : Knows (after_primitive wanted w h c) (site_after_primitive s h c) =
      subst (λ (b : Bool). Knows (frame_after (with_element w) b (announced_length h.size) u) (site_after_primitive s h c))
      (ap not form)
      (knows-after (with_element w) s (site_after_primitive s h c) h u k refl (unused-of h c) (full-of h c form)) in
      let r =
      finds_forest (place_after p (length (octets_of h) + length c)) (site_after_primitive s h c)
      (after_primitive wanted w h c)
      outer rest v.1 known l d free in
      let e : Element = primitive_element h c in
      let wrong : ℕ → Bool = λ k. has_wrong_octet k c in
      let next : (n : Kept) → HasSeen wanted s n.seen
      → HasSeen wanted (site_after_primitive s h c) (seen_whole wanted n.seen h c) =
      λ n o. passed-seen wanted s (site_after_primitive s h c) n.seen e wrong (seen_whole wanted n.seen h c) o
      (primitive-seen wanted s n.seen h c o form) refl refl refl in
      record {
        put = λ n o.
            ap (λ (t : FinderRun). t.put) (run-primitive wanted w outer n h c (events rest) size)
            ∙ header-items s w outer h
            _ (PrimitiveLines s.depth h c
            ∷ (contents_items (wanted_findings wanted) s h c ++ items (wanted_findings wanted) (site_after_primitive s h c) rest))
            k l
            (ap (λ (b : Bool). finding_items (length outer) h.offset (with_order_if b (contents_findings wanted h c))
            ++ (run_finder (check_between wanted (after_primitive wanted w h c) outer (after_contents wanted w h c n))
            (events rest)).put)
            (passed-found wanted s n.seen e wrong (seen_whole wanted n.seen h c) o (primitive-seen wanted s n.seen h c o form))
            ∙ more-items s outer h.offset (last_findings wanted s e (contents_findings wanted h c))
            _ (items (wanted_findings wanted) (site_after_primitive s h c) rest) l
            (r.put (after_contents wanted w h c n) (next n o)));
        after = λ n o held x.
            let t = r.after (after_contents wanted w h c n) (next n o) held x in (
              t.0,
              ap (λ (x : FinderRun). x.state) (run-primitive wanted w outer n h c (events rest) size) ∙ t.1,
              after-primitive wanted s n.seen h c rest (seen_whole wanted n.seen h c) t.0.seen o
                  (primitive-seen wanted s n.seen h c o form) t.2,
            );
      }
  finds_forest p s w outer (Holder h inside rest) v k l d free =
      let i =
      finds_forest (place_of_children p h) (site_of_children s h) (frame_under w h) (with_element w ∷ outer) inside v.1
      (knows-inside w s h) (omega (arith, l)) (omega (arith, d)) (λ e. absurd (cc (e))) in
      let r =
      finds_forest (place_after p (holder_extent h inside)) (site_after_holder s h inside)
      (frame_after (with_element w) (has_primitive_form h) (announced_length h.size) false) outer rest v.2
      (knows-after (with_element w) s (site_after_holder s h inside) h false k refl refl refl)
      l d free in
      let few : length outer < 128 = omega (arith, l, d, v.0.0.shallow) in
      let es : List EventValue = closing_event h inside ∷ events rest in
      let e : Element = holder_element h inside in
      let wrong : ℕ → Bool = is_wrong_held wanted h inside in
      let low : s.depth < 128 = omega (arith, d, v.0.0.shallow) in
      let all : (n : Kept) → HasSeen wanted s n.seen → (m : Kept) × HasPassed wanted n.seen e wrong m.seen
      × (run_finder (check_between wanted w outer n) (events (Holder h inside rest))
      ≡ then_found (finding_items (length outer) h.offset (header_findings_in wanted (surroundings_in w) h))
      (then_found (only (items (wanted_findings wanted) (site_of_children s h) inside))
      (then_found (finding_items (length outer) h.offset (last_findings wanted s e (held_findings wanted h inside)))
      (run_finder (check_between wanted (frame_after (with_element w) (has_primitive_form h) (announced_length h.size) false) outer m)
      (events rest))))) =
      λ n o.
      let a : Kept = later_header wanted w h n in
      let opened = opened-seen wanted s n.seen h o low in
      let t = i.after a opened (λ x. absurd (cc (x))) v.0.1 in
      let taken = holder-seen wanted s n.seen h inside t.0.seen o low v.0.0.header.valid.allowed t.2 in
      let closed : SeenState = seen_held wanted t.0.seen h inside in
      let string = string-seen wanted s n.seen h inside t.0.seen o low t.2 in
      let put : List Item = finding_items (length outer) h.offset (header_findings_in wanted (surroundings_in w) h) in (
        after_end wanted h inside t.0,
        taken,
        run-opening wanted w outer n h (events inside ++ es) few
            ∙ ap (then_found put)
            (run-more (check_between wanted (frame_under w h) (with_element w ∷ outer) a) (events inside) es
            ∙ ap₂ (λ (l : List Item) (x : CheckState). then_found l (run_finder x es)) (i.put a opened) t.1
            ∙ ap (then_found (only (items (wanted_findings wanted) (site_of_children s h) inside)))
            (run-closing wanted (place_of_children p h) w outer t.0 h inside (events rest) v.1 v.0.1
            (passed-offset wanted s n.seen e wrong closed o taken, has_wrong_string wanted h inside, string)
            ∙ ap₂ (λ (b k : Bool). then_found
            (finding_items (length outer) h.offset
            (with_order_if b (with_characters_if k (end_findings wanted h (headers inside)))))
            (run_finder
            (check_between wanted (frame_after (with_element w) (has_primitive_form h) (announced_length h.size) false) outer
            (after_end wanted h inside t.0))
            (events rest)))
            (passed-found wanted s n.seen e wrong closed o taken)
            (ap is_some string ∙ some-string wanted (has_wrong_string wanted h inside) h.offset))),
      ) in
      let last : List Item =
      ClosingLine s.depth (end_octets_offset h inside)
      ∷ (end_items (wanted_findings wanted) s h inside ++ items (wanted_findings wanted) (site_after_holder s h inside) rest) in
      let next : (n : Kept) (o : HasSeen wanted s n.seen)
      → HasSeen wanted (site_after_holder s h inside) (all n o).0.seen =
      λ n o. passed-seen wanted s (site_after_holder s h inside) n.seen e wrong (all n o).0.seen o (all n o).1 refl refl
      refl in
      record {
        put = λ n o.
            let a = all n o in
            ap (λ (t : FinderRun). t.put) a.2
            ∙ header-items s w outer h _ (OpeningLine s.depth h ∷ (items (wanted_findings wanted) (site_of_children s h) inside ++ last))
            k l
            (ap (λ (t : List Item). only (items (wanted_findings wanted) (site_of_children s h) inside) ++ t)
            (more-items s outer h.offset (last_findings wanted s e (held_findings wanted h inside))
            _ (items (wanted_findings wanted) (site_after_holder s h inside) rest) l (r.put a.0 (next n o)))
            ∙ sym (filter-append is_finding (items (wanted_findings wanted) (site_of_children s h) inside) last));
        after = λ n o held x.
            let a = all n o in
            let t = r.after a.0 (next n o) held x in (
              t.0,
              ap (λ (x : FinderRun). x.state) a.2 ∙ t.1,
              after-holder wanted s n.seen h inside rest a.0.seen t.0.seen o a.1 t.2,
            );
      }
  finds_forest p s w outer (OpenPrimitive h c) v k l d free = record {
    put = λ n o. header-items s w outer h [] (OpenPrimitiveLines s.depth h c ∷ []) k l refl;
    after = λ n o held e. absurd (cc (e));
  }
  finds_forest p s w outer (OpenHolder h inside) v k l d free =
      let i =
      finds_forest (place_of_children p h) (site_of_children s h) (frame_under w h) (with_element w ∷ outer) inside v.1
      (knows-inside w s h) (omega (arith, l)) (omega (arith, d)) (λ e. absurd (cc (e))) in
      let few : length outer < 128 = omega (arith, l, d, v.0.0.shallow) in
      record {
        put = λ n o.
            ap (λ (t : FinderRun). t.put) (run-opening wanted w outer n h (events inside) few)
            ∙ header-items s w outer h _ (OpeningLine s.depth h ∷ items (wanted_findings wanted) (site_of_children s h) inside) k l
            (i.put (later_header wanted w h n)
            (opened-seen wanted s n.seen h o (omega (arith, d, v.0.0.shallow))));
        after = λ n o held e. absurd (cc (e));
      }
  finds_forest p s w outer (OpenBitString h) v k l d free = record {
    put = λ n o. header-items s w outer h [] (OpeningLine s.depth h ∷ []) k l refl;
    after = λ n o held e. absurd (cc (e));
  }
  finds_forest p s w outer (OpenHeader octets) v k l d free = record { put = λ n o. refl; after = λ n o held e. absurd (cc (e)) }
  finds_forest p s w outer OpenEndOctets v k l d free = record { put = λ n o. refl; after = λ n o held e. absurd (cc (e)) }
