-- What a dump makes of the events of elements is their text.
use Rattle.std.proofs.Common.{◌≡◌, ℕ, ◌+◌, ◌-◌, ◌^◌, ◌≤◌, Bool, true, false, if◌then◌else◌, List, [], ◌∷◌}
use Rattle.std.proofs.Common.{◌++◌, length, refl, sym, subst, not, ap, ap₂, ◌∙◌, arith, append_assoc, append-nil}
use Rattle.std.proofs.Common.{length-append, ◌&&◌, eqb}
use Rattle.std.specs.FinMap as finite
use Rattle.std.specs.Prelude.{Option, Some}
use Rattle.tlv_head.specs.Header.{HasAllContents, HeaderValue, announced_length, octets_of, wraps}
use Rattle.tlv_value.specs.declared.layout.Layout.{Layout}
use Rattle.tlv_value.specs.ValueCheckState.{has_unused_bits, value_check_for}
use Rattle.tlv_value.specs.Names.{NamesValue}
use Rattle.tlv_value.specs.TextBeside.{incomplete_lines_with, whole_lines_with}
use Rattle.tlv_value.specs.Types.{has_primitive_form}
use Rattle.tlv_walk.specs.declared.follow.Go.{Go}
use Rattle.tlv_walk.specs.Events.{Begin, Bytes, End, EventValue, Pad, closing_event, events}
use Rattle.tlv_walk.specs.Forest.{end_octets_offset}
use Rattle.tlv_walk.specs.Events.{opening_events}
use Rattle.tlv_walk.specs.Follow.{Effect, effect_of, effect_with}
use Rattle.tlv_walk.specs.Forest.{Forest, NoMore, PaddingOctet, Primitive, Holder, OpenPrimitive, OpenHolder}
use Rattle.tlv_walk.specs.Forest.{OpenBitString, OpenHeader, OpenEndOctets, holder_extent, opening}
use Rattle.tlv_walk.specs.Forest.{spelling}
use Rattle.tlv_walk.specs.Place.{ObeysGrammar, Place, place_after, place_of_children}
use Rattle.tlv_walk.proofs.GrammarLemmas.Spellings.{length-holder, length-primitive}
use Rattle.tlv_show.specs.SetOrder.{Element, holder_element, primitive_element}
use Rattle.tlv_show.specs.FinderState.{SeenState}
use Rattle.tlv_show.specs.ShownFindings.{contents_findings, end_findings, header_findings, held_findings, last_findings}
use Rattle.tlv_show.specs.ShownFindings.{wanted_findings, with_characters_if, with_order_if}
use Rattle.tlv_show.proofs.SegmentLemmas.Seen.{HasPassed, HasSeen, HasSeenAll, after-holder, after-primitive}
use Rattle.tlv_show.proofs.SegmentLemmas.Seen.{has_wrong_string, holder-seen, is_wrong_held, nothing-seen, opened-seen}
use Rattle.tlv_show.proofs.SegmentLemmas.Seen.{passed-found, passed-offset, passed-seen, primitive-seen, seen-padding}
use Rattle.tlv_show.proofs.SegmentLemmas.Seen.{seen_held, seen_whole, some-string, string-seen}
use Rattle.tlv_show.specs.SegmentCharacters.{has_wrong_octet}
use Rattle.std.specs.Option.{is_some}
use Rattle.tlv_show.proofs.FindingLemmas.FinderSteps.{Kept, found_in_contents}
use Rattle.tlv_show.specs.declared.holder_frame.HolderFrame.{HolderFrame}
use Rattle.tlv_show.specs.declared.wanted.Wanted.{Wanted}
use Rattle.tlv_show.specs.declared.finding_lines.Style.TheVariants.{Dump}
use Rattle.tlv_show.specs.FindingLines.{styled_lines}
use Rattle.tlv_show.specs.LinesStep.{LinesState}
use Rattle.tlv_show.specs.DumpStep.{DumpState, dump_step}
use Rattle.tlv_show.specs.NestingState.{frame_after, frame_under, surroundings_in, with_element}
use Rattle.tlv_show.specs.KeptConditions.{header_findings_in}
use Rattle.tlv_show.specs.Items.{ClosingLine, Item, OpenPrimitiveLines, OpeningLine, PaddingLine, PrimitiveLines}
use Rattle.tlv_show.specs.Items.{finding_items, items}
use Rattle.tlv_show.specs.Conditions.{headers}
use Rattle.tlv_show.specs.HolderLines.{closing_line, opening_line, padding_line, opening_word}
use Rattle.tlv_show.specs.Site.{Site, is_padding, site_of_children}
use Rattle.tlv_show.specs.Texts.{layout_at}
use Rattle.tlv_show.proofs.FindingLemmas.SiteWords.{site_after_holder, site_after_padding, site_after_primitive}
use Rattle.tlv_show.proofs.DumpLemmas.DumpSteps.{all_on}
use Rattle.tlv_show.proofs.DumpLemmas.DumpTexts.{fill_shown, no_padding}
use Rattle.tlv_show.proofs.DumpLemmas.DumpTexts.{ends_in_padding, part_shown, lines_between}
use Rattle.tlv_show.proofs.FindingLemmas.FinderFolds.{not-constructed, frame_after_elements}
use Rattle.tlv_show.proofs.FindingLemmas.FramesAround.{full-of, knows-after, knows-inside, knows-padding}
use Rattle.tlv_show.proofs.FindingLemmas.FramesAround.{unused-of}
use Rattle.tlv_show.proofs.FindingLemmas.FinderSteps.{after_contents, after_end, later_header, after_primitive}
use Rattle.tlv_show.proofs.FindingLemmas.FinderSteps.{check_between}
use Rattle.tlv_show.proofs.FindingLemmas.HeaderFindings.{Knows, header-same}
use Rattle.tlv_show.proofs.DumpLemmas.DumpEvents.{dump_state, then_shown, part-by}
use Rattle.tlv_show.proofs.DumpLemmas.DumpItems.{closed-shown, IsShown, Known, found-first, item_texts, opened-shown}
use Rattle.tlv_show.proofs.DumpLemmas.DumpItems.{primitive-shown}
use Rattle.tlv_show.proofs.DumpLemmas.DumpItems.{shown-after, site, item_texts-append, start}

-- elements, in this style, with these names and rules
module _ (with_text : Bool) (style : Layout) (names : NamesValue) (wanted : Wanted) where
  pub shows_forest : (p : Place) (holder : Option HeaderValue) (previous : Forest) (w : HolderFrame)
      (outer : List HolderFrame) (f : Forest)
      → ObeysGrammar p f → p.offset + length (spelling f) ≤ 2 ^ 64 - 1
      → Known with_text style names wanted p holder previous w outer
      → IsShown with_text style names wanted p holder previous w outer f
  shows_forest p holder previous w outer NoMore v b k = record {
    text = λ n o. refl;
    after =
        λ n o held
        e. (
          n,
          ap (λ (offset : ℕ). dump_state (lines_between with_text style names offset (is_padding previous))
              (check_between wanted w outer n))
              (omega arith),
          nothing-seen wanted n.seen,
        );
  }
  shows_forest p holder previous w outer (PaddingOctet rest) v b k =
      let s : Site = site with_text style names wanted p holder previous in
      let t =
      shows_forest (place_after p 1) holder (PaddingOctet NoMore) w outer rest v.1 (omega (arith, b))
      (knows-padding w s k.0 (k.2 v.0.0), k.1, k.2) in
      let one : (n : Kept)
      → effect_of dump_step (start with_text style names wanted p (is_padding previous) w outer n) (Pad (0 ∷ []) ∷ [])
      ≡ effect_with (start with_text style names wanted (place_after p 1) true w outer n)
      (if is_padding previous then [] else padding_line (layout_at style p.depth) p.offset) =
      λ n. ap (λ (d : Effect LinesState). effect_with (dump_state d.state (check_between wanted w outer n)) d.put)
      (fill_shown with_text style names (length outer) p.offset (is_padding previous) (omega (arith, b)))
      ∙ ap
      (λ (level : ℕ). effect_with (start with_text style names wanted (place_after p 1) true w outer n)
      (if is_padding previous then [] else padding_line (layout_at style level) p.offset))
      k.1 in
      let all =
      λ (n : Kept) (o : HasSeen wanted s n.seen). shown-after with_text style names wanted p (place_after p 1) (is_padding previous) w outer n n w holder (PaddingOctet NoMore)
      (Pad (0 ∷ []) ∷ [])
      (if is_padding previous then [] else padding_line (layout_at style p.depth) p.offset) rest refl
      (one n) t (seen-padding wanted s n.seen o (k.2 v.0.0)) in
      record {
        text =
            λ n o. ap (λ (x : Effect DumpState). x.put) (all n o)
            ∙ pads (is_padding previous) p.depth p.offset (items (wanted_findings wanted) (site_after_padding s) rest);
        after = λ n o held e. absurd (held (k.2 v.0.0));
      }
    where
      pads : (k : Bool) (level offset : ℕ) (l : List Item)
          → (if k then [] else padding_line (layout_at style level) offset) ++ item_texts with_text style names wanted l
          ≡ item_texts with_text style names wanted ((if k then [] else PaddingLine level offset ∷ []) ++ l)
      pads true level offset l = refl
      pads false level offset l = refl
  shows_forest p holder previous w outer (Primitive h c rest) v b k =
      let s : Site = site with_text style names wanted p holder previous in
      let q : Place = place_after p (length (octets_of h) + length c) in
      let size : HasAllContents h c = ap announced_length v.0.1 in
      let form : h.constructed ≡ false = not-constructed h.constructed (wraps h) v.0.0.holding in
      let u : Bool = has_unused_bits (value_check_for h c) in
      let known : Knows (after_primitive wanted w h c) (site_after_primitive s h c) =
      subst (λ (x : Bool). Knows (frame_after (with_element w) x (announced_length h.size) u) (site_after_primitive s h c))
      (ap not form)
      (knows-after (with_element w) s (site_after_primitive s h c) h u k.0 refl (unused-of h c) (full-of h c form)) in
      let t =
      shows_forest q holder (Primitive h c NoMore) (after_primitive wanted w h c) outer rest v.1
      (omega (arith, b, length-primitive h c rest)) (known, k.1, k.2) in
      let e : Element = primitive_element h c in
      let wrong : ℕ → Bool = λ k. has_wrong_octet k c in
      let next : (n : Kept) → HasSeen wanted s n.seen
      → HasSeen wanted (site_after_primitive s h c) (seen_whole wanted n.seen h c) =
      λ n o. passed-seen wanted s (site_after_primitive s h c) n.seen e wrong (seen_whole wanted n.seen h c) o
      (primitive-seen wanted s n.seen h c o form) refl refl refl in
      let all =
      λ (n : Kept) (o : HasSeen wanted s n.seen).
      shown-after with_text style names wanted p q (is_padding previous) w outer n (after_contents wanted w h c n)
      (after_primitive wanted w h c) holder (Primitive h c NoMore) (Begin h ∷ Bytes c ∷ End ∷ []) _ rest
      refl
      (primitive-shown with_text style names wanted p (is_padding previous) w outer n h c k.1 v.0.0.header.offset size
      (omega (arith, b, length-primitive h c rest)))
      t (next n o) in
      let others : List Item = items (wanted_findings wanted) (site_after_primitive s h c) rest in
      record {
        text = λ n o.
            ap (λ (x : Effect DumpState). x.put) (all n o)
            ∙ three
            (styled_lines (Dump style.pure) (length outer) h.offset (header_findings_in wanted (surroundings_in w) h))
            (whole_lines_with with_text (finite.get names) h (layout_at style p.depth) c)
            (styled_lines (Dump style.pure) (length outer) h.offset (found_in_contents wanted h c n))
            (item_texts with_text style names wanted others)
            ∙ found-first with_text style names wanted (length outer) p.depth h.offset
            (header_findings_in wanted (surroundings_in w) h)
            (header_findings wanted s h)
            _ (PrimitiveLines p.depth h c ∷ (finding_items p.depth h.offset (last_findings wanted s e (contents_findings wanted h c)) ++ others))
            k.1 (header-same wanted w s h k.0)
            (ap (λ (l : List ℕ). whole_lines_with with_text (finite.get names) h (layout_at style p.depth) c ++ l)
            (found-first with_text style names wanted (length outer) p.depth h.offset (found_in_contents wanted h c n)
            (last_findings wanted s e (contents_findings wanted h c)) (item_texts with_text style names wanted others) others
            k.1
            (ap (λ (b : Bool). with_order_if b (contents_findings wanted h c))
            (passed-found wanted s n.seen e wrong (seen_whole wanted n.seen h c) o (primitive-seen wanted s n.seen h c o form)))
            refl));
        after = λ n o held x.
            let r = t.after (after_contents wanted w h c n) (next n o) held x in (
              r.0,
              ap (λ (x : Effect DumpState). x.state) (all n o) ∙ r.1
                  ∙ ap (λ (offset : ℕ). dump_state
                  (lines_between with_text style names offset (ends_in_padding with_text style names false rest))
                  (check_between wanted (frame_after_elements (after_primitive wanted w h c) rest) outer r.0))
                  (omega (arith, length-primitive h c rest)),
              after-primitive wanted s n.seen h c rest (seen_whole wanted n.seen h c) r.0.seen o
                  (primitive-seen wanted s n.seen h c o form) r.2,
            );
      }
    where
      three : (a b c d : List ℕ) → (a ++ (b ++ c)) ++ d ≡ a ++ (b ++ (c ++ d))
      three a b c d = simp append_assoc
  shows_forest p holder previous w outer (Holder h inside rest) v b k =
      let s : Site = site with_text style names wanted p holder previous in
      let q : Place = place_after p (holder_extent h inside) in
      let i_place : Place = place_of_children p h in
      let size = length-holder h inside rest in
      let i =
      shows_forest i_place (Some h) NoMore (frame_under w h) (with_element w ∷ outer) inside v.1 (omega (arith, b, size))
      (knows-inside w s h, omega (arith, k.1), λ e. absurd (cc (e))) in
      let t =
      shows_forest q holder (Holder h inside NoMore) (frame_after (with_element w) (has_primitive_form h) (announced_length h.size) false)
      outer rest v.2 (omega (arith, b, size))
      (knows-after (with_element w) s (site_after_holder s h inside) h false k.0 refl refl refl, k.1, k.2) in
      let end : ℕ = p.offset + length (opening h) + length (spelling inside) in
      let line : List ℕ = opening_line (layout_at style p.depth) h (opening_word h.constructed) in
      let close : List ℕ =
      closing_line (layout_at style p.depth) (end_octets_offset h inside) in
      let first : List ℕ =
      styled_lines (Dump style.pure) (length outer) h.offset (header_findings_in wanted (surroundings_in w) h) in
      let last : List ℕ =
      styled_lines (Dump style.pure) (length outer) h.offset
      (last_findings wanted s (holder_element h inside) (held_findings wanted h inside)) in
      let e : Element = holder_element h inside in
      let wrong : ℕ → Bool = is_wrong_held wanted h inside in
      let held : List ℕ = item_texts with_text style names wanted (items (wanted_findings wanted) (site_of_children s h) inside) in
      let held-shown : (m : Kept) → HasSeen wanted (site_of_children s h) m.seen
      → (r : Kept)
      × (effect_of dump_step (start with_text style names wanted i_place false (frame_under w h) (with_element w ∷ outer) m) (events inside)
      ≡ effect_with
      (dump_state (lines_between with_text style names end false)
      (check_between wanted (frame_after_elements (frame_under w h) inside) (with_element w ∷ outer) r))
      held)
      × HasSeenAll wanted m.seen inside r.seen =
      λ m o.
      let r = i.after m o (λ x. absurd (cc (x))) v.0.1 in (
        r.0,
        as_shows (start with_text style names wanted i_place false (frame_under w h) (with_element w ∷ outer) m) _ (events inside) held
            (r.1
            ∙ ap (λ (x : Bool). dump_state (lines_between with_text style names end x)
            (check_between wanted (frame_after_elements (frame_under w h) inside) (with_element w ∷ outer) r.0))
            (no_padding with_text style names i_place inside refl v.1))
            (i.text m o),
        r.2,
      ) in
      let element : (n : Kept) → HasSeen wanted s n.seen
      → (m : Kept)
      × HasPassed wanted n.seen e wrong m.seen
      × (effect_of dump_step (start with_text style names wanted p (is_padding previous) w outer n)
      (opening_events h ++ (events inside ++ closing_event h inside ∷ []))
      ≡ effect_with
      (start with_text style names wanted q false (frame_after (with_element w) (has_primitive_form h) (announced_length h.size) false) outer m)
      ((first ++ line) ++ (held ++ (close ++ last)))) =
      λ n o.
      let a : Kept = later_header wanted w h n in
      let r = held-shown a (opened-seen wanted s n.seen h o v.0.0.shallow) in
      let taken = holder-seen wanted s n.seen h inside r.0.seen o v.0.0.shallow v.0.0.header.valid.allowed r.2 in
      let closed : SeenState = seen_held wanted r.0.seen h inside in
      let string = string-seen wanted s n.seen h inside r.0.seen o v.0.0.shallow r.2 in (
        after_end wanted h inside r.0,
        taken,
        then_shown (start with_text style names wanted p (is_padding previous) w outer n)
            (start with_text style names wanted i_place false (frame_under w h) (with_element w ∷ outer) a)
            (first ++ line) (opening_events h) (events inside ++ closing_event h inside ∷ [])
            (opened-shown with_text style names wanted p holder previous w outer n h k v.0.0.header.offset v.0.0.shallow
            (omega (arith, b, size)))
            ∙ ap (λ (x : Effect DumpState). record x { put = (first ++ line) ++ x.put })
            (then_shown (start with_text style names wanted i_place false (frame_under w h) (with_element w ∷ outer) a)
            (dump_state (lines_between with_text style names end false)
            (check_between wanted (frame_after_elements (frame_under w h) inside) (with_element w ∷ outer) r.0))
            held (events inside) (closing_event h inside ∷ []) r.1
            ∙ ap (λ (x : Effect DumpState). record x { put = held ++ x.put })
            (closed-shown with_text style names wanted p w outer r.0 h inside k.1 v.1 v.0.1 v.0.0.header.offset
            v.0.0.header.valid.allowed (omega (arith, b, size)) (passed-offset wanted s n.seen e wrong closed o taken, has_wrong_string wanted h inside, string)
            ∙ ap₂ (λ (x y : Bool). effect_with
            (start with_text style names wanted q false
            (frame_after (with_element w) (has_primitive_form h) (announced_length h.size) false) outer
            (after_end wanted h inside r.0))
            (close
            ++ styled_lines (Dump style.pure) (length outer) h.offset
            (with_order_if x (with_characters_if y (end_findings wanted h (headers inside))))))
            (passed-found wanted s n.seen e wrong closed o taken)
            (ap is_some string ∙ some-string wanted (has_wrong_string wanted h inside) h.offset))),
      ) in
      let es : List EventValue = opening_events h ++ (events inside ++ closing_event h inside ∷ []) in
      let joined : es ++ events rest ≡ opening_events h ++ (events inside ++ closing_event h inside ∷ events rest) =
      append_assoc (opening_events h) (events inside ++ closing_event h inside ∷ []) (events rest)
      ∙ ap (λ (l : List EventValue). opening_events h ++ l)
      (append_assoc (events inside) (closing_event h inside ∷ []) (events rest)) in
      let next : (n : Kept) (o : HasSeen wanted s n.seen)
      → HasSeen wanted (site_after_holder s h inside) (element n o).0.seen =
      λ n o. passed-seen wanted s (site_after_holder s h inside) n.seen e wrong (element n o).0.seen o (element n o).1 refl
      refl refl in
      let all = λ (n : Kept) (o : HasSeen wanted s n.seen).
      ap (effect_of dump_step (start with_text style names wanted p (is_padding previous) w outer n)) (sym joined)
      ∙ shown-after with_text style names wanted p q (is_padding previous) w outer n (element n o).0
      (frame_after (with_element w) (has_primitive_form h) (announced_length h.size) false) holder (Holder h inside NoMore) es
      ((first ++ line) ++ (held ++ (close ++ last))) rest refl (element n o).2 t (next n o) in
      let others : List Item = items (wanted_findings wanted) (site_after_holder s h inside) rest in
      let closing : List Item =
      ClosingLine p.depth (end_octets_offset h inside)
      ∷ (finding_items p.depth h.offset (last_findings wanted s e (held_findings wanted h inside)) ++ others) in
      record {
        text = λ n o.
            ap (λ (x : Effect DumpState). x.put) (all n o)
            ∙ six first line held close last (item_texts with_text style names wanted others)
            ∙ found-first with_text style names wanted (length outer) p.depth h.offset
            (header_findings_in wanted (surroundings_in w) h)
            (header_findings wanted s h)
            _ (OpeningLine p.depth h ∷ (items (wanted_findings wanted) (site_of_children s h) inside ++ closing)) k.1
            (header-same wanted w s h k.0)
            (ap (λ (l : List ℕ). line ++ l)
            (ap (λ (l : List ℕ). held ++ (close ++ l))
            (found-first with_text style names wanted (length outer) p.depth h.offset
            (last_findings wanted s e (held_findings wanted h inside))
            (last_findings wanted s e (held_findings wanted h inside)) (item_texts with_text style names wanted others) others k.1
            refl refl)
            ∙ sym (item_texts-append with_text style names wanted (items (wanted_findings wanted) (site_of_children s h) inside) closing)));
        after = λ n o held x.
            let r = t.after (element n o).0 (next n o) held x in (
              r.0,
              ap (λ (x : Effect DumpState). x.state) (all n o) ∙ r.1
                  ∙ ap (λ (offset : ℕ). dump_state
                  (lines_between with_text style names offset (ends_in_padding with_text style names false rest))
                  (check_between wanted
                  (frame_after_elements (frame_after (with_element w) (has_primitive_form h) (announced_length h.size) false) rest) outer
                  r.0))
                  (omega (arith, size)),
              after-holder wanted s n.seen h inside rest (element n o).0.seen r.0.seen o (element n o).1 r.2,
            );
      }
    where
      six : (a b c d e f : List ℕ) → ((a ++ b) ++ (c ++ (d ++ e))) ++ f ≡ a ++ (b ++ (c ++ (d ++ (e ++ f))))
      six a b c d e f = simp append_assoc

      as_shows : (s t : DumpState) (es : List EventValue) (put : List ℕ) → (effect_of dump_step s es).state ≡ t
          → (effect_of dump_step s es).put ≡ put → effect_of dump_step s es ≡ effect_with t put
      as_shows s t es put e f =
          ap (λ (g : Go).
          record { state = (effect_of dump_step s es).state; put = (effect_of dump_step s es).put; goes = g })
          (all_on s es)
          ∙ ap₂ (λ (u : DumpState) (l : List ℕ). effect_with u l) e f
  shows_forest p holder previous w outer (OpenPrimitive h c) v b k = record {
    text = λ n o.
        part-by (lines_between with_text style names p.offset (is_padding previous)) (check_between wanted w outer n) h c
        ∙ found-first with_text style names wanted (length outer) p.depth h.offset
        (header_findings_in wanted (surroundings_in w) h)
        (header_findings wanted (site with_text style names wanted p holder previous) h)
        _ (OpenPrimitiveLines p.depth h c ∷ []) k.1
        (header-same wanted w (site with_text style names wanted p holder previous) h k.0)
        (part_shown with_text style names (length outer) p.offset (is_padding previous) h c (omega (arith, v.1))
        ∙ ap (λ (level : ℕ). incomplete_lines_with with_text h (layout_at style level) c) k.1
        ∙ sym (append-nil (incomplete_lines_with with_text h (layout_at style p.depth) c)));
    after = λ n o held e. absurd (cc (e));
  }
  shows_forest p holder previous w outer (OpenHolder h inside) v b k =
      let s : Site = site with_text style names wanted p holder previous in
      let size = length-append (opening h) (spelling inside) in
      let i =
      shows_forest (place_of_children p h) (Some h) NoMore (frame_under w h) (with_element w ∷ outer) inside v.1
      (omega (arith, b, size)) (knows-inside w s h, omega (arith, k.1), λ e. absurd (cc (e))) in
      let first : List ℕ =
      styled_lines (Dump style.pure) (length outer) h.offset (header_findings_in wanted (surroundings_in w) h) in
      let line : List ℕ = opening_line (layout_at style p.depth) h (opening_word h.constructed) in
      record {
        text = λ n o.
            ap (λ (x : Effect DumpState). x.put)
            (then_shown (start with_text style names wanted p (is_padding previous) w outer n)
            (start with_text style names wanted (place_of_children p h) false (frame_under w h) (with_element w ∷ outer)
            (later_header wanted w h n))
            (first ++ line) (opening_events h) (events inside)
            (opened-shown with_text style names wanted p holder previous w outer n h k v.0.0.header.offset v.0.0.shallow
            (omega (arith, b, size))))
            ∙ ap (λ (l : List ℕ). (first ++ line) ++ l) (i.text (later_header wanted w h n) (opened-seen wanted s n.seen h o v.0.0.shallow))
            ∙ append_assoc first line (item_texts with_text style names wanted (items (wanted_findings wanted) (site_of_children s h) inside))
            ∙ found-first with_text style names wanted (length outer) p.depth h.offset
            (header_findings_in wanted (surroundings_in w) h)
            (header_findings wanted s h)
            _ (OpeningLine p.depth h ∷ items (wanted_findings wanted) (site_of_children s h) inside) k.1
            (header-same wanted w s h k.0) refl;
        after = λ n o held e. absurd (cc (e));
      }
  shows_forest p holder previous w outer (OpenBitString h) v b k = record {
    text = λ n o.
        append_assoc
        (styled_lines (Dump style.pure) (length outer) h.offset (header_findings_in wanted (surroundings_in w) h))
        (opening_line (layout_at style (length outer)) h (opening_word false)) []
        ∙ found-first with_text style names wanted (length outer) p.depth h.offset
        (header_findings_in wanted (surroundings_in w) h)
        (header_findings wanted (site with_text style names wanted p holder previous) h)
        _ (OpeningLine p.depth h ∷ []) k.1
        (header-same wanted w (site with_text style names wanted p holder previous) h k.0)
        (ap (λ (l : List ℕ). l ++ [])
        (ap (λ (level : ℕ). opening_line (layout_at style level) h (opening_word false)) k.1
        ∙ sym (awaiting p.depth h h.constructed v.1)));
    after = λ n o held e. absurd (cc (e));
  }
    where
      awaiting : (level : ℕ) (h : HeaderValue) (k : Bool)
          → (not k && eqb h.number 3) ≡ true
          → opening_line (layout_at style level) h (opening_word k)
          ≡ opening_line (layout_at style level) h (opening_word false)
      awaiting level h true e = absurd (cc (e))
      awaiting level h false e = refl
  shows_forest p holder previous w outer (OpenHeader octets) v b k = record {
    text = λ n o. refl;
    after = λ n o held e. absurd (cc (e));
  }
  shows_forest p holder previous w outer OpenEndOctets v b k = record {
    text = λ n o. refl;
    after = λ n o held e. absurd (cc (e));
  }
