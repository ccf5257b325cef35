-- What a dump makes of the events of one element is the text of its items.
use Rattle.std.specs.FinMap as finite
use Rattle.std.proofs.Common.{◌≡◌, ℕ, ◌+◌, ◌-◌, ◌^◌, ◌<◌, ◌≤◌, ◌==◌, Bool, true, false, List, [], ◌∷◌, ◌++◌, length}
use Rattle.std.proofs.Common.{refl, sym, ap, ap₂, ◌∙◌, arith}
use Rattle.std.proofs.lemmas.Grind.{flat_map-append}
use Rattle.std.specs.Prelude.{flat_map, Option, None}
use Rattle.std.proofs.Common.{◌≢◌}
use Rattle.tlv_show.proofs.SegmentLemmas.Seen.{HasSeen, HasSeenAll}
use Rattle.tlv_show.proofs.FindingLemmas.FinderSteps.{HasItsOffset, Kept, found_at_end, found_in_contents, offset-at_end}
use Rattle.tlv_head.specs.Header.{HasAllContents, HeaderValue, announced_length, octets_of}
use Rattle.tlv_head.specs.HeaderSoFar.{AllowsSize}
use Rattle.tlv_value.specs.declared.finding.Finding.{Finding}
use Rattle.tlv_value.specs.declared.layout.Layout.{Layout}
use Rattle.tlv_value.specs.Names.{NamesValue}
use Rattle.tlv_value.specs.TextBeside.{whole_lines_with}
use Rattle.tlv_walk.specs.Events.{Begin, Bytes, End, EventValue, events, opening_events, closing_event}
use Rattle.tlv_walk.proofs.GrammarLemmas.Leads.{end_offset}
use Rattle.tlv_walk.specs.Forest.{end_octets_offset}
use Rattle.tlv_walk.specs.Follow.{Effect, effect_of, effect_with}
use Rattle.tlv_walk.specs.Forest.{Forest, is_whole, opening, spelling, end_octets, holder_extent}
use Rattle.tlv_walk.specs.Place.{Place, place_after, place_of_children, ObeysGrammar}
use Rattle.tlv_show.specs.declared.holder_frame.HolderFrame.{HolderFrame}
use Rattle.tlv_show.specs.declared.wanted.Wanted.{Wanted}
use Rattle.tlv_show.specs.declared.finding_lines.Style.TheVariants.{Dump}
use Rattle.tlv_show.specs.FindingLines.{styled_lines}
use Rattle.tlv_show.specs.LinesStep.{LinesState}
use Rattle.tlv_show.specs.DumpStep.{DumpState, dump_step}
use Rattle.tlv_show.specs.FinderState.{CheckState, FinderState}
use Rattle.tlv_show.specs.NestingState.{frame_after, frame_under, surroundings_in, with_element}
use Rattle.tlv_show.specs.KeptConditions.{header_findings_in}
use Rattle.tlv_show.specs.Items.{Item, FindingAt, items, finding_items}
use Rattle.tlv_show.specs.HolderLines.{closing_line, opening_line, opening_word}
use Rattle.tlv_show.specs.Site.{Site, is_padding}
use Rattle.tlv_show.specs.Texts.{layout_at}
use Rattle.tlv_show.specs.WantedJobs.{item_text_with}
use Rattle.tlv_show.specs.ShownFindings.{wanted_findings}
use Rattle.tlv_show.proofs.DumpLemmas.DumpTexts.{holder_shown, ends_in_padding, primitive_shown}
use Rattle.tlv_show.proofs.DumpLemmas.DumpTexts.{lines_between, closer_shown}
use Rattle.tlv_show.proofs.FindingLemmas.FinderFolds.{frame_after_elements}
use Rattle.tlv_show.proofs.FindingLemmas.FinderSteps.{after_contents, later_header, after_primitive, opened-find}
use Rattle.tlv_show.proofs.FindingLemmas.FinderSteps.{primitive-find, check_between, after_end, closed-find}
use Rattle.tlv_show.proofs.FindingLemmas.HeaderFindings.{Knows}
use Rattle.tlv_show.proofs.DumpLemmas.DumpEvents.{dump_state, then_shown, texts, opens-by, primitive-by, closes-by}
use Rattle.tlv_value.specs.Types.{has_primitive_form}

-- ---- elements, in this style, with these names and rules
module _ (with_text : Bool) (style : Layout) (names : NamesValue) (wanted : Wanted) where
  abbrev pub item : Item → List ℕ
  item i = item_text_with with_text (finite.get names) style i

  abbrev pub item_texts : List Item → List ℕ
  item_texts l = flat_map item l

  abbrev pub site : Place → Option HeaderValue → Forest → Site
  site p holder previous = record { offset = p.offset; depth = p.depth; holder = holder; previous = previous }

  pub lines_of : (level offset : ℕ) (fs : List Finding)
      → styled_lines (Dump style.pure) level offset fs ≡ item_texts (finding_items level offset fs)
  lines_of level offset [] = refl
  lines_of level offset (f ∷ fs) = ap (λ (l : List ℕ). item (FindingAt level offset f) ++ l) (lines_of level offset fs)

  pub item_texts-append : (xs ys : List Item) → item_texts (xs ++ ys) ≡ item_texts xs ++ item_texts ys
  item_texts-append xs ys = flat_map-append item xs ys

  -- findings, and then other lines
  pub found-first : (n level offset : ℕ) (gs fs : List Finding) (more : List ℕ) (rest : List Item) → n ≡ level → gs ≡ fs
      → more ≡ item_texts rest
      → styled_lines (Dump style.pure) n offset gs ++ more ≡ item_texts (finding_items level offset fs ++ rest)
  found-first n level offset gs fs more rest e f g =
      ap₂ (λ (k : ℕ) (hs : List Finding). styled_lines (Dump style.pure) k offset hs ++ more) e f
      ∙ ap₂ (λ (a b : List ℕ). a ++ b) (lines_of level offset fs) g
      ∙ sym (item_texts-append (finding_items level offset fs) rest)

  abbrev pub start : Place → Bool → HolderFrame → List HolderFrame → Kept → DumpState
  start p padded w outer n =
      dump_state (lines_between with_text style names p.offset padded) (check_between wanted w outer n)

  pub record IsShown (p : Place) (holder : Option HeaderValue) (previous : Forest) (w : HolderFrame)
      (outer : List HolderFrame) (f : Forest) : Type 0 where
    pub text : (n : Kept) → HasSeen wanted (site p holder previous) n.seen
        → (effect_of dump_step (start p (is_padding previous) w outer n) (events f)).put
        ≡ item_texts (items (wanted_findings wanted) (site p holder previous) f)
    pub after : (n : Kept) → HasSeen wanted (site p holder previous) n.seen → holder ≢ None → is_whole f ≡ true
        → (m : Kept)
        × ((effect_of dump_step (start p (is_padding previous) w outer n) (events f)).state
        ≡ dump_state
        (lines_between with_text style names (p.offset + length (spelling f))
        (ends_in_padding with_text style names (is_padding previous) f))
        (check_between wanted (frame_after_elements w f) outer m))
        × HasSeenAll wanted n.seen f m.seen

  -- elements after what was shown
  pub shown-after : (p q : Place) (padded : Bool) (w : HolderFrame) (outer : List HolderFrame) (n m : Kept)
      (v : HolderFrame) (holder : Option HeaderValue) (previous : Forest) (es : List EventValue) (put : List ℕ)
      (rest : Forest)
      → q.depth ≡ p.depth
      → effect_of dump_step (start p padded w outer n) es ≡ effect_with (start q (is_padding previous) v outer m) put
      → IsShown q holder previous v outer rest → HasSeen wanted (site q holder previous) m.seen
      → effect_of dump_step (start p padded w outer n) (es ++ events rest)
      ≡ record (effect_of dump_step (start q (is_padding previous) v outer m) (events rest))
      { put = put ++ item_texts (items (wanted_findings wanted) (site q holder previous) rest) }
  shown-after p q padded w outer n m v holder previous es put rest d e t o =
      then_shown (start p padded w outer n) (start q (is_padding previous) v outer m) put es (events rest) e
      ∙ ap (λ (l : List ℕ). record (effect_of dump_step (start q (is_padding previous) v outer m) (events rest))
      { put = put ++ l })
      (t.text m o)

  abbrev pub Known : Place → Option HeaderValue → Forest → HolderFrame → List HolderFrame → Type 0
  Known p holder previous w outer =
      Knows w (site p holder previous) × (length outer ≡ p.depth) × (p.padding ≡ true → holder ≡ None)

  -- an element that holds others begins
  pub opened-shown : (p : Place) (holder : Option HeaderValue) (previous : Forest) (w : HolderFrame)
      (outer : List HolderFrame) (n : Kept) (h : HeaderValue)
      → Known p holder previous w outer
      → h.offset ≡ p.offset → p.depth < 128 → p.offset + length (opening h) ≤ 2 ^ 64 - 1
      → effect_of dump_step (start p (is_padding previous) w outer n) (opening_events h)
      ≡ effect_with (start (place_of_children p h) false (frame_under w h) (with_element w ∷ outer) (later_header wanted w h n))
      (styled_lines (Dump style.pure) (length outer) h.offset (header_findings_in wanted (surroundings_in w) h)
      ++ opening_line (layout_at style p.depth) h (opening_word h.constructed))
  opened-shown p holder previous w outer n h k there low far =
      opens-by (lines_between with_text style names p.offset (is_padding previous)) (check_between wanted w outer n) h
      h.constructed (h.number == 3)
      ∙ ap₂
      (λ (d : Effect LinesState) (f : FinderState). effect_with (dump_state d.state f.kept)
      (texts style f ++ d.put))
      (holder_shown with_text style names (length outer) p.offset (is_padding previous) h there far)
      (opened-find wanted w outer n h (omega (arith, k.1, low)))
      ∙ ap
      (λ (level : ℕ). effect_with
      (start (place_of_children p h) false (frame_under w h) (with_element w ∷ outer) (later_header wanted w h n))
      (styled_lines (Dump style.pure) (length outer) h.offset (header_findings_in wanted (surroundings_in w) h)
      ++ opening_line (layout_at style level) h (opening_word h.constructed)))
      k.1

  -- a primitive
  pub primitive-shown : (p : Place) (padded : Bool) (w : HolderFrame) (outer : List HolderFrame) (n : Kept)
      (h : HeaderValue) (c : List ℕ)
      → length outer ≡ p.depth → h.offset ≡ p.offset → HasAllContents h c
      → p.offset + (length (octets_of h) + length c) ≤ 2 ^ 64 - 1
      → effect_of dump_step (start p padded w outer n) (Begin h ∷ Bytes c ∷ End ∷ [])
      ≡ effect_with
      (start (place_after p (length (octets_of h) + length c)) false (after_primitive wanted w h c) outer
      (after_contents wanted w h c n))
      (styled_lines (Dump style.pure) (length outer) h.offset (header_findings_in wanted (surroundings_in w) h)
      ++ (whole_lines_with with_text (finite.get names) h (layout_at style p.depth) c
      ++ styled_lines (Dump style.pure) (length outer) h.offset (found_in_contents wanted h c n)))
  primitive-shown p padded w outer n h c deep there size far =
      primitive-by (lines_between with_text style names p.offset padded) (check_between wanted w outer n) h c
      ∙ ap₂
      (λ (d : Effect LinesState) (f : FinderState). effect_with (dump_state d.state f.kept)
      (styled_lines (Dump style.pure) (length outer) h.offset (header_findings_in wanted (surroundings_in w) h)
      ++ (d.put ++ texts style f)))
      (primitive_shown with_text style names (length outer) p.offset padded h c there size far)
      (primitive-find wanted w outer n h c size)
      ∙ ap
      (λ (level : ℕ). effect_with
      (start (place_after p (length (octets_of h) + length c)) false (after_primitive wanted w h c) outer
      (after_contents wanted w h c n))
      (styled_lines (Dump style.pure) (length outer) h.offset (header_findings_in wanted (surroundings_in w) h)
      ++ (whole_lines_with with_text (finite.get names) h (layout_at style level) c
      ++ styled_lines (Dump style.pure) (length outer) h.offset (found_in_contents wanted h c n))))
      deep

  -- an element that holds others ends
  pub closed-shown : (p : Place) (w : HolderFrame) (outer : List HolderFrame) (n : Kept) (h : HeaderValue)
      (inside : Forest)
      → length outer ≡ p.depth → ObeysGrammar (place_of_children p h) inside → is_whole inside ≡ true → h.offset ≡ p.offset
      → AllowsSize h.constructed h.size → p.offset + holder_extent h inside ≤ 2 ^ 64 - 1 → HasItsOffset wanted h inside n
      → effect_of dump_step
      (dump_state
      (lines_between with_text style names (p.offset + length (opening h) + length (spelling inside)) false)
      (check_between wanted (frame_after_elements (frame_under w h) inside) (with_element w ∷ outer) n))
      (closing_event h inside ∷ [])
      ≡ effect_with
      (start (place_after p (holder_extent h inside)) false
      (frame_after (with_element w) (has_primitive_form h) (announced_length h.size) false) outer (after_end wanted h inside n))
      (closing_line (layout_at style p.depth) (end_octets_offset h inside)
      ++ styled_lines (Dump style.pure) (length outer) h.offset (found_at_end wanted h inside n))
  closed-shown p w outer n h inside deep v whole there allowed far known =
      let end : ℕ = p.offset + length (opening h) + length (spelling inside) in
      let level : ℕ = length (with_element w ∷ outer) - 1 in
      let close : List ℕ = closing_line (layout_at style level) (end_octets_offset h inside) in
      let last : List ℕ =
      styled_lines (Dump style.pure) (length outer) h.offset (found_at_end wanted h inside n) in
      let after : CheckState =
      check_between wanted (frame_after (with_element w) (has_primitive_form h) (announced_length h.size) false) outer
      (after_end wanted h inside n) in
      closes-by (lines_between with_text style names end false)
      (check_between wanted (frame_after_elements (frame_under w h) inside) (with_element w ∷ outer) n)
      (end_offset h.size (h.offset + length (opening h) + length (spelling inside))) h.constructed
      ∙ ap₂
      (λ (d : Effect LinesState) (f : FinderState). effect_with (dump_state d.state f.kept)
      (d.put ++ texts style f))
      (closer_shown with_text style names level end h inside (omega (arith, there)) allowed (omega (arith, far)))
      (closed-find wanted (place_of_children p h) w outer n h inside v whole)
      ∙ ap (λ (l : List ℕ). effect_with
      (dump_state (lines_between with_text style names (end + length (end_octets h.size)) false) after) (close ++ l))
      (offset-at_end wanted (place_of_children p h) w h inside n v whole known
      (styled_lines (Dump style.pure) (length outer)) (λ offset. refl))
      ∙ ap (λ (offset : ℕ). effect_with (dump_state (lines_between with_text style names offset false) after)
      (close ++ last))
      (omega arith)
      ∙ ap
      (λ (l : ℕ). effect_with
      (dump_state (lines_between with_text style names (p.offset + holder_extent h inside) false) after)
      (closing_line (layout_at style l) (end_octets_offset h inside) ++ last))
      (omega (arith, deep))
