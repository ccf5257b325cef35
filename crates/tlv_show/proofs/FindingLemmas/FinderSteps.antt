-- What a finder reports of each event, and of those of one element.
use Rattle.std.proofs.Common.{◌≡◌, ℕ, ◌+◌, ◌-◌, ◌<◌, ◌≤◌, ◌==◌, ◌&&◌, Bool, true, false, nat_lt, if◌then◌else◌, List, [], ◌∷◌}
use Rattle.std.proofs.Common.{◌++◌, length, map, refl, subst, sym, ap, ap₂, ◌∙◌, arith, append_assoc}
use Rattle.std.proofs.lemmas.Bool.Decides.{nat_tests}
use Rattle.std.specs.List.{filter}
use Rattle.std.specs.Prelude.{Option, Some, None}
use Rattle.std.specs.Option.{is_some}
use Rattle.tlv_show.specs.FinderState.{offset_at_end, is_misplaced}
use Rattle.tlv_show.specs.FinderState.{SeenState}
use Rattle.tlv_show.specs.ShownFindings.{contents_findings, end_findings, is_shown, with_characters_if, with_order_if}
use Rattle.tlv_show.specs.Laws.{whole_primitive}
use Rattle.tlv_show.proofs.SetOrderLemmas.WantedOrder.{ends_with_octets}
use Rattle.tlv_show.proofs.SegmentLemmas.Seen.{filled-none, seen_held, seen_whole}
use Rattle.tlv_show.specs.FinderState.{seen_begun, seen_filled, seen_opened, string_found}
use Rattle.tlv_head.specs.Header.{HasAllContents, HeaderValue, announced_length}
use Rattle.tlv_value.specs.declared.finding.Finding.{Finding}
use Rattle.tlv_value.specs.ValueCheckState.{ValueCheckState, findings_in, has_unused_bits, value_check_for}
use Rattle.tlv_value.specs.ValueCheckState.{new_value_check}
use Rattle.tlv_value.specs.Types.{has_primitive_form}
use Rattle.tlv_value.proofs.CheckLemmas.CheckPieces.{checked-none, findings-end}
use Rattle.tlv_walk.specs.Events.{Begin, Bytes, Close, End, Enter, EventValue, Leave, Open, Unused, closing_event}
use Rattle.tlv_walk.specs.Events.{opening_events}
use Rattle.tlv_walk.proofs.GrammarLemmas.Leads.{end_offset}
use Rattle.tlv_walk.specs.Forest.{Forest}
use Rattle.tlv_walk.specs.Forest.{is_whole, opening, spelling}
use Rattle.tlv_walk.specs.Place.{ObeysGrammar, Place}
use Rattle.tlv_walk.proofs.GrammarLemmas.Leads.{lead_by}
use Rattle.tlv_show.specs.declared.holder_frame.HolderFrame.{HolderFrame}
use Rattle.tlv_show.specs.declared.wanted.Wanted.{Wanted}
use Rattle.tlv_show.specs.FinderState.{CheckState, FinderState, contents_findings_in, finder_begin_step}
use Rattle.tlv_show.specs.FinderState.{finder_bytes_step, finder_close_step, finder_end_step, finder_open_step}
use Rattle.tlv_show.specs.NestingState.{depth_in, frame_after, frame_under, nesting_primitive_step, surroundings_in}
use Rattle.tlv_show.specs.NestingState.{with_element}
use Rattle.tlv_show.proofs.FindingLemmas.FinderStep.{finder_step}
use Rattle.tlv_show.specs.KeptConditions.{header_findings_in}
use Rattle.tlv_show.specs.Items.{Item, finding_items}
use Rattle.tlv_show.specs.Conditions.{headers}
use Rattle.tlv_show.proofs.FindingLemmas.CheckLaws.{one-or-more}
use Rattle.tlv_show.proofs.FindingLemmas.FinderFolds.{offset-under, after-under, frame_after_elements}
use Rattle.tlv_show.proofs.FindingLemmas.FinderFolds.{summed-under}
use Rattle.tlv_show.specs.SaturatingSum.{saturating_sum}
use Rattle.std.proofs.lemmas.List.{take_all}

-- what becomes of a finder, and the items that it reported
pub record FinderRun : Type 0 where
  pub state : CheckState
  pub put : List Item

abbrev pub found_items : FinderState → List Item
found_items f = finding_items f.level f.offset f.findings

abbrev pub then_found : List Item → FinderRun → FinderRun
then_found put u = record { state = u.state; put = put ++ u.put }

abbrev pub run_finder : CheckState → List EventValue → FinderRun
run_finder s [] = record { state = s; put = [] }
run_finder s (e ∷ es) = then_found (found_items (finder_step s e)) (run_finder (finder_step s e).kept es)

pub run-more : (s : CheckState) (xs ys : List EventValue)
    → run_finder s (xs ++ ys) ≡ then_found (run_finder s xs).put (run_finder (run_finder s xs).state ys)
run-more s [] ys = refl
run-more s (x ∷ xs) ys =
    let u : CheckState = (finder_step s x).kept in
    let put : List Item = found_items (finder_step s x) in
    ap (then_found put) (run-more u xs ys)
    ∙ ap (λ (l : List Item). record { state = (run_finder (run_finder u xs).state ys).state; put = l })
    (sym (append_assoc put (run_finder u xs).put (run_finder (run_finder u xs).state ys).put))

-- ---- contents

-- all contents octets of a primitive
abbrev with_check : CheckState → ℕ → ValueCheckState → CheckState
with_check s offset t = record s { open_primitive = Some (record { offset = offset; check = t }) }

abbrev with_contents : CheckState → ℕ → ValueCheckState → List ℕ → CheckState
with_contents s offset t c = record (with_check s offset t) { seen = seen_filled s.wanted s.seen c }

bytes_step-all : (s : CheckState) (offset : ℕ) (h : HeaderValue) (c : List ℕ) → length c ≤ announced_length h.size
    → finder_bytes_step (with_check s offset (new_value_check h)) c
    ≡ with_contents s offset (value_check_for h c) c
bytes_step-all s offset h [] e =
    ap₂ (λ (t : ValueCheckState) (o : SeenState). record (with_check s offset t) { seen = o })
    (sym (checked-none h)) (sym (filled-none s.wanted s.seen))
bytes_step-all s offset h (x ∷ c) e =
    rw (one-or-more x c)
    (ap (λ (l : List ℕ). with_contents s offset (value_check_for h l) (x ∷ c))
    (take_all (announced_length h.size) (x ∷ c) e))

-- what is found at their end
pub contents_findings-at_end : (wanted : Wanted) (h : HeaderValue) (c : List ℕ) → HasAllContents h c
    → contents_findings_in wanted (value_check_for h c) ≡ contents_findings wanted h c
contents_findings-at_end wanted h c e =
    let none : (announced_length h.size - length c == 0) ≡ true = grind (arith, nat_tests) in
    ap (λ (b : Bool). if b then filter (is_shown wanted) (findings_in (value_check_for h c)) else [])
    none
    ∙ ap (filter (is_shown wanted)) (findings-end h c e)

-- ---- a primitive at once

-- what a finder makes of a primitive
abbrev pub primitive_seen : CheckState → HeaderValue → List ℕ → SeenState
primitive_seen s h c = seen_whole s.wanted s.seen h c

pub primitive-found : (s : CheckState) (h : HeaderValue) (c : List ℕ) → HasAllContents h c
    → (u : CheckState) × (u.open_primitive ≡ None)
    × (finder_end_step (finder_bytes_step (finder_begin_step s h).kept c) ≡ record {
      kept = u;
      level = depth_in s.holders;
      offset = h.offset;
      findings =
          with_order_if (is_misplaced s.wanted (whole_primitive s h c).seen) (contents_findings s.wanted h c);
    })
primitive-found s h c e =
    let b : Bool = is_misplaced s.wanted (primitive_seen s h c) in
    let n = saturating_sum s.finding_count (length (header_findings_in s.wanted (surroundings_in s.holders.frame) h)) in
    let t : ValueCheckState = value_check_for h c in
    let state_with : List Finding → CheckState = λ fs. record {
      wanted = s.wanted;
      holders = nesting_primitive_step s.holders (announced_length h.size) (has_unused_bits t);
      open_primitive = None;
      seen = primitive_seen s h c;
      finding_count = saturating_sum n (length (with_order_if b fs));
    } in
    let before : CheckState = record s { finding_count = n; seen = seen_begun s.wanted s.seen h } in
    let all : finder_end_step (finder_bytes_step (finder_begin_step s h).kept c)
    ≡ record {
      kept = state_with (contents_findings s.wanted h c);
      level = depth_in s.holders;
      offset = h.offset;
      findings = with_order_if b (contents_findings s.wanted h c);
    } =
    ap finder_end_step (bytes_step-all before h.offset h c (omega (arith, e)))
    ∙ ap (λ (fs : List Finding).
    record {
      kept = state_with fs;
      level = depth_in s.holders;
      offset = h.offset;
      findings = with_order_if b fs;
    })
    (contents_findings-at_end s.wanted h c e) in (
      state_with (contents_findings s.wanted h c),
      refl,
      all
          ∙ ap (λ (o : SeenState). record {
            kept = state_with (contents_findings s.wanted h c);
            level = depth_in s.holders;
            offset = h.offset;
            findings = with_order_if (is_misplaced s.wanted o) (contents_findings s.wanted h c);
          })
          (sym (ap (λ (f : FinderState). f.kept.seen) all)),
    )

-- what is kept besides the frames: the number of findings, and the open SETs
pub record Kept : Type 0 where
  pub count : ℕ
  pub seen : SeenState

module _ (wanted : Wanted) where
  -- between two elements
  abbrev pub check_between : HolderFrame → List HolderFrame → Kept → CheckState
  check_between w outer n = record {
    wanted = wanted;
    holders = record { frame = w; outer = outer };
    open_primitive = None;
    seen = n.seen;
    finding_count = n.count;
  }

  abbrev pub header_count : HolderFrame → HeaderValue → Kept → ℕ
  header_count w h n = saturating_sum n.count (length (header_findings_in wanted (surroundings_in w) h))

  abbrev pub later_header : HolderFrame → HeaderValue → Kept → Kept
  later_header w h n = record { count = header_count w h n; seen = seen_opened wanted n.seen h }

  -- ---- an element that holds others begins

  pub opened-find : (w : HolderFrame) (outer : List HolderFrame) (n : Kept) (h : HeaderValue) → length outer < 128
      → finder_open_step (check_between w outer n) h
      ≡ record {
        kept = check_between (frame_under w h) (with_element w ∷ outer) (later_header w h n);
        level = length outer;
        offset = h.offset;
        findings = header_findings_in wanted (surroundings_in w) h;
      }
  opened-find w outer n h few =
      let yes : nat_lt (length outer) 128 ≡ true = grind (arith, nat_tests) in
      rw yes refl

  opened-by : (s : CheckState) (h : HeaderValue) (k three : Bool) (es : List EventValue)
      → run_finder s
      (((if k then Open h else Enter h)
      ∷ map (λ z. Unused) (lead_by k three))
      ++ es)
      ≡ then_found (found_items (finder_open_step s h)) (run_finder (finder_open_step s h).kept es)
  opened-by s h true three es = refl
  opened-by s h false true es = refl
  opened-by s h false false es = refl

  pub run-opening : (w : HolderFrame) (outer : List HolderFrame) (n : Kept) (h : HeaderValue) (es : List EventValue)
      → length outer < 128
      → run_finder (check_between w outer n) (opening_events h ++ es)
      ≡ then_found (finding_items (length outer) h.offset (header_findings_in wanted (surroundings_in w) h))
      (run_finder (check_between (frame_under w h) (with_element w ∷ outer) (later_header w h n)) es)
  run-opening w outer n h es few =
      opened-by (check_between w outer n) h h.constructed (h.number == 3) es
      ∙ ap (λ (f : FinderState). then_found (found_items f) (run_finder f.kept es)) (opened-find w outer n h few)

  -- ---- and ends

  closed-by : (s : CheckState) (offset : Option ℕ) (k : Bool) (es : List EventValue)
      → run_finder s ((if k then Close offset else Leave) ∷ es)
      ≡ then_found (found_items (finder_close_step s (k && is_some offset)))
      (run_finder (finder_close_step s (k && is_some offset)).kept es)
  closed-by s offset true es = refl
  closed-by s offset false es = refl

  -- the element is out of order, by what is kept before its end
  abbrev pub is_holder_found : HeaderValue → Forest → Kept → Bool
  is_holder_found h inside n = is_misplaced wanted (seen_held wanted n.seen h inside)

  -- the string that ends has a segment with wrong characters
  abbrev pub string_in : Kept → Option ℕ
  string_in n = string_found wanted n.seen.strings

  -- what is found with its end, if these are the other findings
  abbrev with_found : Bool → Option ℕ → List Finding → List Finding
  with_found misplaced string others = with_order_if misplaced (with_characters_if (is_some string) others)

  abbrev pub found_at_end : HeaderValue → Forest → Kept → List Finding
  found_at_end h inside n =
      with_found (is_holder_found h inside n) (string_in n) (end_findings wanted h (headers inside))

  abbrev pub after_end : HeaderValue → Forest → Kept → Kept
  after_end h inside n = record {
    count = saturating_sum n.count (length (found_at_end h inside n));
    seen = seen_held wanted n.seen h inside;
  }

  -- the offset of an element that is out of order is known, and that of a string with wrong characters
  abbrev pub HasItsOffset : HeaderValue → Forest → Kept → Type 0
  HasItsOffset h inside n =
      (is_holder_found h inside n ≡ true → (seen_held wanted n.seen h inside).order.frame.offset ≡ h.offset)
      × (k : Bool) × (string_in n ≡ (if k then Some h.offset else None))

  pub offset-at_end : {T : Type 0} (p : Place) (w : HolderFrame) (h : HeaderValue) (inside : Forest) (n : Kept)
      → ObeysGrammar p inside → is_whole inside ≡ true → HasItsOffset h inside n
      → (put : ℕ → List Finding → List T) → ((offset : ℕ) → put offset [] ≡ [])
      → put
      (offset_at_end (is_holder_found h inside n) (seen_held wanted n.seen h inside).order (string_in n)
      (frame_after_elements (frame_under w h) inside))
      (found_at_end h inside n)
      ≡ put h.offset (found_at_end h inside n)
  offset-at_end p w h inside n v whole there put none =
      by (is_holder_found h inside n) (string_in n) there.1 there.0 there.2
    where
      others : List Finding
      others = end_findings wanted h (headers inside)

      IsPut : Bool → Option ℕ → Type 0
      IsPut b o =
          put (offset_at_end b (seen_held wanted n.seen h inside).order o (frame_after_elements (frame_under w h) inside))
          (with_found b o others)
          ≡ put h.offset (with_found b o others)

      by : (b : Bool) (o : Option ℕ) (k : Bool)
          → (b ≡ true → (seen_held wanted n.seen h inside).order.frame.offset ≡ h.offset)
          → o ≡ (if k then Some h.offset else None) → IsPut b o
      by true o k at is = ap (λ (offset : ℕ). put offset (with_found true o others)) (at refl)
      by false o true at is = subst (IsPut false) (sym is) refl
      by false o false at is = subst (IsPut false) (sym is) (offset-under wanted p w h inside v whole put none)

  pub run-closing : (p : Place) (w : HolderFrame) (outer : List HolderFrame) (n : Kept) (h : HeaderValue) (inside : Forest)
      (es : List EventValue)
      → ObeysGrammar p inside → is_whole inside ≡ true → HasItsOffset h inside n
      → run_finder (check_between (frame_after_elements (frame_under w h) inside) (with_element w ∷ outer) n)
      (closing_event h inside ∷ es)
      ≡ then_found (finding_items (length outer) h.offset (found_at_end h inside n))
      (run_finder
      (check_between (frame_after (with_element w) (has_primitive_form h) (announced_length h.size) false) outer
      (after_end h inside n))
      es)
  run-closing p w outer n h inside es v whole there =
      let f : HolderFrame = frame_after_elements (frame_under w h) inside in
      let o : SeenState = seen_held wanted n.seen h inside in
      let b : Bool = is_holder_found h inside n in
      let c : Option ℕ = string_in n in
      closed-by (check_between f (with_element w ∷ outer) n)
      (end_offset h.size (h.offset + length (opening h) + length (spelling inside))) h.constructed es
      ∙ ap (λ (fs : List Finding). then_found (finding_items (length outer) (offset_at_end b o.order c f) (with_found b c fs))
      (run_finder
      (check_between (frame_after (with_element w) f.is_primitive f.announced_length false) outer
      (record { count = saturating_sum n.count (length (with_found b c fs)); seen = o }))
      es))
      (summed-under wanted p w h inside v whole)
      ∙ ap₂
      (λ (put : List Item) (t : HolderFrame). then_found put
      (run_finder (check_between t outer (after_end h inside n)) es))
      (offset-at_end p w h inside n v whole there (finding_items (length outer)) (λ offset. refl))
      (after-under (with_element w) h inside)

  -- ---- a primitive

  abbrev pub after_primitive : HolderFrame → HeaderValue → List ℕ → HolderFrame
  after_primitive w h c =
      frame_after (with_element w) true (announced_length h.size) (has_unused_bits (value_check_for h c))

  -- the primitive is out of order, by what is kept before it
  abbrev pub is_primitive_found : HeaderValue → List ℕ → Kept → Bool
  is_primitive_found h c n = is_misplaced wanted (seen_whole wanted n.seen h c)

  abbrev pub found_in_contents : HeaderValue → List ℕ → Kept → List Finding
  found_in_contents h c n = with_order_if (is_primitive_found h c n) (contents_findings wanted h c)

  -- after these findings on contents
  abbrev pub with_contents_found : HolderFrame → HeaderValue → List ℕ → Kept → List Finding → Kept
  with_contents_found w h c n fs = record {
    count = saturating_sum (header_count w h n) (length (with_order_if (is_primitive_found h c n) fs));
    seen = seen_whole wanted n.seen h c;
  }

  abbrev pub after_contents : HolderFrame → HeaderValue → List ℕ → Kept → Kept
  after_contents w h c n = with_contents_found w h c n (contents_findings wanted h c)

  abbrev pub in_contents : HolderFrame → HeaderValue → Kept → Kept
  in_contents w h n = record { count = header_count w h n; seen = seen_begun wanted n.seen h }

  pub run-primitive : (w : HolderFrame) (outer : List HolderFrame) (n : Kept) (h : HeaderValue) (c : List ℕ)
      (es : List EventValue)
      → HasAllContents h c
      → run_finder (check_between w outer n) (Begin h ∷ Bytes c ∷ End ∷ es)
      ≡ then_found (finding_items (length outer) h.offset (header_findings_in wanted (surroundings_in w) h))
      (then_found (finding_items (length outer) h.offset (found_in_contents h c n))
      (run_finder (check_between (after_primitive w h c) outer (after_contents w h c n)) es))
  run-primitive w outer n h c es e =
      let put : List Item = finding_items (length outer) h.offset (header_findings_in wanted (surroundings_in w) h) in
      let s : CheckState = check_between w outer (in_contents w h n) in
      let b : Bool = is_primitive_found h c n in
      ap (λ (u : CheckState). then_found put (then_found [] (run_finder u (End ∷ es))))
      (bytes_step-all s h.offset h c (omega (arith, e)))
      ∙ ap (λ (fs : List Finding). then_found put
      (then_found (finding_items (length outer) h.offset (with_order_if b fs))
      (run_finder (check_between (after_primitive w h c) outer (with_contents_found w h c n fs)) es)))
      (contents_findings-at_end wanted h c e)

  -- ---- what a finder makes of each end by itself

  pub closed-find : (p : Place) (w : HolderFrame) (outer : List HolderFrame) (n : Kept) (h : HeaderValue)
      (inside : Forest)
      → ObeysGrammar p inside → is_whole inside ≡ true
      → finder_close_step (check_between (frame_after_elements (frame_under w h) inside) (with_element w ∷ outer) n)
      (ends_with_octets wanted h inside)
      ≡ record {
        kept =
            check_between (frame_after (with_element w) (has_primitive_form h) (announced_length h.size) false) outer (after_end h inside n);
        level = length outer;
        offset =
            offset_at_end (is_holder_found h inside n) (seen_held wanted n.seen h inside).order (string_in n)
            (frame_after_elements (frame_under w h) inside);
        findings = found_at_end h inside n;
      }
  closed-find p w outer n h inside v whole =
      let f : HolderFrame = frame_after_elements (frame_under w h) inside in
      let o : SeenState = seen_held wanted n.seen h inside in
      let b : Bool = is_holder_found h inside n in
      let c : Option ℕ = string_in n in
      ap (λ (gs : List Finding).
      record {
        kept =
            check_between (frame_after (with_element w) f.is_primitive f.announced_length false) outer
            (record { count = saturating_sum n.count (length (with_found b c gs)); seen = o });
        level =
            length outer;
        offset = offset_at_end b o.order c f;
        findings = with_found b c gs;
      })
      (summed-under wanted p w h inside v whole)
      ∙ ap (λ (t : HolderFrame).
      record {
        kept =
            check_between t outer (after_end h inside n);
        level =
            length outer;
        offset = offset_at_end b o.order c f;
        findings = found_at_end h inside n;
      })
      (after-under (with_element w) h inside)

  pub primitive-find : (w : HolderFrame) (outer : List HolderFrame) (n : Kept) (h : HeaderValue) (c : List ℕ)
      → HasAllContents h c
      → finder_end_step (finder_bytes_step (finder_begin_step (check_between w outer n) h).kept c)
      ≡ record {
        kept = check_between (after_primitive w h c) outer (after_contents w h c n);
        level = length outer;
        offset = h.offset;
        findings = found_in_contents h c n;
      }
  primitive-find w outer n h c e =
      ap finder_end_step (bytes_step-all (check_between w outer (in_contents w h n)) h.offset h c (omega (arith, e)))
      ∙ ap (λ (fs : List Finding).
      record {
        kept =
            check_between (after_primitive w h c) outer (with_contents_found w h c n fs);
        level =
            length outer;
        offset = h.offset;
        findings = with_order_if (is_primitive_found h c n) fs;
      })
      (contents_findings-at_end wanted h c e)
