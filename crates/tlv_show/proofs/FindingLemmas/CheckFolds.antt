-- What a check makes of the events of elements is their findings' lines, and their number.
use Rattle.std.proofs.Common.{◌≡◌, ℕ, ◌+◌, ◌-◌, ◌*◌, ◌^◌, ◌≤◌, ◌==◌, Bool, true, false, if◌then◌else◌, List, [], ◌∷◌}
use Rattle.std.proofs.Common.{◌++◌, length, refl, sym, ap, ◌∙◌, arith, length-append, nat_le}
use Rattle.std.proofs.lemmas.Bool.Decides.{nat_tests}
use Rattle.std.proofs.lemmas.Grind.{flat_map-append}
use Rattle.std.proofs.lemmas.List.{length-map}
use Rattle.std.proofs.lemmas.List.Elements.{filter-append}
use Rattle.std.proofs.lemmas.List.Sums.{length-filter}
use Rattle.std.specs.List.{filter}
use Rattle.std.specs.Prelude.{flat_map, Option, Some, None}
use Rattle.tlv_head.specs.Header.{HeaderValue, is_universal, octets_of}
use Rattle.tlv_value.specs.declared.finding.Finding.{Finding}
use Rattle.tlv_value.specs.Checks.{findings_by}
use Rattle.tlv_value.specs.AllChecks.{type_conditions}
use Rattle.tlv_walk.specs.declared.follow.Go.TheVariants as go
use Rattle.tlv_walk.specs.declared.framing.Framing.{Framing}
use Rattle.tlv_walk.specs.Events.{Begin, Bytes, Close, End, Enter, EventValue, Leave, Open, Pad, Unused}
use Rattle.tlv_walk.specs.Forest.{end_octets_offset}
use Rattle.tlv_walk.specs.Events.{events}
use Rattle.tlv_walk.specs.Follow.{Effect, effect_if_more, effect_of}
use Rattle.tlv_walk.specs.Forest.{Forest, NoMore, PaddingOctet, Primitive, Holder, OpenPrimitive, OpenHolder}
use Rattle.tlv_walk.specs.Forest.{OpenBitString, OpenHeader, OpenEndOctets, holder_extent, opening, spelling}
use Rattle.tlv_walk.specs.Place.{ObeysGrammar, Place, place_after, place_of_children, top_place}
use Rattle.tlv_walk.specs.Reading.{IsReading}
use Rattle.tlv_head.proofs.ReaderLemmas.Prefix.{header-two}
use Rattle.tlv_walk.proofs.GrammarLemmas.Spellings.{length-holder, length-opening, length-primitive}
use Rattle.tlv_show.specs.declared.holder_frame.HolderFrame.{HolderFrame}
use Rattle.tlv_show.specs.declared.wanted.Wanted.{Wanted}
use Rattle.tlv_show.specs.declared.finding_lines.Style.TheVariants.{Check}
use Rattle.tlv_show.specs.WantedJobs.{check_job_with}
use Rattle.tlv_show.specs.CheckStep.{check_step}
use Rattle.tlv_show.specs.FindingLines.{styled_lines}
use Rattle.tlv_show.specs.AllConditions.{end_conditions, header_conditions}
use Rattle.tlv_show.specs.FinderState.{CheckState, FinderState, OpenPrimitiveState, finder_frame_end_step}
use Rattle.tlv_show.specs.FinderState.{finder_primitive_end_step, new_check, open_primitive_after}
use Rattle.tlv_show.specs.NestingState.{top_frame}
use Rattle.tlv_show.proofs.FindingLemmas.FinderStep.{finder_step}
use Rattle.tlv_show.specs.ShownFindings.{comes_after_order, contents_findings, end_findings, header_findings}
use Rattle.tlv_show.specs.ShownFindings.{held_findings, is_shown, last_findings, shown_findings, wanted_findings}
use Rattle.tlv_show.specs.ShownFindings.{wants_characters, wants_order, with_characters_if, with_order, with_order_if}
use Rattle.tlv_show.specs.Items.{ClosingLine, FindingAt, Item, OpenPrimitiveLines, OpeningLine, PaddingLine}
use Rattle.tlv_show.specs.Items.{PrimitiveLines, finding_items, items}
use Rattle.tlv_show.proofs.FindingLemmas.SiteWords.{contents_items, end_items, site_after_holder, site_after_padding}
use Rattle.tlv_show.proofs.FindingLemmas.SiteWords.{site_after_primitive}
use Rattle.tlv_show.specs.Conditions.{headers}
use Rattle.tlv_show.specs.Site.{Site, is_padding, site_of_children, top_site}
use Rattle.tlv_show.specs.Texts.{check_line, finding_count, is_finding}
use Rattle.std.proofs.Common.{◌&&◌}
use Rattle.std.specs.Option.{is_some}
use Rattle.tlv_show.proofs.SegmentLemmas.Seen.{top-seen}
use Rattle.tlv_value.specs.declared.finding.Finding.TheVariants.{S05}
use Rattle.tlv_show.specs.FinderState.{seen_after}
use Rattle.tlv_show.specs.SegmentCharacters.{has_wrong_characters}
use Rattle.tlv_show.specs.SetOrder.{Element, holder_element, is_out_of_order_at, primitive_element}
use Rattle.tlv_show.specs.FinderState.{new_seen}
use Rattle.tlv_show.proofs.FindingLemmas.CheckLaws.{step-is}
use Rattle.tlv_show.proofs.FindingLemmas.FinderItems.{finds_forest, only}
use Rattle.tlv_show.proofs.FindingLemmas.FinderSteps.{FinderRun, found_items, run_finder}
use Rattle.tlv_show.proofs.DumpLemmas.ShowJob.{Shower}
use Rattle.tlv_show.specs.SaturatingSum.{saturating_sum}
use Rattle.tlv_show.proofs.SaturatingSums.{sum-more, sum-none}

-- ---- lines

written-items : (level offset : ℕ) (fs : List Finding)
    → flat_map check_line (finding_items level offset fs) ≡ styled_lines Check level offset fs
written-items level offset [] = refl
written-items level offset (f ∷ fs) =
    ap (λ (l : List ℕ). check_line (FindingAt level offset f) ++ l) (written-items level offset fs)

-- what a check makes of events: what the finder reports of them, listed
abbrev pub listed_run : FinderRun → Effect CheckState
listed_run u = record { state = u.state; put = flat_map check_line u.put; goes = go.On }

pub followed-run : (s : CheckState) (es : List EventValue) → effect_of check_step s es ≡ listed_run (run_finder s es)
followed-run s [] = refl
followed-run s (e ∷ es) =
    let f : FinderState = finder_step s e in
    ap (λ (t : Effect CheckState). effect_if_more t.goes t (λ u. effect_of check_step u es)) (step-is s e)
    ∙ ap (λ (t : Effect CheckState). record t { put = styled_lines Check f.level f.offset f.findings ++ t.put })
    (followed-run f.kept es)
    ∙ ap (λ (l : List ℕ). record { state = (run_finder f.kept es).state; put = l; goes = go.On })
    (ap (λ (l : List ℕ). l ++ flat_map check_line (run_finder f.kept es).put)
    (sym (written-items f.level f.offset f.findings))
    ∙ sym (flat_map-append check_line (found_items f) (run_finder f.kept es).put))

pub only-written : (l : List Item) → flat_map check_line (only l) ≡ flat_map check_line l
only-written [] = refl
only-written (FindingAt level offset finding ∷ l) =
    ap (λ (t : List ℕ). check_line (FindingAt level offset finding) ++ t) (only-written l)
only-written (OpeningLine level h ∷ l) = only-written l
only-written (ClosingLine level offset ∷ l) = only-written l
only-written (PrimitiveLines level h c ∷ l) = only-written l
only-written (OpenPrimitiveLines level h c ∷ l) = only-written l
only-written (PaddingLine level offset ∷ l) = only-written l

-- ---- the count

either-count : (a b : CheckState) (k : Bool) → a.finding_count ≡ b.finding_count
    → (if k then b else a).finding_count ≡ a.finding_count
either-count a b true e = sym e
either-count a b false e = refl

by-primitive : (s : CheckState) (v : Option OpenPrimitiveState)
    → (finder_primitive_end_step s v).kept.finding_count
    ≡ saturating_sum s.finding_count (length (finder_primitive_end_step s v).findings)
by-primitive s None = sym (sum-none s.finding_count)
by-primitive s (Some v) = refl

by-frames : (s : CheckState) (has_end_octets : Bool) (outer : List HolderFrame)
    → (finder_frame_end_step s has_end_octets outer).kept.finding_count
    ≡ saturating_sum s.finding_count (length (finder_frame_end_step s has_end_octets outer).findings)
by-frames s has_end_octets [] = sym (sum-none s.finding_count)
by-frames s has_end_octets (w ∷ outer) = refl

-- an event's findings are counted
counted-one : (s : CheckState) (e : EventValue)
    → (finder_step s e).kept.finding_count ≡ saturating_sum s.finding_count (length (finder_step s e).findings)
counted-one s (Open h) = refl
counted-one s (Begin h) = refl
counted-one s (Bytes octets) =
    either-count
    (record s {
      open_primitive = open_primitive_after s.open_primitive octets;
      seen = seen_after s.wanted s.open_primitive s.seen octets;
    })
    s (length octets == 0)
    refl
    ∙ sym (sum-none s.finding_count)
counted-one s End = by-primitive s s.open_primitive
counted-one s (Close offset) = by-frames s (is_some offset) s.holders.outer
counted-one s (Enter h) = refl
counted-one s Unused = sym (sum-none s.finding_count)
counted-one s Leave = by-frames s false s.holders.outer
counted-one s (Pad octets) = sym (sum-none s.finding_count)

pub counted-all : (s : CheckState) (es : List EventValue)
    → (run_finder s es).state.finding_count ≡ saturating_sum s.finding_count (length (run_finder s es).put)
counted-all s [] = sym (sum-none s.finding_count)
counted-all s (e ∷ es) =
    let f : FinderState = finder_step s e in
    counted-all f.kept es
    ∙ ap (λ (n : ℕ). saturating_sum n (length (run_finder f.kept es).put)) (counted-one s e)
    ∙ sum-more s.finding_count (length f.findings) (length (run_finder f.kept es).put)
    ∙ ap (saturating_sum s.finding_count)
    (omega (
      arith,
      length-append (found_items f) (run_finder f.kept es).put,
      length-map f.findings (FindingAt f.level f.offset),
    ))

-- ---- no count stops

-- of each condition one finding at most
held-few : (wanted : Wanted) (rows : List (Finding × Bool))
    → length (filter (is_shown wanted) (findings_by rows)) ≤ length rows
held-few wanted [] = omega arith
held-few wanted (row ∷ rows) = let e = one-few row.1 (held-few wanted rows) in omega (arith, e)
  where
    kept-few : (k : Bool) (f : Finding) (l : List Finding) (n : ℕ) → length l ≤ n
        → length (if k then f ∷ l else l) ≤ n + 1
    kept-few true f l n e = omega (arith, e)
    kept-few false f l n e = omega (arith, e)

    one-few : (b : Bool) → length (filter (is_shown wanted) (findings_by rows)) ≤ length rows
        → length (filter (is_shown wanted) ((if b then row.0 ∷ [] else []) ++ findings_by rows)) ≤ length rows + 1
    one-few true e = kept-few (is_shown wanted row.0) row.0 (filter (is_shown wanted) (findings_by rows)) (length rows) e
    one-few false e = omega (arith, e)

one-more : (gs : List Finding) → length (with_order gs) ≡ length gs + 1
one-more [] = refl
one-more (g ∷ gs) = by-code (comes_after_order g) (one-more gs)
  where
    by-code : (k : Bool) → length (with_order gs) ≡ length gs + 1
        → length (if k then S05 ∷ g ∷ gs else g ∷ with_order gs) ≡ length (g ∷ gs) + 1
    by-code true r = omega arith
    by-code false r = omega (arith, r)

module _ (wanted : Wanted) where
  few-at : (level offset : ℕ) (fs : List Finding) (rest : List Item) (n m : ℕ) → length fs ≤ n
      → length (only rest) ≤ m → length (only (finding_items level offset fs ++ rest)) ≤ n + m
  few-at level offset [] rest n m e f = omega (arith, e, f)
  few-at level offset (x ∷ fs) rest n m e f =
      let g = few-after (few-at level offset fs rest (n - 1) m (omega (arith, e)) f) in omega (arith, g)
    where
      few-after : length (only (finding_items level offset fs ++ rest)) ≤ n - 1 + m
          → length (only (finding_items level offset fs ++ rest)) + 1 ≤ n + m
      few-after g = omega (arith, g, e)

  few-pads : (k : Bool) (level offset : ℕ) (l : List Item)
      → length (only ((if k then [] else PaddingLine level offset ∷ []) ++ l)) ≡ length (only l)
  few-pads true level offset l = refl
  few-pads false level offset l = refl

  few-rows : (rows : List (Finding × Bool)) (n : ℕ) → nat_le (length rows) n ≡ true
      → length (shown_findings wanted rows) ≤ n
  few-rows rows n few = let e = held-few wanted rows in grind (arith, nat_tests)

  few-header : (s : Site) (h : HeaderValue) → length (header_findings wanted s h) ≤ 20
  few-header s h = few-rows (header_conditions s h) 20 refl

  few-contents : (h : HeaderValue) (c : List ℕ) → length (contents_findings wanted h c) ≤ 40
  few-contents h c = by-class (is_universal h.class)
    where
      by-class : (universal : Bool)
          → length (shown_findings wanted (if universal then type_conditions h.number c else [])) ≤ 40
      by-class true = few-rows (type_conditions h.number c) 40 refl
      by-class false = omega arith

  few-last : (s : Site) (e : Element) (fs : List Finding) (n : ℕ) → length fs ≤ n
      → length (last_findings wanted s e fs) ≤ n + 1
  few-last s e fs n few = by (wants_order wanted && is_out_of_order_at wanted.rules s e)
    where
      by : (k : Bool) → length (with_order_if k fs) ≤ n + 1
      by true = let r = one-more fs in omega (arith, r, few)
      by false = omega (arith, few)

  few-end : (h : HeaderValue) (inside : Forest) → length (end_findings wanted h (headers inside)) ≤ 9
  few-end h inside = few-rows (end_conditions h (headers inside)) 9 refl

  few-held : (h : HeaderValue) (inside : Forest) → length (held_findings wanted h inside) ≤ 10
  few-held h inside = by (wants_characters wanted && has_wrong_characters h inside)
    where
      by : (k : Bool) → length (with_characters_if k (end_findings wanted h (headers inside))) ≤ 10
      by true = omega (arith, few-end h inside)
      by false = omega (arith, few-end h inside)

  -- at most 64 findings for each octet
  pub findings-within : (p : Place) (s : Site) (f : Forest) → ObeysGrammar p f
      → length (only (items (wanted_findings wanted) s f)) ≤ 64 * length (spelling f)
  findings-within p s NoMore v = omega arith
  findings-within p s (PaddingOctet rest) v =
      omega (
        arith,
        few-pads (is_padding s.previous) s.depth s.offset (items (wanted_findings wanted) (site_after_padding s) rest),
        findings-within (place_after p 1) (site_after_padding s) rest v.1,
      )
  findings-within p s (Primitive h c rest) v =
      let r = findings-within (place_after p (length (octets_of h) + length c)) (site_after_primitive s h c) rest v.1 in
      let inner : List Item =
      contents_items (wanted_findings wanted) s h c ++ items (wanted_findings wanted) (site_after_primitive s h c) rest in
      let b =
      few-at s.depth h.offset (last_findings wanted s (primitive_element h c) (contents_findings wanted h c))
      (items (wanted_findings wanted) (site_after_primitive s h c) rest) 41
      _ (few-last s (primitive_element h c) (contents_findings wanted h c) 40 (few-contents h c)) r in
      let a =
      few-at s.depth h.offset (header_findings wanted s h) (PrimitiveLines s.depth h c ∷ inner)
      20 _ (few-header s h) b in
      omega (arith, a, header-two h v.0.0.header.valid, length-primitive h c rest)
  findings-within p s (Holder h inside rest) v =
      let i = findings-within (place_of_children p h) (site_of_children s h) inside v.1 in
      let r = findings-within (place_after p (holder_extent h inside)) (site_after_holder s h inside) rest v.2 in
      let last : List Item =
      end_items (wanted_findings wanted) s h inside ++ items (wanted_findings wanted) (site_after_holder s h inside) rest in
      let b =
      few-at s.depth h.offset (last_findings wanted s (holder_element h inside) (held_findings wanted h inside))
      (items (wanted_findings wanted) (site_after_holder s h inside) rest) 11
      _ (few-last s (holder_element h inside) (held_findings wanted h inside) 10 (few-held h inside)) r in
      let m =
      few-both (items (wanted_findings wanted) (site_of_children s h) inside)
      (ClosingLine s.depth (end_octets_offset h inside) ∷ last) _ _ i b in
      let a =
      few-at s.depth h.offset (header_findings wanted s h)
      (OpeningLine s.depth h
      ∷ (items (wanted_findings wanted) (site_of_children s h) inside
      ++ ClosingLine s.depth (end_octets_offset h inside) ∷ last))
      20 _ (few-header s h) m in
      omega (arith, a, header-two h v.0.0.header.valid, length-holder h inside rest, length-opening h)
    where
      few-both : (xs ys : List Item) (n m : ℕ) → length (only xs) ≤ n → length (only ys) ≤ m
          → length (only (xs ++ ys)) ≤ n + m
      few-both xs ys n m e f =
          omega (arith, e, f, ap length (filter-append is_finding xs ys), length-append (only xs) (only ys))
  findings-within p s (OpenPrimitive h c) v =
      let a =
      few-at s.depth h.offset (header_findings wanted s h) (OpenPrimitiveLines s.depth h c ∷ [])
      20 0 (few-header s h) (omega arith) in
      omega (arith, a, header-two h v.0.header.valid, length-append (octets_of h) c)
  findings-within p s (OpenHolder h inside) v =
      let i = findings-within (place_of_children p h) (site_of_children s h) inside v.1 in
      let a =
      few-at s.depth h.offset (header_findings wanted s h)
      (OpeningLine s.depth h ∷ items (wanted_findings wanted) (site_of_children s h) inside) 20 _ (few-header s h) i in
      omega
      (arith, a, header-two h v.0.0.header.valid, length-append (opening h) (spelling inside), length-opening h)
  findings-within p s (OpenBitString h) v =
      let a =
      few-at s.depth h.offset (header_findings wanted s h) (OpeningLine s.depth h ∷ []) 20 0
      (few-header s h) (omega arith) in
      omega (arith, a, header-two h v.0.header.valid)
  findings-within p s (OpenHeader octets) v = omega arith
  findings-within p s OpenEndOctets v = omega arith

  -- ---- a check

  abbrev start : CheckState
  start = new_check wanted

  module _ (framing : Framing) (octets : List ℕ) (f : Forest) (short : length octets ≤ 2 ^ 40)
      (r : IsReading framing octets f) where
    put-is : (run_finder start (events f)).put ≡ only (items (wanted_findings wanted) top_site f)
    put-is =
        (finds_forest wanted (top_place framing) top_site top_frame [] f r.obeys_grammar refl refl refl
        (λ e. refl)).put (record { count = 0; seen = new_seen })
        (top-seen wanted)

    pub text-made : (effect_of check_step start (events f)).put ≡ (check_job_with wanted framing).text f
    text-made =
        ap (λ (t : Effect CheckState). t.put) (followed-run start (events f)) ∙ ap (flat_map check_line) put-is
        ∙ only-written (items (wanted_findings wanted) top_site f)

    pub count-run : (run_finder start (events f)).state.finding_count ≡ finding_count (wanted_findings wanted) f
    count-run =
        let n = length-filter is_finding (items (wanted_findings wanted) top_site f) in
        counted-all start (events f)
        ∙ ap (λ (l : List Item). saturating_sum 0 (length l)) put-is
        ∙ omega (
          arith,
          findings-within (top_place framing) top_site f r.obeys_grammar,
          short,
          n,
          ap length r.is_prefix.1,
          length-append (spelling f) r.is_prefix.0,
        )

    pub count-made : (effect_of check_step start (events f)).state.finding_count ≡ finding_count (wanted_findings wanted) f
    count-made = ap (λ (t : Effect CheckState). t.state.finding_count) (followed-run start (events f)) ∙ count-run

-- a check always wants more
pub all_on : (s : CheckState) (es : List EventValue) → (effect_of check_step s es).goes ≡ go.On
all_on s es = ap (λ (t : Effect CheckState). t.goes) (followed-run s es)

pub check-shows : (wanted : Wanted) (framing : Framing)
    → Shower check_step (new_check wanted) wanted framing check_line (λ (s : CheckState). s.finding_count)
check-shows wanted framing = record {
  goes_on = all_on;
  put = λ octets f few r. text-made wanted framing octets f few r;
  counts = λ octets f few r. count-made wanted framing octets f few r;
}
