-- What a dump makes of the events of one element, by its lines and by its findings.
use Rattle.std.proofs.Common.{◌≡◌, ◌-◌, ℕ, Bool, true, false, if◌then◌else◌, List, [], ◌∷◌, ◌++◌, length, map, refl, sym, ap}
use Rattle.std.proofs.Common.{ap₂, ◌∙◌, append_assoc, append-nil}
use Rattle.std.specs.Prelude.{Option, Some, None}
use Rattle.std.specs.Option.{is_some}
use Rattle.std.specs.Prelude.{◌&&◌}
use Rattle.tlv_head.specs.Header.{HeaderValue}
use Rattle.tlv_value.specs.declared.layout.Layout.{Layout}
use Rattle.tlv_walk.specs.Events.{Begin, Bytes, Close, End, Enter, EventValue, Leave, Open, Unused}
use Rattle.tlv_walk.specs.Follow.{Effect, and_then, each_octet, effect_if_more, effect_of, effect_with}
use Rattle.tlv_walk.proofs.FollowerLemmas.FollowedEvents.{followed-more}
use Rattle.tlv_show.specs.declared.finding_lines.Style.TheVariants.{Dump}
use Rattle.tlv_show.specs.FindingLines.{last_finding_lines}
use Rattle.tlv_show.specs.LinesStep.{LinesState, lines_octet_step, lines_step, lines_after_header}
use Rattle.tlv_show.specs.DumpStep.{DumpState, dump_step, level_in}
use Rattle.tlv_show.specs.FinderState.{CheckState, FinderState, finder_begin_step, finder_bytes_step}
use Rattle.tlv_show.specs.FinderState.{finder_close_step, finder_end_step, finder_open_step}
use Rattle.tlv_show.specs.Laws.{PrimitivesAreShown}
use Rattle.tlv_show.specs.NestingState.{depth_in}
use Rattle.tlv_show.specs.Texts.{layout_at}
use Rattle.tlv_show.specs.LinesStep.{open_text_after, open_text_lines}
use Rattle.tlv_show.proofs.DumpLemmas.OctetPieces.{dumped_bytes, of_bytes, rested-new}
use Rattle.tlv_show.proofs.DumpLemmas.DumpSteps.{all_on, each-shown}
use Rattle.tlv_show.proofs.DumpLemmas.DumpTexts.{primitives_shown}
use Rattle.tlv_show.proofs.FindingLemmas.FinderSteps.{primitive-found}
use Rattle.tlv_show.specs.SaturatingSum.{saturating_sum}
use Rattle.tlv_walk.proofs.GrammarLemmas.Leads.{lead_by}

-- ---- events one after another

abbrev pub dump_state : LinesState → CheckState → DumpState
dump_state l f = record { lines = l; finder = f }

shown-more : (s : DumpState) (xs ys : List EventValue)
    → effect_of dump_step s (xs ++ ys) ≡ and_then (effect_of dump_step s xs) (λ u. effect_of dump_step u ys)
shown-more s xs ys = followed-more dump_step s xs ys (all_on s xs)

pub then_shown : (s t : DumpState) (put : List ℕ) (xs ys : List EventValue)
    → effect_of dump_step s xs ≡ effect_with t put
    → effect_of dump_step s (xs ++ ys)
    ≡ record (effect_of dump_step t ys) { put = put ++ (effect_of dump_step t ys).put }
then_shown s t put xs ys e =
    shown-more s xs ys ∙ ap (λ (k : Effect DumpState). and_then k (λ u. effect_of dump_step u ys)) e

-- the lines of what is found, as a dump in this layout puts them
abbrev pub texts : Layout → FinderState → List ℕ
texts layout f = last_finding_lines (Dump layout.pure) f

-- ---- an element that holds others

pub opens-by : (l : LinesState) (s : CheckState) (h : HeaderValue) (k three : Bool)
    → effect_of dump_step (dump_state l s)
    ((if k then Open h else Enter h) ∷ map (λ z. Unused) (lead_by k three))
    ≡ (let d =
    effect_of (lines_step (depth_in s.holders)) l
    ((if k then Open h else Enter h)
    ∷ map (λ z. Unused) (lead_by k three)) in
    effect_with (dump_state d.state (finder_open_step s h).kept) (texts l.layout (finder_open_step s h) ++ d.put))
opens-by l s h true three =
    ap (effect_with _) (append_assoc (texts l.layout (finder_open_step s h)) (lines_step (depth_in s.holders) l (Open h)).put [])
opens-by l s h false true =
    ap (effect_with _) (append_assoc (texts l.layout (finder_open_step s h)) (lines_step (depth_in s.holders) l (Enter h)).put [])
opens-by l s h false false =
    ap (effect_with _) (append_assoc (texts l.layout (finder_open_step s h)) (lines_step (depth_in s.holders) l (Enter h)).put [])

regroup_two : (a b : List ℕ) → (a ++ b) ++ [] ≡ (a ++ []) ++ b
regroup_two a b = append-nil (a ++ b) ∙ ap (λ (x : List ℕ). x ++ b) (sym (append-nil a))

pub closes-by : (l : LinesState) (s : CheckState) (offset : Option ℕ) (k : Bool)
    → effect_of dump_step (dump_state l s) ((if k then Close offset else Leave) ∷ [])
    ≡ (let d = effect_of (lines_step (depth_in s.holders - 1)) l ((if k then Close offset else Leave) ∷ []) in
    let f = finder_close_step s (k && is_some offset) in
    effect_with (dump_state d.state f.kept) (d.put ++ texts l.layout f))
closes-by l s None true =
    ap (effect_with _) (regroup_two (lines_step (depth_in s.holders - 1) l (Close None)).put (texts l.layout (finder_close_step s false)))
closes-by l s (Some offset) true =
    ap (effect_with _) (regroup_two (lines_step (depth_in s.holders - 1) l (Close (Some offset))).put
    (texts l.layout (finder_close_step s true)))
closes-by l s offset false =
    ap (effect_with _) (regroup_two (lines_step (depth_in s.holders - 1) l Leave).put (texts l.layout (finder_close_step s false)))

-- ---- a primitive

regroup_four : (a b m e t : List ℕ) → (a ++ b) ++ (m ++ ((e ++ t) ++ [])) ≡ a ++ ((b ++ (m ++ (e ++ []))) ++ t)
regroup_four a b m e t = simp (append_assoc, append-nil)

pub primitive-by : (l : LinesState) (s : CheckState) (h : HeaderValue) (c : List ℕ)
    → effect_of dump_step (dump_state l s) (Begin h ∷ Bytes c ∷ End ∷ [])
    ≡ (let d = effect_of (lines_step (depth_in s.holders)) l (Begin h ∷ Bytes c ∷ End ∷ []) in
    let f = finder_end_step (finder_bytes_step (finder_begin_step s h).kept c) in
    effect_with (dump_state d.state f.kept) (texts l.layout (finder_begin_step s h) ++ (d.put ++ texts l.layout f)))
primitive-by l s h c =
    let b = lines_step (depth_in s.holders) l (Begin h) in
    let m = each_octet lines_octet_step b.state c in
    let e = lines_step (depth_in s.holders) m.state End in
    let u : CheckState = finder_bytes_step (finder_begin_step s h).kept c in
    let f = finder_end_step u in
    let first = texts l.layout (finder_begin_step s h) in
    let whole : Effect LinesState
    → Effect DumpState =
    λ k. effect_with (dump_state (lines_step (depth_in s.holders) k.state End).state f.kept)
    ((first ++ b.put) ++ (k.put ++ (((lines_step (depth_in s.holders) k.state End).put ++ texts k.state.layout f) ++ []))) in
    let parts : Effect LinesState → Effect DumpState =
    λ k. let d =
    and_then b (λ z. effect_if_more k.goes k (λ w. effect_of (lines_step (depth_in s.holders)) w (End ∷ []))) in effect_with
    (dump_state d.state f.kept) (first ++ (d.put ++ texts l.layout f)) in
    let o : Effect LinesState =
    of_bytes b.state (saturating_sum b.state.offset (length c)) (open_text_after b.state.open_text c)
    (open_text_lines b.state.open_text c) in
    let is : m ≡ o = dumped_bytes b.state c (λ e. rested-new l.with_text h (layout_at l.layout (depth_in s.holders))) in
    ap (λ (k : Effect DumpState). record {
      state = (effect_if_more k.goes k (λ w. effect_of dump_step w (End ∷ []))).state;
      put = (first ++ b.put) ++ (effect_if_more k.goes k (λ w. effect_of dump_step w (End ∷ []))).put;
      goes = (effect_if_more k.goes k (λ w. effect_of dump_step w (End ∷ []))).goes;
    })
    (each-shown (dump_state b.state (finder_begin_step s h).kept) c)
    ∙ ap whole is
    ∙ ap (effect_with (dump_state (lines_step (depth_in s.holders) o.state End).state f.kept))
    (regroup_four first b.put o.put (lines_step (depth_in s.holders) o.state End).put (texts l.layout f))
    ∙ sym (ap parts is)

pub primitives_are_shown : PrimitivesAreShown
primitives_are_shown s h c size =
    let d = primitives_shown (level_in s) s.lines h c size in
    let f = primitive-found s.finder h c size in
    let l : LinesState =
    record (lines_after_header s.lines h)
    { offset = saturating_sum (lines_after_header s.lines h).offset (length c); open_text = None } in (
      dump_state l f.0,
      refl,
      f.1,
      primitive-by s.lines s.finder h c
          ∙ ap₂
          (λ (d : Effect LinesState) (f : FinderState). effect_with (dump_state d.state f.kept)
          (texts s.lines.layout (finder_begin_step s.finder h) ++ (d.put ++ texts s.lines.layout f)))
          d f.2,
    )

-- a primitive that is open
pub part-by : (l : LinesState) (s : CheckState) (h : HeaderValue) (c : List ℕ)
    → (effect_of dump_step (dump_state l s) (Begin h ∷ Bytes c ∷ [])).put
    ≡ texts l.layout (finder_begin_step s h) ++ (effect_of (lines_step (depth_in s.holders)) l (Begin h ∷ Bytes c ∷ [])).put
part-by l s h c =
    let b = lines_step (depth_in s.holders) l (Begin h) in
    let m = each_octet lines_octet_step b.state c in
    let first = texts l.layout (finder_begin_step s h) in
    let o : Effect LinesState =
    of_bytes b.state (saturating_sum b.state.offset (length c)) (open_text_after b.state.open_text c)
    (open_text_lines b.state.open_text c) in
    let is : m ≡ o = dumped_bytes b.state c (λ e. rested-new l.with_text h (layout_at l.layout (depth_in s.holders))) in
    ap (λ (k : Effect DumpState). (first ++ b.put) ++ (effect_if_more k.goes k (λ w. effect_of dump_step w [])).put)
    (each-shown (dump_state b.state (finder_begin_step s h).kept) c)
    ∙ append_assoc first b.put (m.put ++ [])
    ∙ ap (λ (k : Effect LinesState). first ++ (b.put ++ (k.put ++ []))) is
    ∙ sym (ap
    (λ (k : Effect LinesState). first
    ++ (and_then b (λ z. effect_if_more k.goes k (λ w. effect_of (lines_step (depth_in s.holders)) w []))).put)
    is)
