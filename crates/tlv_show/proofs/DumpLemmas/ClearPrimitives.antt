-- A primitive with which nothing is found: what a finder and a check make of it at once.
use Rattle.std.proofs.lemmas.Bool.{not-true}
use Rattle.std.proofs.Common.{subst, ap₂, rules, ◌≡◌, Bool, false, true, ℕ, List, [], ◌∷◌, length, sym, ap, ◌∙◌}
use Rattle.std.specs.Prelude.{None, Ok, ◌&&◌, ◌||◌, not}
use Rattle.std.specs.List.{filter}
use Rattle.tlv_head.specs.Header.{HasAllContents, HeaderValue, is_universal}
use Rattle.tlv_value.specs.declared.finding.Finding.{Finding}
use Rattle.tlv_value.specs.AllChecks.{all_contents_findings}
use Rattle.tlv_head.specs.Lists.{is_among}
use Rattle.tlv_value.specs.Types.{has_encodings, has_primitives, is_string, is_unassigned}
use Rattle.tlv_head.specs.declared.type_table.Encodings.TheVariants as encodings
use Rattle.tlv_walk.specs.declared.follow.Go.TheVariants as go
use Rattle.tlv_io.specs.declared.out.Out.{Out}
use Rattle.tlv_io.specs.Device.{DrainState}
use Rattle.tlv_walk.specs.Events.{Bytes, End}
use Rattle.tlv_walk.specs.Follow.{Effect, contents_in, effect_if_more, effect_of, no_effect}
use Rattle.tlv_walk.proofs.FollowerLemmas.WholeResults.{HasEffectOrNone}
use Rattle.tlv_walk.specs.Follow.{whole_events}
use Rattle.tlv_walk.proofs.FollowerLemmas.FollowedEvents.{followed-one}
use Rattle.tlv_io.proofs.Puts.{puts_nothing, puts_text}
use Rattle.tlv_show.specs.FinderState.{is_misplaced}
use Rattle.tlv_show.specs.Private.SetOrder.{IsUnchangedByPrimitives}
use Rattle.tlv_show.specs.FinderState.{SeenState}
use Rattle.tlv_show.specs.ShownFindings.{contents_findings, is_shown, wants_characters, wants_order, with_order_if}
use Rattle.tlv_show.proofs.SetOrderLemmas.WantedOrder.{none-passed}
use Rattle.tlv_show.proofs.SegmentLemmas.Seen.{seen_whole, whole-same}
use Rattle.tlv_show.specs.Private.SegmentCharacters.{StayAtPrimitives}
use Rattle.tlv_show.specs.declared.holder_frame.HolderFrame.{HolderFrame}
use Rattle.tlv_show.specs.declared.finding_lines.Style.TheVariants.{Check}
use Rattle.tlv_show.specs.CheckStep.{check_step, findings_effect}
use Rattle.tlv_show.specs.FindingLines.{styled_lines}
use Rattle.tlv_show.specs.FinderState.{CheckState, FinderState, finder_begin_step, finder_bytes_step}
use Rattle.tlv_show.specs.AllConditions.{component_types, is_time_or_iri}
use Rattle.tlv_show.specs.NestingState.{NestingState, depth_in, surroundings_in, with_element}
use Rattle.tlv_show.specs.Private.Nesting.{nesting_with_element}
use Rattle.tlv_show.specs.Private.FinderState.{PassesOrStays, PassesPrimitive, finder_whole_step, with_check_state}
use Rattle.tlv_show.specs.Private.UsualTypes.{IsUsual}
use Rattle.tlv_show.specs.KeptConditions.{header_findings_in}
use Rattle.tlv_show.proofs.FindingLemmas.CheckLaws.{each-found}
use Rattle.tlv_show.proofs.FindingLemmas.FinderSteps.{after_primitive, primitive-find, check_between}
use Rattle.tlv_show.specs.SaturatingSum.{saturating_sum}
use Rattle.tlv_show.proofs.SaturatingSums.{sum-none}
use Rattle.tlv_show.proofs.FindingLemmas.FramesAfter.{outside}

-- ---- a finder

pub usual_primitive : (h : HeaderValue) → h.constructed ≡ false → has_primitives h ≡ true → IsUsual h
usual_primitive h primitive primitives =
    let form : (is_unassigned h || has_encodings encodings.Constructed h) ≡ false = not-true _ primitives in
    record {
      assigned = search (rules, form);
      primitive_if_always = ap (λ (b : Bool). b && has_encodings encodings.Primitive h) primitive;
      constructed_if_always =
          ap (λ (b : Bool). not b && has_encodings encodings.Constructed h) primitive ∙ search (rules, form);
      primitive_if_late = ap (λ (b : Bool). b && is_time_or_iri h) primitive;
      no_segments = ap (λ (b : Bool). b && is_string h) primitive;
      no_components =
          ap (λ (b : Bool). b && is_universal h.class && is_among h.number component_types) primitive;
    }

-- after a primitive with which nothing is found, outside of strings
abbrev without_primitive : CheckState → CheckState
without_primitive s = record s { holders = nesting_with_element s.holders; open_primitive = None }

pub whole_step-clear : (s : CheckState) (h : HeaderValue) (c : List ℕ) → HasAllContents h c
    → s.holders.frame.has_segments ≡ false
    → header_findings_in s.wanted (surroundings_in s.holders.frame) h ≡ [] → all_contents_findings h c ≡ []
    → (wants_order s.wanted ≡ true → IsUnchangedByPrimitives s.seen.order)
    → (wants_characters s.wanted ≡ true → StayAtPrimitives s.seen.strings)
    → finder_whole_step s h c ≡ record {
      kept = without_primitive s;
      level = depth_in s.holders;
      offset = h.offset;
      findings = [];
    }
whole_step-clear s h c size w header contents in_order in_strings =
    let made_with : SeenState → Bool → HolderFrame → ℕ → List Finding → FinderState =
    λ (o : SeenState) (b : Bool) (f : HolderFrame) (n : ℕ) (fs : List Finding). record {
      kept =
          check_between s.wanted f s.holders.outer
          (record { count = saturating_sum n (length (with_order_if b fs)); seen = o });
      level = depth_in s.holders;
      offset = h.offset;
      findings = with_order_if b fs;
    } in
    let made : HolderFrame → ℕ → List Finding → FinderState = made_with s.seen false in
    let o : SeenState = seen_whole s.wanted s.seen h c in
    let same : o ≡ s.seen = whole-same s.wanted s.seen h c in_order in_strings in
    let none : is_misplaced s.wanted o ≡ false =
    ap (is_misplaced s.wanted) same ∙ none-passed s.wanted s.seen.order in_order in
    primitive-find s.wanted s.holders.frame s.holders.outer (record { count = s.finding_count; seen = s.seen }) h c size
    ∙ ap₂ (λ (u : SeenState) (b : Bool). made_with u b (after_primitive s.wanted s.holders.frame h c)
    (saturating_sum s.finding_count (length (header_findings_in s.wanted (surroundings_in s.holders.frame) h)))
    (contents_findings s.wanted h c))
    same none
    ∙ ap (λ (fs : List Finding). made (after_primitive s.wanted s.holders.frame h c)
    (saturating_sum s.finding_count (length (header_findings_in s.wanted (surroundings_in s.holders.frame) h)))
    (filter (is_shown s.wanted) fs))
    contents
    ∙ ap (λ (fs : List Finding). made (after_primitive s.wanted s.holders.frame h c)
    (saturating_sum s.finding_count (length fs)) [])
    header
    ∙ ap (λ (f : HolderFrame). made f (saturating_sum s.finding_count 0) [])
    (outside (with_element s.holders.frame) true _ _ w)
    ∙ ap (λ (n : ℕ).
    record {
      kept =
          check_between s.wanted (with_element s.holders.frame) s.holders.outer
          (record { count = n; seen = s.seen });
      level =
          depth_in s.holders;
      offset = h.offset;
      findings = [];
    })
    (sum-none (saturating_sum s.finding_count 0) ∙ sum-none s.finding_count)

pub passes_primitive-clear : (old new : FinderState) (h : HeaderValue) (c : List ℕ) → HasAllContents h c
    → old.kept.holders.frame.has_segments ≡ false
    → header_findings_in old.kept.wanted (surroundings_in old.kept.holders.frame) h ≡ [] → all_contents_findings h c ≡ []
    → (wants_order old.kept.wanted ≡ true → IsUnchangedByPrimitives old.kept.seen.order)
    → (wants_characters old.kept.wanted ≡ true → StayAtPrimitives old.kept.seen.strings)
    → new ≡ with_check_state (without_primitive old.kept) old → PassesPrimitive old new h c
passes_primitive-clear old new h c size w header contents in_order in_strings e =
    let all = whole_step-clear old.kept h c size w header contents in_order in_strings in
    record {
      begins = header;
      ends = ap (λ (f : FinderState). f.findings) all;
      kept = e ∙ ap (λ (f : FinderState). with_check_state f.kept old) (sym all);
    }

-- an element that holds others, with whose header nothing is found
pub opens-clear : (s : CheckState) (holders : NestingState) (seen : SeenState) (fs : List Finding) → fs ≡ []
    → (record s { holders = holders; seen = seen }
    ≡ record s { holders = holders; seen = seen; finding_count = saturating_sum s.finding_count (length fs) })
    × (fs ≡ [])
opens-clear s holders seen fs e = (
  ap (λ (n : ℕ). record s { holders = holders; seen = seen; finding_count = n }) (sym (sum-none s.finding_count))
      ∙ ap (λ (l : List Finding).
      record s { holders = holders; seen = seen; finding_count = saturating_sum s.finding_count (length l) })
      (sym e),
  e,
)

-- ---- a check

lists-none : (f : FinderState) → f.findings ≡ [] → findings_effect f ≡ no_effect f.kept
lists-none f e =
    ap (λ (l : List Finding). record { state = f.kept; put = styled_lines Check f.level f.offset l; goes = go.On }) e

whole-checked : (s : CheckState) (h : HeaderValue) (o : List ℕ) → (finder_begin_step s h).findings ≡ []
    → (finder_whole_step s h (contents_in h o)).findings ≡ []
    → effect_of check_step s (whole_events h o) ≡ no_effect (finder_whole_step s h (contents_in h o)).kept
whole-checked s h o begins ends =
    let c : List ℕ = contents_in h o in
    let t : CheckState = (finder_begin_step s h).kept in
    ap (λ (k : Effect CheckState). effect_if_more k.goes k (λ u. effect_of check_step u (Bytes c ∷ End ∷ [])))
    (lists-none (finder_begin_step s h) begins)
    ∙ ap (λ (k : Effect CheckState). effect_if_more k.goes k (λ u. effect_of check_step u (End ∷ []))) (each-found t c)
    ∙ followed-one check_step (finder_bytes_step t c) End
    ∙ lists-none (finder_whole_step s h c) ends

pub has_checked_whole : {D : Type 0} (state_of : D → DrainState) (a : Out D) (s t : CheckState) (old new : FinderState)
    (h : HeaderValue) (o c : List ℕ) (x : Bool)
    → s ≡ old.kept → t ≡ new.kept → c ≡ contents_in h o → PassesOrStays old new h c x
    → HasEffectOrNone state_of (effect_of check_step s (whole_events h o)) a a s t (Ok x)
has_checked_whole state_of a s t old new h o c false e f same p =
    (puts_nothing state_of a false, f ∙ ap (λ (u : FinderState). u.kept) p ∙ sym e)
has_checked_whole state_of a s t old new h o c true e f same q =
    let p = subst (λ (l : List ℕ). PassesPrimitive old new h l) same q in
    let all = whole-checked old.kept h o p.begins p.ends in
    rw (e, f) (
      record {
        puts = puts_text state_of a a [] _ (Ok true) (sym (ap (λ (k : Effect CheckState). k.put) all))
            (puts_nothing state_of a true);
        state = ap (λ (u : FinderState). u.kept) p.kept ∙ sym (ap (λ (k : Effect CheckState). k.state) all);
      },
      ap (λ (k : Effect CheckState). k.goes) all,
    )
