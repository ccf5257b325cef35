-- What a finder returns at the end of an element that holds others.
use Rattle.std.proofs.Common.{◌≡◌, ℕ, ◌||◌, Bool, true, false, if◌then◌else◌, List, [], ◌∷◌, length, refl, sym, subst, ap}
use Rattle.std.proofs.Common.{◌∙◌, ◌≢◌, ◌&&◌, ap₂, nat_le}
use Rattle.std.specs.Prelude.{Option, Some, None}
use Rattle.std.specs.Option.{is_some, unwrap_or}
use Rattle.tlv_value.specs.declared.finding.Finding.{Finding}
use Rattle.tlv_value.specs.declared.finding.Finding.TheVariants.{B27, C05, C06}
use Rattle.tlv_show.specs.declared.wanted.Wanted.{Wanted}
use Rattle.tlv_show.specs.SaturatingSum.{saturating_sum}
use Rattle.tlv_show.proofs.SaturatingSums.{sum-none}
use Rattle.tlv_show.specs.declared.holder_frame.HolderFrame.{HolderFrame}
use Rattle.tlv_show.specs.FinderState.{CheckState, FinderState, SeenState, end_findings_with, offset_at_end}
use Rattle.tlv_show.specs.FinderState.{finder_close_step, finder_frame_end_step, is_misplaced, seen_closed, string_found}
use Rattle.tlv_show.specs.FinderState.{with_findings, without_findings}
use Rattle.tlv_show.specs.KeptConditions.{end_findings_in}
use Rattle.tlv_show.specs.NestingState.{NestingState, depth_in, nesting_around, nesting_close_step, segments_in, top_frame}
use Rattle.tlv_show.specs.Private.FinderState.{ReturnsFindings}
use Rattle.tlv_show.specs.Private.Nesting.{closed_frame, closed_frame_inside}
use Rattle.tlv_show.specs.ShownFindings.{shown_findings, with_characters_if, with_order_if}

judged-is : (k : Bool) (w closed : HolderFrame) → Some closed ≡ (if k then Some w else None) → closed ≡ w
judged-is true w closed e = ap (λ (o : Option HolderFrame). unwrap_or o w) e
judged-is false w closed e = absurd (cc (e))

judged-none : (k : Bool) (w : HolderFrame) → None ≡ (if k then Some w else None) → k ≡ false
judged-none true w e = absurd (cc (e))
judged-none false w e = refl

-- with an end nothing is found, if nothing is kept that is judged
none-judged : (wanted : Wanted) (w : HolderFrame) → (w.has_segments || w.lacks_components) ≡ false
    → end_findings_in wanted (segments_in w) ≡ []
none-judged wanted w e = by w.has_segments w.lacks_components e
  where
    by : (c a : Bool) → (c || a) ≡ false
        → shown_findings wanted
        ((B27, a)
        ∷ (C05, c && w.all_primitive && nat_le (segments_in w).length_as_primitive 1000)
        ∷ (C06, c && w.ends_empty)
        ∷ [])
        ≡ []
    by false false e = refl
    by true a e = absurd (cc (e))
    by false true e = absurd (cc (e))

in_order : (k : Bool) (o : Option ℕ) → (k || is_some o) ≡ false → k ≡ false
in_order true o e = absurd (cc (e))
in_order false o e = refl

no_string : (k : Bool) (o : Option ℕ) → (k || is_some o) ≡ false → o ≡ None
no_string true o e = absurd (cc (e))
no_string false (Some offset) e = absurd (cc (e))
no_string false None e = refl

-- with the findings of a frame
abbrev pub ended_with : CheckState → NestingState → ℕ → SeenState → Bool → Option ℕ → HolderFrame → FinderState
ended_with s holders level seen k string w =
    with_findings (record s { holders = holders; seen = seen }) level (offset_at_end k seen.order string w)
    (end_findings_with s.wanted k string w)

-- what is kept after the end, and found with it
pub record IsClosed (s : CheckState) (b : Bool) (holders : NestingState) (seen : SeenState) (k : Bool) (string : Option ℕ)
    : Type 0 where
  pub holders_are : holders ≡ nesting_close_step s.holders
  pub seen_is : seen ≡ seen_closed s.wanted s.seen b
  pub misplaced : k ≡ is_misplaced s.wanted seen
  pub string_is : string ≡ string_found s.wanted s.seen.strings

module _ (s : CheckState) (b : Bool) (holders : NestingState) (seen : SeenState) (k : Bool) (string : Option ℕ)
    (closed : IsClosed s b holders seen k string) where
  ended-by : (v : HolderFrame) (outer : List HolderFrame) → s.holders.outer ≡ v ∷ outer
      → ended_with s holders (depth_in holders) seen k string s.holders.frame ≡ finder_frame_end_step s b (v ∷ outer)
  ended-by v outer e =
      let w : HolderFrame = s.holders.frame in
      let level : depth_in holders ≡ length outer =
      ap depth_in closed.holders_are ∙ ap (λ (l : List HolderFrame). depth_in (nesting_around w l)) e in
      ap₂ (λ (n : ℕ) (t : NestingState). ended_with s t n seen k string w) level closed.holders_are
      ∙ ap₂ (λ (x : Bool) (o : Option ℕ). ended_with s (nesting_close_step s.holders) (length outer) seen x o w)
      closed.misplaced closed.string_is
      ∙ ap (λ (t : SeenState). ended_with s (nesting_close_step s.holders) (length outer) t (is_misplaced s.wanted t)
      (string_found s.wanted s.seen.strings) w)
      closed.seen_is

  pub ends-some : (frame : HolderFrame) (new : FinderState) (r : Bool) → Some frame ≡ closed_frame s.holders
      → ReturnsFindings (ended_with s holders (depth_in holders) seen k string frame) new r
      → ReturnsFindings (finder_close_step s b) new r
  ends-some frame new r is returned = by s.holders.outer refl is
    where
      by : (outer : List HolderFrame) → s.holders.outer ≡ outer → Some frame ≡ closed_frame_inside s.holders.frame outer
          → ReturnsFindings (finder_frame_end_step s b outer) new r
      by [] e none = absurd (cc (none))
      by (v ∷ outer) e some =
          subst (λ (f : FinderState). ReturnsFindings f new r)
          (ap (ended_with s holders (depth_in holders) seen k string)
          (judged-is (s.holders.frame.has_segments || s.holders.frame.lacks_components) s.holders.frame frame some)
          ∙ ended-by v outer e)
          returned

  -- nothing is kept that is judged
  nothing-judged : (outer : List HolderFrame) (v : HolderFrame) → None ≡ closed_frame_inside s.holders.frame (v ∷ outer)
      → end_findings_in s.wanted (segments_in s.holders.frame) ≡ []
  nothing-judged outer v none =
      none-judged s.wanted s.holders.frame
      (judged-none (s.holders.frame.has_segments || s.holders.frame.lacks_components) s.holders.frame none)

  same-offset : (w t : HolderFrame) → (k || is_some string) ≡ true
      → offset_at_end k seen.order string w ≡ offset_at_end k seen.order string t
  same-offset w t there = by k string there
    where
      by : (x : Bool) (o : Option ℕ) → (x || is_some o) ≡ true
          → offset_at_end x seen.order o w ≡ offset_at_end x seen.order o t
      by true o e = refl
      by false (Some offset) e = refl
      by false None e = absurd (cc (e))

  pub ends-other : (new : FinderState) (r : Bool) → None ≡ closed_frame s.holders → depth_in s.holders ≢ 0
      → (k || is_some string) ≡ true
      → ReturnsFindings (ended_with s holders (depth_in holders) seen k string top_frame) new r
      → ReturnsFindings (finder_close_step s b) new r
  ends-other new r is deep there returned = by s.holders.outer refl is
    where
      by : (outer : List HolderFrame) → s.holders.outer ≡ outer → None ≡ closed_frame_inside s.holders.frame outer
          → ReturnsFindings (finder_frame_end_step s b outer) new r
      by [] e none = absurd (deep (ap (λ (l : List HolderFrame). length l) e))
      by (v ∷ outer) e none =
          subst (λ (f : FinderState). ReturnsFindings f new r)
          (ap₂ (λ (offset : ℕ) (fs : List Finding).
          with_findings (record s { holders = holders; seen = seen }) (depth_in holders) offset
          (with_order_if k (with_characters_if (is_some string) fs)))
          (same-offset top_frame s.holders.frame there)
          (none-judged s.wanted top_frame refl ∙ sym (nothing-judged outer v none))
          ∙ ended-by v outer e)
          returned

  pub ends-none : None ≡ closed_frame s.holders → depth_in s.holders ≢ 0 → (k || is_some string) ≡ false
      → (record s { holders = holders; seen = seen } ≡ (finder_close_step s b).kept)
      × ((finder_close_step s b).findings ≡ [])
  ends-none is deep none_found = by s.holders.outer refl is
    where
      by : (outer : List HolderFrame) → s.holders.outer ≡ outer → None ≡ closed_frame_inside s.holders.frame outer
          → (record s { holders = holders; seen = seen } ≡ (finder_frame_end_step s b outer).kept)
          × ((finder_frame_end_step s b outer).findings ≡ [])
      by [] e none = absurd (deep (ap (λ (l : List HolderFrame). length l) e))
      by (v ∷ outer) e none =
          let fs : end_findings_with s.wanted k string s.holders.frame ≡ [] =
          ap₂ (λ (x : Bool) (o : Option ℕ). end_findings_with s.wanted x o s.holders.frame)
          (in_order k string none_found) (no_string k string none_found)
          ∙ nothing-judged outer v none in (
            ap (λ (n : ℕ). record s { holders = holders; seen = seen; finding_count = n })
                (sym (sum-none s.finding_count)
                ∙ ap (λ (l : List Finding). saturating_sum s.finding_count (length l)) (sym fs))
                ∙ ap (λ (f : FinderState). f.kept) (ended-by v outer e),
            ap (λ (f : FinderState). f.findings) (sym (ended-by v outer e)) ∙ fs,
          )

pub ends-at_top : (s : CheckState) (b : Bool) → depth_in s.holders ≡ 0 → finder_close_step s b ≡ without_findings s
ends-at_top s b top = by s.holders.outer top
  where
    by : (outer : List HolderFrame) → length outer ≡ 0 → finder_frame_end_step s b outer ≡ without_findings s
    by [] e = refl
    by (v ∷ outer) e = absurd (cc (e))
