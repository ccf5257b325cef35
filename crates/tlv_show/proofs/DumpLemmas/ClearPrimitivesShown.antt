-- A primitive with which nothing is found: what a dump makes of it at once.
use Rattle.std.proofs.Common.{◌≡◌, ℕ, Bool, true, false, List, [], ◌∷◌, ◌++◌, length, sym, ap, ap₂, ◌∙◌, append-nil}
use Rattle.std.specs.FinMap as finite
use Rattle.std.specs.Option.{is_some}
use Rattle.std.specs.Prelude.{Ok, Err, Option, Result, IsErr, ⊤}
use Rattle.std.proofs.lemmas.Bool.{true≢false}
use Rattle.tlv_head.specs.Header.{HasAllContents, HeaderValue}
use Rattle.tlv_value.specs.declared.finding.Finding.{Finding}
use Rattle.tlv_value.specs.TextBeside.{whole_lines_with}
use Rattle.tlv_io.specs.declared.drain.WriteFault.{WriteFault}
use Rattle.tlv_io.specs.declared.out.Out.{Out}
use Rattle.tlv_io.specs.Device.{DrainState}
use Rattle.tlv_walk.specs.Events.{Begin, Bytes, End}
use Rattle.tlv_walk.specs.Follow.{Effect, IsWholeElement, contents_in, effect_of, effect_with}
use Rattle.tlv_walk.proofs.FollowerLemmas.WholeResults.{HasEffectOrNone}
use Rattle.tlv_walk.specs.Follow.{whole_events}
use Rattle.tlv_io.specs.Out.{Puts}
use Rattle.tlv_io.proofs.Puts.{HasPut, puts_as, puts_failed_last, puts_text}
use Rattle.tlv_show.specs.declared.finding_lines.Style.TheVariants.{Dump}
use Rattle.tlv_show.specs.FindingLines.{styled_lines}
use Rattle.tlv_show.specs.LinesStep.{LinesState}
use Rattle.tlv_show.specs.Private.KeptLines.{KeptLines, lines_if}
use Rattle.tlv_show.specs.Private.LinesStep.{lines_after_primitive}
use Rattle.tlv_show.specs.Texts.{layout_at}
use Rattle.tlv_show.specs.DumpStep.{DumpState, dump_step, level_in}
use Rattle.tlv_show.specs.FinderState.{CheckState, FinderState, OpenPrimitiveState, finder_begin_step, finder_bytes_step}
use Rattle.tlv_show.specs.NestingState.{depth_in}
use Rattle.tlv_show.specs.Private.FinderState.{PassesOrStays, PassesPrimitive, finder_whole_step}
use Rattle.tlv_show.proofs.DumpLemmas.DumpEvents.{dump_state, primitive-by, texts}
use Rattle.tlv_show.proofs.DumpLemmas.DumpTexts.{primitives_shown}
use Rattle.tlv_show.proofs.DumpLemmas.FinderKeeps.{dump_with, none-after_end, same-level}

abbrev pub lines_of : DumpState → HeaderValue → List ℕ → List ℕ
lines_of s h c = whole_lines_with s.lines.with_text (finite.get s.lines.names) h (layout_at s.lines.layout (level_in s)) c

abbrev pub after_whole : DumpState → HeaderValue → List ℕ → DumpState
after_whole s h c = dump_state (lines_after_primitive s.lines h c) (finder_whole_step s.finder h c).kept

pub whole_is : (s : DumpState) (h : HeaderValue) (c : List ℕ) → HasAllContents h c
    → (finder_begin_step s.finder h).findings ≡ [] → (finder_whole_step s.finder h c).findings ≡ []
    → effect_of dump_step s (Begin h ∷ Bytes c ∷ End ∷ []) ≡ effect_with (after_whole s h c) (lines_of s h c)
whole_is s h c size begins ends =
    let b : FinderState = finder_begin_step s.finder h in
    let f : FinderState = finder_whole_step s.finder h c in
    let style = Dump s.lines.layout.pure in
    primitive-by s.lines s.finder h c
    ∙ ap (λ (d : Effect LinesState). effect_with (dump_state d.state f.kept)
    (texts s.lines.layout b ++ (d.put ++ texts s.lines.layout f)))
    (primitives_shown (level_in s) s.lines h c size)
    ∙ ap₂
    (λ (k l : List Finding). effect_with (after_whole s h c)
    (styled_lines style b.level b.offset k ++ (lines_of s h c ++ styled_lines style f.level f.offset l)))
    begins ends
    ∙ ap (effect_with (after_whole s h c)) (append-nil (lines_of s h c))

-- the events of its octets
pub octets_are : (s : DumpState) (h : HeaderValue) (o c : List ℕ) → c ≡ contents_in h o
    → HasAllContents h c → (finder_begin_step s.finder h).findings ≡ []
    → (finder_whole_step s.finder h c).findings ≡ []
    → effect_of dump_step s (whole_events h o) ≡ effect_with (after_whole s h c) (lines_of s h c)
octets_are s h o c same size begins ends =
    ap (λ (l : List ℕ). effect_of dump_step s (Begin h ∷ Bytes l ∷ End ∷ [])) (sym same)
    ∙ whole_is s h c size begins ends

-- if a finder took the primitive
passes-if_taken : (old new : FinderState) (h : HeaderValue) (c : List ℕ) (x : Bool) → x ≡ true
    → PassesOrStays old new h c x
    → PassesPrimitive old new h c
passes-if_taken old new h c true e p = p
passes-if_taken old new h c false e p = absurd (true≢false (sym e))

module _ (s u : DumpState) (old new : FinderState) (h : HeaderValue) (o c : List ℕ) (x : Bool) (is : u ≡ s)
    (finder : u.finder ≡ old.kept) (same : c ≡ contents_in h o) (whole : IsWholeElement h o)
    (on : x ≡ true) (passes : PassesOrStays old new h c x) where
  pub made_is : effect_of dump_step s (whole_events h o) ≡ effect_with (after_whole u h c) (lines_of u h c)
  made_is =
      let p = passes-if_taken old new h c x on passes in
      ap (λ (v : DumpState). effect_of dump_step v (whole_events h o)) (sym is)
      ∙ octets_are u h o c same (whole.contents ∙ ap length (sym same)) (rw finder p.begins) (rw finder p.ends)

  pub stands_after : (k : KeptLines) → lines_if false k ≡ lines_after_primitive u.lines h c
      → dump_with k new.kept ≡ after_whole u h c
  stands_after k e =
      let p = passes-if_taken old new h c x on passes in
      let kept : new.kept ≡ (finder_whole_step u.finder h c).kept =
      ap (λ (f : FinderState). f.kept) p.kept
      ∙ ap (λ (f : CheckState). (finder_whole_step f h c).kept) (sym finder) in
      ap (dump_with k) kept
      ∙ ap (λ (v : Option OpenPrimitiveState). dump_state (lines_if (is_some v) k) (finder_whole_step u.finder h c).kept)
      (none-after_end (finder_bytes_step (finder_begin_step u.finder h).kept c))
      ∙ ap (λ (l : LinesState). dump_state l (finder_whole_step u.finder h c).kept) e

  -- the lines are at the level at which they are put
  pub at_level : (level : ℕ) → level ≡ depth_in new.kept.holders → level ≡ level_in u
  at_level level e =
      let p = passes-if_taken old new h c x on passes in
      e
      ∙ ap (λ (f : FinderState). depth_in f.kept.holders) p.kept
      ∙ same-level old.kept h c
      ∙ ap (λ (f : CheckState). depth_in f.holders) (sym finder)

-- ---- by a call that may leave them to others

module _ {D : Type 0} (state_of : D → DrainState) (a b : Out D) (m : Effect DumpState) (s : DumpState) (put : List ℕ)
    (is : m ≡ effect_with s put) where
  pub shown : (old new : DumpState) → new ≡ s → HasPut state_of a b put
      → HasEffectOrNone state_of m a b old new (Ok true)
  shown old new e p = (
    record {
      puts = puts_as state_of a b put m.put tt true p (sym (ap (λ (k : Effect DumpState). k.put) is));
      state = e ∙ sym (ap (λ (k : Effect DumpState). k.state) is);
    },
    ap (λ (k : Effect DumpState). k.goes) is,
  )

  pub shown-failed : (old new : DumpState) (e : WriteFault) (r : Result Bool WriteFault)
      → Puts {T = ⊤} {E = WriteFault} state_of a b put (Err e) → IsErr r
      → HasEffectOrNone state_of m a b old new r
  shown-failed old new e (Ok x) p h = absurd (true≢false (sym h))
  shown-failed old new e (Err f) p h = record {
    puts = puts_text state_of a b put m.put (Err f) (sym (ap (λ (k : Effect DumpState). k.put) is))
        (puts_failed_last state_of a b put e (Err f) p h);
    state = tt;
  }
