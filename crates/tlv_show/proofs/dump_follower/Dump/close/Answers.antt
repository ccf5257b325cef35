use Rattle.std.proofs.Common.{◌≡◌, ◌∙◌, ℕ, ◌-◌, Bool, ap, refl, rules, subst}
use Rattle.std.specs.Option.{is_some}
use Rattle.std.specs.Prelude.{Option, Some, None}
use Rattle.tlv_walk.specs.Events.{Close}
use Rattle.tlv_io.specs.Out.{Puts}
use Rattle.tlv_io.proofs.Puts.{puts_failed, puts_text}
use Rattle.tlv_show.specs.declared.finding_lines.Style.TheVariants.{Dump}
use Rattle.tlv_show.specs.DumpStep.{DumpState, dump_step}
use Rattle.tlv_show.specs.FinderState.{CheckState, FinderState, finder_close_step}
use Rattle.tlv_show.specs.LinesStep.{LinesState, lines_close_step}
use Rattle.tlv_show.specs.NestingState.{depth_in}
use Rattle.tlv_show.specs.Private.FinderState.{ReturnsFindings}
use Rattle.tlv_show.proofs.FindingLemmas.CheckLaws.{last-state}
use Rattle.tlv_show.proofs.DumpLemmas.DumpSteps.{found_after}
use Rattle.tlv_show.proofs.DumpLemmas.FinderKeeps.{dump_with, level-after_close}
use Rattle.tlv_show.proofs.dump_follower.Dump.close.Goals as goal

module _ (s : CheckState) (offset : Option ℕ) (found : FinderState) (may_have_findings has_end_octets : Bool)
    (is : has_end_octets ≡ is_some offset)
    (returns : ReturnsFindings (finder_close_step s has_end_octets) found may_have_findings) where
  kept-after : found.kept ≡ (finder_close_step s (is_some offset)).kept
  kept-after =
      last-state (finder_close_step s has_end_octets) found may_have_findings returns
      ∙ ap (λ (b : Bool). (finder_close_step s b).kept) is

  level-after : (level : ℕ) → level ≡ depth_in found.kept.holders → level ≡ depth_in s.holders - 1
  level-after level e =
      e ∙ ap (λ (f : CheckState). depth_in f.holders) kept-after ∙ level-after_close s (is_some offset)

pub returns-in_err-close : goal.returns-in_err-close
returns-in_err-close g c =
    let s : DumpState = dump_with c.self.inside.lines c.self.inside.finder.kept in
    let level =
    level-after s.finder c.args.offset c.close-may_have_findings.new.self
    c.close-may_have_findings.result _ c.is_some.ensures c.close-may_have_findings.ensures c.level.result c.level.ensures in
    let put = ap (λ (n : ℕ). (lines_close_step n s.lines c.args.offset).put) level in
    let shown = c.in_err-close.ensures (is_some s.finder.open_primitive) in
    record {
      puts =
          rw (← c.self.view_is)
          (puts_failed g.D.Drain.state _ _ _ _ _ _ (puts_text g.D.Drain.state _ _ _ _ _ put shown.puts) (search rules));
      state = search rules;
    }

-- an end leaves the columns as they are
same-columns : (level : ℕ) (s : LinesState) (offset : Option ℕ)
    → (lines_close_step level s offset).state.layout.pure ≡ s.layout.pure
same-columns level s None = refl
same-columns level s (Some offset) = refl

pub returns : goal.returns
returns g c =
    let s : DumpState = dump_with c.self.inside.lines c.self.inside.finder.kept in
    let is_open = is_some s.finder.open_primitive in
    let level =
    level-after s.finder c.args.offset c.close-may_have_findings.new.self
    c.close-may_have_findings.result _ c.is_some.ensures c.close-may_have_findings.ensures c.level.result c.level.ensures in
    let kept =
    kept-after s.finder c.args.offset c.close-may_have_findings.new.self
    c.close-may_have_findings.result _ c.is_some.ensures c.close-may_have_findings.ensures in
    let put = ap (λ (n : ℕ). (lines_close_step n s.lines c.args.offset).put) level in
    let shown = c.in_ok-close.ensures is_open in
    let style =
    c.style-style.ensures ∙ ap (λ (l : LinesState). Dump l.layout.pure) shown.state
    ∙ ap Dump (same-columns c.level.result s.lines c.args.offset) in
    let found : ReturnsFindings (finder_close_step s.finder (is_some c.args.offset)) c.close-may_have_findings.new.self
    c.close-may_have_findings.result =
    subst
    (λ (b : Bool). ReturnsFindings (finder_close_step s.finder b) c.close-may_have_findings.new.self
    c.close-may_have_findings.result)
    c.is_some.ensures c.close-may_have_findings.ensures in
    record {
      puts =
          subst
          (λ (t : DumpState). Puts g.D.Drain.state c.args.out.now c.put_findings.new.out
          (dump_step t (Close c.args.offset)).put c.put_findings.result)
          c.self.view_is
          (found_after g.D.Drain.state s _ c.close-may_have_findings.new.self c.close-may_have_findings.result
          _ _ _ _ _ _ _ style
          found (puts_text g.D.Drain.state _ _ _ _ _ put shown.puts) c.put_findings.ensures);
      state = search (rules, kept);
    }
