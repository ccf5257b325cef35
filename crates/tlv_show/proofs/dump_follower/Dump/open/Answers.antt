use Rattle.std.proofs.Common.{◌∙◌, ap, rules, subst, ℕ}
use Rattle.std.proofs.lemmas.Result.{err_from_is_err_and, on_ok_weaker}
use Rattle.std.specs.Option.{is_some}
use Rattle.tlv_walk.specs.Follow.{HasEffect}
use Rattle.tlv_show.specs.DumpStep.{DumpState}
use Rattle.tlv_show.specs.FinderState.{finder_open_step}
use Rattle.tlv_show.specs.LinesStep.{LinesState, lines_open_step}
use Rattle.tlv_show.specs.Private.KeptLines.{lines_if}
use Rattle.tlv_show.proofs.FindingLemmas.CheckLaws.{last-state}
use Rattle.tlv_show.proofs.DumpLemmas.DumpSteps.{found_failed, found_before}
use Rattle.tlv_show.proofs.DumpLemmas.FinderKeeps.{dump_with}
use Rattle.tlv_show.proofs.dump_follower.Dump.open.Goals as goal

pub returns-in_err-put_findings : goal.returns-in_err-put_findings
returns-in_err-put_findings g c =
    let s : DumpState = dump_with c.self.inside.lines c.self.inside.finder.kept in
    let failed = err_from_is_err_and c.from_residual.result c.from_residual.ensures.1 in
    record {
      puts =
          rw (← c.self.view_is)
          (found_failed g.D.Drain.state s _ c.open-may_have_findings.new.self c.open-may_have_findings.result
          _ _ _ _ _ _ c.style-style.ensures c.open-may_have_findings.ensures c.in_err-put_findings.ensures
          (search rules));
      state = rw failed.1 tt;
    }

pub returns : goal.returns
returns g c =
    let s : DumpState = dump_with c.self.inside.lines c.self.inside.finder.kept in
    let f = finder_open_step s.finder c.args.header.now in
    let is_open = is_some s.finder.open_primitive in
    let shown =
    subst
    (λ (n : ℕ). HasEffect g.D.Drain.state (lines_open_step n s.lines c.args.header.now c.args.word.now)
    c.put_findings.new.out c.open.new.out (lines_if is_open c.open.new.self) c.open.result)
    c.level-level.ensures (c.open.ensures is_open) in
    record {
      puts =
          rw (← c.self.view_is)
          (found_before g.D.Drain.state s _ c.open-may_have_findings.new.self c.open-may_have_findings.result
          _ _ _ _ _ _ _ c.style-style.ensures c.open-may_have_findings.ensures c.in_ok-put_findings.ensures shown.puts);
      state =
          rw (← c.self.view_is)
          (on_ok_weaker c.open.result
          (λ e. ap (dump_with c.open.new.self)
          (last-state f c.open-may_have_findings.new.self c.open-may_have_findings.result c.open-may_have_findings.ensures)
          ∙ ap (λ (l : LinesState). record { lines = l; finder = f.kept }) e)
          shown.state);
    }
