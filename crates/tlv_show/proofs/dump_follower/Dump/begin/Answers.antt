use Rattle.std.proofs.Common.{◌∙◌, ◌≡◌, ap, rules, subst, true, ℕ}
use Rattle.std.proofs.lemmas.Result.{on_ok_weaker}
use Rattle.std.specs.Option.{is_some}
use Rattle.tlv_walk.specs.Follow.{HasEffect}
use Rattle.tlv_show.specs.DumpStep.{DumpState, level_in}
use Rattle.tlv_show.specs.FinderState.{FinderState, finder_begin_step}
use Rattle.tlv_show.specs.LinesStep.{LinesState, lines_begin_step}
use Rattle.tlv_show.specs.NestingState.{depth_in}
use Rattle.tlv_show.specs.Private.KeptLines.{lines_if}
use Rattle.tlv_show.proofs.DumpLemmas.DumpSteps.{found_failed, found_before}
use Rattle.tlv_show.proofs.DumpLemmas.FinderKeeps.{dump_with}
use Rattle.tlv_show.proofs.dump_follower.Dump.begin.Goals as goal

pub returns-in_err-put_findings : goal.returns-in_err-put_findings
returns-in_err-put_findings g c =
    let s : DumpState = dump_with c.self.inside.lines c.self.inside.finder.kept in
    record {
      puts =
          rw (← c.self.view_is)
          (found_failed g.D.Drain.state s _ c.begin.new.self true
          _ _ _ _ _ _ c.style-style.ensures c.begin.ensures c.in_err-put_findings.ensures
          (search rules));
      state = search rules;
    }

pub returns : goal.returns
returns g c =
    let s : DumpState = dump_with c.self.inside.lines c.self.inside.finder.kept in
    let level : c.level.result ≡ level_in s =
    c.level.ensures ∙ ap (λ (f : FinderState). depth_in f.kept.holders) c.begin.ensures in
    let shown =
    subst
    (λ (n : ℕ). HasEffect g.D.Drain.state (lines_begin_step n s.lines c.args.header.now)
    c.put_findings.new.out c.begin-2.new.out (lines_if true c.begin-2.new.self) c.begin-2.result)
    level (c.begin-2.ensures (is_some s.finder.open_primitive)) in
    record {
      puts =
          rw (← c.self.view_is)
          (found_before g.D.Drain.state s _ c.begin.new.self true
          _ _ _ _ _ _ _ c.style-style.ensures c.begin.ensures c.in_ok-put_findings.ensures shown.puts);
      state =
          rw (← c.self.view_is)
          (on_ok_weaker c.begin-2.result
          (λ e. ap (λ (f : FinderState). dump_with c.begin-2.new.self f.kept) c.begin.ensures
          ∙ ap
          (λ (l : LinesState). record { lines = l; finder = (finder_begin_step s.finder c.args.header.now).kept })
          e)
          shown.state);
    }
