use Rattle.std.proofs.Common.{◌∙◌, Bool, ap, rules, subst}
use Rattle.tlv_walk.specs.Events.{End}
use Rattle.tlv_io.specs.Out.{Puts}
use Rattle.tlv_io.proofs.Puts.{puts_failed, puts_text}
use Rattle.tlv_show.specs.declared.finding_lines.Style.TheVariants.{Dump}
use Rattle.tlv_show.specs.LinesStep.{LinesState, lines_end_step}
use Rattle.tlv_show.specs.DumpStep.{DumpState, dump_step}
use Rattle.tlv_show.specs.FinderState.{finder_end_step}
use Rattle.tlv_show.specs.Private.KeptLines.{lines_if}
use Rattle.tlv_show.proofs.DumpLemmas.DumpSteps.{found_after}
use Rattle.tlv_show.proofs.DumpLemmas.FinderKeeps.{dump_with}
use Rattle.tlv_show.proofs.dump_follower.Dump.end.Goals as goal

pub returns-in_err-end : goal.returns-in_err-end
returns-in_err-end g c =
    let put =
    ap (λ (b : Bool). (lines_end_step (lines_if b c.self.inside.lines)).put) c.is_open-was_open.ensures in
    record {
      puts =
          rw (← c.self.view_is)
          (puts_failed g.D.Drain.state _ _ _ _ _ _ (puts_text g.D.Drain.state _ _ _ _ _ put c.in_err-end.ensures.puts)
          (search rules));
      state = search rules;
    }

pub returns : goal.returns
returns g c =
    let s : DumpState = dump_with c.self.inside.lines c.self.inside.finder.kept in
    let f = finder_end_step s.finder in
    let put =
    ap (λ (b : Bool). (lines_end_step (lines_if b c.self.inside.lines)).put) c.is_open-was_open.ensures in
    let style =
    c.style-style.ensures ∙ ap (λ (l : LinesState). Dump l.layout.pure) c.in_ok-end.ensures.state in
    record {
      puts =
          subst
          (λ (t : DumpState). Puts g.D.Drain.state c.args.out.now c.put_findings.new.out (dump_step t End).put
          c.put_findings.result)
          c.self.view_is
          (found_after g.D.Drain.state s _ c.end-may_have_findings.new.self c.end-may_have_findings.result
          _ _ _ _ _ _ _ style
          c.end-may_have_findings.ensures (puts_text g.D.Drain.state _ _ _ _ _ put c.in_ok-end.ensures.puts)
          c.put_findings.ensures);
      state = search rules;
    }
