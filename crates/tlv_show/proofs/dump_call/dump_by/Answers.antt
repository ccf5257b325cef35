use Rattle.std.proofs.Common.{refl}
use Rattle.std.specs.FinMap as finite
use Rattle.std.proofs.lemmas.Result.{err_from_is_err_and}
use Rattle.tlv_show.specs.ShowJob.{top_layout}
use Rattle.tlv_show.specs.WantedJobs.{wanted_in}
use Rattle.tlv_show.specs.DumpStep.{DumpState, dump_step, new_dump_with}
use Rattle.tlv_show.specs.WantedJobs.{item_text_with}
use Rattle.tlv_show.proofs.DumpLemmas.DumpFolds.{dump-shows}
use Rattle.tlv_show.proofs.DumpLemmas.ShowJob.{shows_err, shows_ok}
use Rattle.tlv_show.proofs.dump_call.dump_by.Goals as goal

pub returns-in_err-run : goal.returns-in_err-run
returns-in_err-run g c =
    let p = err_from_is_err_and c.from_residual.result c.from_residual.ensures.1 in
    let o = c.args.options.now in
    let names = g.N.FiniteNames.table c.args.names.now in
    rw (p.1, p.2)
    (shows_err dump_step (new_dump_with c.args.with_text (wanted_in c.args.scope o) (top_layout o) names) (wanted_in c.args.scope o) o.framing
    (item_text_with c.args.with_text (finite.get names) (top_layout o)) (λ (s : DumpState). s.finder.finding_count) (dump-shows c.args.scope c.args.with_text o names)
    _ _ _ _ _ c.in_err-run.field-0.0
    (rw c.of-follower.ensures at c.in_err-run.ensures))

pub returns : goal.returns
returns g c =
    let o = c.args.options.now in
    let names = g.N.FiniteNames.table c.args.names.now in
    shows_ok dump_step (new_dump_with c.args.with_text (wanted_in c.args.scope o) (top_layout o) names) (wanted_in c.args.scope o) o.framing
    (item_text_with c.args.with_text (finite.get names) (top_layout o)) (λ (s : DumpState). s.finder.finding_count) (dump-shows c.args.scope c.args.with_text o names)
    _ _ _ _ _ c.in_ok-run.run' _ refl
    c.findings.ensures refl
    (rw c.of-follower.ensures at c.in_ok-run.ensures)
