use Rattle.std.proofs.Common.{refl}
use Rattle.std.proofs.lemmas.Result.{err_from_is_err_and}
use Rattle.tlv_show.specs.CheckStep.{check_step}
use Rattle.tlv_show.specs.FinderState.{CheckState, new_check}
use Rattle.tlv_show.specs.Texts.{check_line}
use Rattle.tlv_show.proofs.FindingLemmas.CheckFolds.{check-shows}
use Rattle.tlv_show.proofs.DumpLemmas.ShowJob.{shows_err, shows_ok}
use Rattle.tlv_show.proofs.check_call.check_by.Goals as goal

pub returns-in_err-run : goal.returns-in_err-run
returns-in_err-run g c =
    let p = err_from_is_err_and c.from_residual.result c.from_residual.ensures.1 in
    let wanted = c.args.wanted in
    rw (p.1, p.2)
    (shows_err check_step (new_check wanted) wanted c.args.framing.now check_line
    (λ (s : CheckState). s.finding_count) (check-shows wanted c.args.framing.now)
    _ _ _ _ _ c.in_err-run.field-0.0
    (rw c.of-follower.ensures at c.in_err-run.ensures))

pub returns : goal.returns
returns g c =
    let wanted = c.args.wanted in
    shows_ok check_step (new_check wanted) wanted c.args.framing.now check_line
    (λ (s : CheckState). s.finding_count) (check-shows wanted c.args.framing.now)
    _ _ _ _ _ c.in_ok-run.run' _ refl c.findings.ensures refl
    (rw c.of-follower.ensures at c.in_ok-run.ensures)
