use Rattle.std.proofs.lemmas.Result.{err_from_is_err_and}
use Rattle.tlv_run.proofs.IndefLemmas.Job.{indef_err, indef_ok}
use Rattle.tlv_run.proofs.indef_call.indef.Goals as goal

pub returns-in_err-run : goal.returns-in_err-run
returns-in_err-run g c =
    let p = err_from_is_err_and c.from_residual.result c.from_residual.ensures.1 in rw (p.1, p.2)
    (indef_err _ _ _ _ _ _ _ c.in_err-run.field-0.0 (rw c.none.ensures at c.in_err-run.ensures))

pub returns : goal.returns
returns g c = indef_ok _ _ _ _ _ _ _ c.in_ok-run.run' (rw c.none.ensures at c.in_ok-run.ensures)
