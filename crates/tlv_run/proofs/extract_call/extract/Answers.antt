use Rattle.std.proofs.Common.{refl}
use Rattle.std.proofs.lemmas.Result.{err_from_is_err_and}
use Rattle.tlv_run.proofs.ExtractLemmas.Job.{extract_err, extract_ok}
use Rattle.tlv_run.proofs.extract_call.extract.Goals as goal

pub returns-in_err-run : goal.returns-in_err-run
returns-in_err-run g c =
    let p = err_from_is_err_and c.from_residual.result c.from_residual.ensures.1 in rw (p.1, p.2)
    (extract_err _ _ _ _ _ _ _ _ c.in_err-run.field-0.0 (rw c.new-follower.ensures at c.in_err-run.ensures))

pub returns : goal.returns
returns g c =
    extract_ok _ _ _ _ _ _ _ _ c.in_ok-run.run' _ refl c.has_found.ensures
    (rw c.new-follower.ensures at c.in_ok-run.ensures)
