use Rattle.std.proofs.Common.{rules, refl}
use Rattle.std.proofs.lemmas.Result.{err_from_is_err_and}
use Rattle.tlv_run.proofs.indef_follower.IndefFollow.whole.Goals as goal

pub returns-in_err-put-clause-failed : goal.returns-in_err-put-clause-failed
returns-in_err-put-clause-failed g c =
    let p = err_from_is_err_and c.from_residual.result c.from_residual.ensures.1 in rw p.1
    (λ fails. record { puts = search rules; state = search rules })

pub returns-clause-followed : goal.returns-clause-followed
returns-clause-followed g c = λ is. record { has = record { puts = search rules; state = refl }; goes_on = refl }
