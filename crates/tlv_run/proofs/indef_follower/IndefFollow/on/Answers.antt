use Rattle.std.proofs.Common.{rules, refl}
use Rattle.tlv_run.proofs.indef_follower.IndefFollow.on.Goals as goal

pub returns : goal.returns
returns g c = record { has = record { puts = search rules; state = refl }; goes = refl }
