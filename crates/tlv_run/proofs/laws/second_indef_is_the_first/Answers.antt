use Rattle.tlv_run.proofs.Results.{second_indef}
use Rattle.tlv_run.proofs.laws.second_indef_is_the_first.Goals as goal

pub returns : goal.returns
returns c = second_indef
