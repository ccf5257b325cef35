use Rattle.tlv_run.proofs.Results.{outputs_on}
use Rattle.tlv_run.proofs.laws.outputs_go_on.Goals as goal

pub returns : goal.returns
returns c = outputs_on
