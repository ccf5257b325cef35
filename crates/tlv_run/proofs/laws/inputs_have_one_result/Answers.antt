use Rattle.tlv_run.proofs.Results.{inputs_have_one_result}
use Rattle.tlv_run.proofs.laws.inputs_have_one_result.Goals as goal

pub returns : goal.returns
returns c = inputs_have_one_result
