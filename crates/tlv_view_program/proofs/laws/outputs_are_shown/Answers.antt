use Rattle.tlv_view_program.proofs.ShownLemmas.ShownOutputs.{outputs-shown}
use Rattle.tlv_view_program.proofs.laws.outputs_are_shown.Goals as goal

pub returns : goal.returns
returns g c = outputs-shown _
