use Rattle.tlv_text.proofs.OneTaking.{one-taking}
use Rattle.tlv_text.proofs.laws.inputs_are_taken_for_one_thing.Goals as goal

pub returns : goal.returns
returns c = one-taking
