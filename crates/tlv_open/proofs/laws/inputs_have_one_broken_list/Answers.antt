use Rattle.tlv_open.proofs.LawLemmas.SomeBroken.{one-broken_list}
use Rattle.tlv_open.proofs.laws.inputs_have_one_broken_list.Goals as goal

pub returns : goal.returns
returns c = one-broken_list
