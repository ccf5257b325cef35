use Rattle.tlv_open.proofs.LawLemmas.SomeList.{one-list_opened}
use Rattle.tlv_open.proofs.laws.inputs_have_one_list.Goals as goal

pub returns : goal.returns
returns c = one-list_opened
