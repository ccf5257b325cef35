use Rattle.tlv_show.proofs.SetOrderLemmas.Forests.{out_of_order_found}
use Rattle.tlv_show.proofs.laws.out_of_order_is_found.Goals as goal

pub returns : goal.returns
returns c = out_of_order_found
