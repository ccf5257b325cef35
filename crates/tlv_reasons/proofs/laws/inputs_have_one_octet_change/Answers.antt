use Rattle.tlv_reasons.proofs.OctetLemmas.{change-one}
use Rattle.tlv_reasons.proofs.laws.inputs_have_one_octet_change.Goals as goal

pub returns : goal.returns
returns c = change-one
