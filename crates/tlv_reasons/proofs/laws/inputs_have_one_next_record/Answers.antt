use Rattle.tlv_reasons.proofs.RecordLemmas.{next-one}
use Rattle.tlv_reasons.proofs.laws.inputs_have_one_next_record.Goals as goal

pub returns : goal.returns
returns c = next-one
