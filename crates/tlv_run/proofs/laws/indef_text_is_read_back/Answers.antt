use Rattle.tlv_run.proofs.IndefLemmas.SecondReading.{indef_text_is_read_back}
use Rattle.tlv_run.proofs.laws.indef_text_is_read_back.Goals as goal

pub returns : goal.returns
returns c = indef_text_is_read_back
