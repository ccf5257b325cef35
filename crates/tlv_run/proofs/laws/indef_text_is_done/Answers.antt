use Rattle.tlv_run.proofs.IndefLemmas.SecondReading.{indef_text_is_done}
use Rattle.tlv_run.proofs.laws.indef_text_is_done.Goals as goal

pub returns : goal.returns
returns c = indef_text_is_done
