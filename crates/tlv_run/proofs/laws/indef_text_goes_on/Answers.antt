use Rattle.tlv_run.proofs.IndefLemmas.LongerInputs.{indef_text_goes_on}
use Rattle.tlv_run.proofs.laws.indef_text_goes_on.Goals as goal

pub returns : goal.returns
returns c = indef_text_goes_on
