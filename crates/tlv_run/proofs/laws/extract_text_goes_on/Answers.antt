use Rattle.tlv_run.proofs.ExtractLemmas.LongerInputs.{extract_text_goes_on}
use Rattle.tlv_run.proofs.laws.extract_text_goes_on.Goals as goal

pub returns : goal.returns
returns x = extract_text_goes_on
