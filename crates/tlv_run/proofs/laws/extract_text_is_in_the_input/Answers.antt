use Rattle.tlv_run.proofs.ExtractLemmas.Laws.{extract_text_is_in_the_input}
use Rattle.tlv_run.proofs.laws.extract_text_is_in_the_input.Goals as goal

pub returns : goal.returns
returns x = extract_text_is_in_the_input
