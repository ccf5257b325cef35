use Rattle.tlv_run.proofs.IndefLemmas.SecondReading.{indef_text_obeys_grammar}
use Rattle.tlv_run.proofs.laws.indef_text_obeys_grammar.Goals as goal

pub returns : goal.returns
returns c = indef_text_obeys_grammar
