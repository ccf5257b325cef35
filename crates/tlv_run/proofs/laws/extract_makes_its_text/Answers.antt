use Rattle.tlv_run.proofs.ExtractLemmas.Laws.{extract_makes_its_text}
use Rattle.tlv_run.proofs.laws.extract_makes_its_text.Goals as goal

pub returns : goal.returns
returns x = extract_makes_its_text
