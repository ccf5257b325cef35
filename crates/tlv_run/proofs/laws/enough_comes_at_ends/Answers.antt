use Rattle.tlv_run.proofs.ExtractLemmas.Laws.{enough_comes_at_ends}
use Rattle.tlv_run.proofs.laws.enough_comes_at_ends.Goals as goal

pub returns : goal.returns
returns x = enough_comes_at_ends
