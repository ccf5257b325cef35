use Rattle.tlv_value.proofs.RowLemmas.RowsFilled.{rows-are_cut}
use Rattle.tlv_value.proofs.laws.rows_are_a_cut.Goals as goal

pub returns : goal.returns
returns c = rows-are_cut
