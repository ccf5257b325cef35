use Rattle.tlv_value.proofs.RowLemmas.OneCut.{rows-one-cut}
use Rattle.tlv_value.proofs.laws.rows_have_one_cut.Goals as goal

pub returns : goal.returns
returns c = rows-one-cut
