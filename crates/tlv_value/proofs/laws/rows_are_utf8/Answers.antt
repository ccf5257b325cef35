use Rattle.tlv_value.proofs.CheckLemmas.Utf8ByRow.{rows-formed}
use Rattle.tlv_value.proofs.laws.rows_are_utf8.Goals as goal

pub returns : goal.returns
returns c = rows-formed
