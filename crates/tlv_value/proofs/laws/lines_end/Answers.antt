use Rattle.tlv_value.proofs.TextLemmas.Pieces.{lines-end}
use Rattle.tlv_value.proofs.laws.lines_end.Goals as goal

pub returns : goal.returns
returns c = lines-end
