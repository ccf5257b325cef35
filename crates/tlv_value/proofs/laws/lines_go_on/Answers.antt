use Rattle.tlv_value.proofs.TextLemmas.Pieces.{lines-go_on}
use Rattle.tlv_value.proofs.laws.lines_go_on.Goals as goal

pub returns : goal.returns
returns c = lines-go_on
