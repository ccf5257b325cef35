use Rattle.tlv_value.proofs.TextLemmas.Pieces.{lines-begin}
use Rattle.tlv_value.proofs.laws.lines_begin.Goals as goal

pub returns : goal.returns
returns c = lines-begin
