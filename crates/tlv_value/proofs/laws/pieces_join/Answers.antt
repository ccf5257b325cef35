use Rattle.tlv_value.proofs.TextLemmas.Pieces.{pieces-join}
use Rattle.tlv_value.proofs.laws.pieces_join.Goals as goal

pub returns : goal.returns
returns c = pieces-join
