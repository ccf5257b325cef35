use Rattle.tlv_view_program.proofs.ShownLemmas.ShownReasons.{reasons-shown}
use Rattle.tlv_view_program.proofs.laws.reasons_are_shown.Goals as goal

pub returns : goal.returns
returns c = reasons-shown
