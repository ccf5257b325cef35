use Rattle.tlv_view_program.proofs.ShownLemmas.ShownNames.{names-shown}
use Rattle.tlv_view_program.proofs.laws.names_are_shown.Goals as goal

pub returns : goal.returns
returns c = names-shown
