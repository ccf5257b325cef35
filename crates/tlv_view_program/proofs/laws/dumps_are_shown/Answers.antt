use Rattle.tlv_view_program.proofs.ShownLemmas.ShownDumps.{dumps-shown}
use Rattle.tlv_view_program.proofs.laws.dumps_are_shown.Goals as goal

pub returns : goal.returns
returns c = dumps-shown
