use Rattle.tlv_view_program.proofs.ShownLemmas.ShownMessages.{messages-shown}
use Rattle.tlv_view_program.proofs.laws.messages_are_shown.Goals as goal

pub returns : goal.returns
returns c = messages-shown
