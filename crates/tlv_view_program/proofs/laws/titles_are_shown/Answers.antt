use Rattle.tlv_view_program.proofs.ShownLemmas.ShownNotes.{titles-shown}
use Rattle.tlv_view_program.proofs.laws.titles_are_shown.Goals as goal

pub returns : goal.returns
returns c = titles-shown
