use Rattle.tlv_view_program.proofs.ShownLemmas.ShownNotes.{notes-shown}
use Rattle.tlv_view_program.proofs.laws.notes_are_shown.Goals as goal

pub returns : goal.returns
returns c = notes-shown
