use Rattle.tlv_reasons.specs.Remedies.{as_text}
use Rattle.tlv_reasons.proofs.whole.undone_change.Goals as goal

pub returns : goal.returns
returns c = rw c.undoable.ensures (as_text c.in_ok-change.ensures)
