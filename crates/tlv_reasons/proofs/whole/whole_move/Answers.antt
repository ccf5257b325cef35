use Rattle.tlv_reasons.specs.FirstOf.{first, next}
use Rattle.tlv_reasons.proofs.whole.whole_move.Goals as goal

pub returns-in-Some : goal.returns-in-Some
returns-in-Some c = first (rw c.in-Some.is at c.in_ok-change.ensures)

pub returns-in-None : goal.returns-in-None
returns-in-None c = next (rw c.in-None.is at c.in_ok-change.ensures) c.spacing_or_trace.ensures
