use Rattle.tlv_reasons.specs.FirstOf.{first, next}
use Rattle.tlv_reasons.proofs.start.first_start.Goals as goal

pub returns-in-Some : goal.returns-in-Some
returns-in-Some c = first (rw c.in-Some.is at c.first_alone.ensures)

pub returns-in-None : goal.returns-in-None
returns-in-None c = next (rw c.in-None.is at c.first_alone.ensures) c.first_other.ensures
