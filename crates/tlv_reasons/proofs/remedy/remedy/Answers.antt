use Rattle.std.proofs.lemmas.Result.{IfOk-weaker}
use Rattle.tlv_reasons.specs.FirstOf.{first, next}
use Rattle.tlv_reasons.proofs.remedy.remedy.Goals as goal

pub returns-in-Some : goal.returns-in-Some
returns-in-Some c = first (rw (c.in-Some.is, c.fault_offset-fault.ensures) at c.next_start.ensures)

pub returns-in-Some-run_around : goal.returns-in-Some-run_around
returns-in-Some-run_around c =
    next (rw (c.in_default.is, c.fault_offset-fault.ensures) at c.next_start.ensures)
    (first (rw (c.in-Some-run_around.is, c.fault_offset-fault.ensures) at c.run_around.ensures))

pub returns-in-None : goal.returns-in-None
returns-in-None c =
    IfOk-weaker c.length_or_else.result _ _
    (λ found is. next (rw (c.in_default.is, c.fault_offset-fault.ensures) at c.next_start.ensures)
    (next (rw (c.in-None.is, c.fault_offset-fault.ensures) at c.run_around.ensures) is)) c.length_or_else.ensures
