use Rattle.tlv_open.proofs.breaking.broken_string.Goals as goal

pub returns-in_err-fault : goal.returns-in_err-fault
returns-in_err-fault c =
    rw c.from_residual-in_err-fault.ensures (λ b broken. c.in_err-fault.ensures broken.fault broken.breaks_at)
