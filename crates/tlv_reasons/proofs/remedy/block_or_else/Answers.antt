use Rattle.std.proofs.lemmas.Result.{IfOk-weaker}
use Rattle.tlv_reasons.specs.FirstOf.{first, next}
use Rattle.tlv_reasons.proofs.remedy.block_or_else.Goals as goal

pub returns-in-Some : goal.returns-in-Some
returns-in-Some c = first (rw c.in-Some.is at c.in_ok-block.ensures)

pub returns-in-None : goal.returns-in-None
returns-in-None c =
    IfOk-weaker c.octet_or_else.result _ _ (λ found is. next (rw c.in-None.is at c.in_ok-block.ensures) is)
    c.octet_or_else.ensures
