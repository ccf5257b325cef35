use Rattle.std.proofs.Common.{rules}
use Rattle.std.proofs.lemmas.Result.{IfOk-weaker}
use Rattle.tlv_reasons.specs.Remedies.{another_kind, changed, others}
use Rattle.tlv_reasons.proofs.mend.all_reasons.Goals as goal

pub returns-in-Some-clause-reasons : goal.returns-in-Some-clause-reasons
returns-in-Some-clause-reasons c = rw c.said.ensures.said (another_kind c.in-Some.kind (search rules))

pub returns-in-Some-2-clause-reasons : goal.returns-in-Some-2-clause-reasons
returns-in-Some-2-clause-reasons c =
    rw c.whole_reasons.ensures.reasons
    (changed c.in-Some-2.whole (search rules) (rw c.in-Some-2.is at c.in_ok-whole.ensures))

pub returns-in-None-clause-reasons : goal.returns-in-None-clause-reasons
returns-in-None-clause-reasons c =
    IfOk-weaker c.other_reasons.result _ _
    (λ r are. others r.items (search rules) (rw c.in-None.is at c.in_ok-whole.ensures) are)
    c.other_reasons.ensures.reasons
