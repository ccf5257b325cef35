use Rattle.tlv_view_program.proofs.ReasonSteps.{all-of, refusal-of, sends-weaker}
use Rattle.tlv_view_program.proofs.reasons.explain_octets.Goals as goal

pub returns : goal.returns
returns g c =
    sends-weaker (all-of (λ a. a.items) _ c.all_reasons-reasons.result c.all_reasons-reasons.ensures.reasons)
    (refusal-of c.all_reasons-reasons.result c.all_reasons-reasons.ensures.refused)
    (rw (c.reasons_of-few.ensures.reasons, c.first_of-first.ensures.first) at c.send_reasons.ensures)
