use Rattle.std.proofs.lemmas.Result.{IfOk-weaker}
use Rattle.tlv_reasons.specs.FirstOf.{first, next}
use Rattle.tlv_reasons.proofs.remedy.octet_or_else.Goals as goal

pub returns-in-Some : goal.returns-in-Some
returns-in-Some c =
    first
    (rw (
      c.in-Some.is,
      c.closed_framing-framing.ensures,
      c.as_slice.ensures.value,
      c.suspect_offsets-candidates.ensures,
    ) at c.in_ok-change.ensures)

pub returns-in-None : goal.returns-in-None
returns-in-None c =
    IfOk-weaker c.chain_or_else.result _ _
    (λ found is. next
    (rw (
      c.in-None.is,
      c.closed_framing-framing.ensures,
      c.as_slice.ensures.value,
      c.suspect_offsets-candidates.ensures,
    ) at c.in_ok-change.ensures) is) c.chain_or_else.ensures
