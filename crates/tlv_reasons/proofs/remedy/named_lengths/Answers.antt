use Rattle.std.proofs.Common.{rules}
use Rattle.std.proofs.lemmas.Result.{IfOk-weaker}
use Rattle.tlv_reasons.specs.Remedies.{in_agreement, in_disagreement, in_window}
use Rattle.tlv_reasons.proofs.remedy.named_lengths.Goals as goal

pub returns-then-octets-gt-SEARCH_LIMIT : goal.returns-then-octets-gt-SEARCH_LIMIT
returns-then-octets-gt-SEARCH_LIMIT c =
    IfOk-weaker c.lengths_in_window.result _ _ (λ found inside. in_window c.if-octets-gt-SEARCH_LIMIT.true inside)
    c.lengths_in_window.ensures

pub returns-then-not-sizes_agree : goal.returns-then-not-sizes_agree
returns-then-not-sizes_agree c =
    rw c.new.ensures
    (in_disagreement c.if-octets-gt-SEARCH_LIMIT.false
    (λ agree. cc (c.if-not-sizes_agree.true, c.sizes_agree.ensures.1 agree)))

pub returns : goal.returns
returns c =
    IfOk-weaker c.wrong_lengths.result _ _
    (λ found names. in_agreement c.if-octets-gt-SEARCH_LIMIT.false (c.sizes_agree.ensures.0 (search rules)) names)
    (rw (
      c.whole-bounds.ensures,
      c.closed_framing-framing.ensures,
      c.as_slice-holders.ensures.value,
      c.as_slice.ensures.value,
      c.suspect_offsets-candidates.ensures,
    ) at c.wrong_lengths.ensures)
