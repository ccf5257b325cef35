use Rattle.std.proofs.Common.{◌∙◌, sym}
use Rattle.std.proofs.lemmas.Result.{IfOk-weaker}
use Rattle.tlv_reasons.specs.Remedies.{cut, whole}
use Rattle.tlv_reasons.proofs.remedy.other_chain.Goals as goal

pub returns-then-says_sizes : goal.returns-then-says_sizes
returns-then-says_sizes c = cut (sym c.says_sizes.ensures ∙ c.if-says_sizes.true)

pub returns : goal.returns
returns c =
    IfOk-weaker c.length_chain.result _ _ (λ found is. whole (sym c.says_sizes.ensures ∙ c.if-says_sizes.false) is)
    (rw (c.as_slice.ensures.value, c.suspect_offsets-candidates.ensures) at c.length_chain.ensures)
