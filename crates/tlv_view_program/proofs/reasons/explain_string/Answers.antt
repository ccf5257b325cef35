use Rattle.std.proofs.Common.{◌∙◌, arith, refl}
use Rattle.std.proofs.lemmas.Result.{err_from_is_err_and}
use Rattle.tlv_view_program.specs.WritesReasons.{explained, no_list, not_there}
use Rattle.tlv_view_program.proofs.ReasonSteps.{all-of, sends-weaker}
use Rattle.tlv_view_program.proofs.reasons.explain_string.Goals as goal

pub returns-then-string-gt-INPUT_LIMIT : goal.returns-then-string-gt-INPUT_LIMIT
returns-then-string-gt-INPUT_LIMIT g c = not_there _ (omega (arith, c.if-string-gt-INPUT_LIMIT.true)) refl

pub returns-in_err-offsets : goal.returns-in_err-offsets
returns-in_err-offsets g c =
    let p = err_from_is_err_and c.from_residual.result c.from_residual.ensures.1 in rw p.1 (no_list p.0 refl)

pub returns : goal.returns
returns g c =
    let n = c.in_ok-offsets.ensures.named in
    let named = c.in-Some.ensures.0 ∙ c.as_slice.ensures.value ∙ n.2 in
    explained n.0 c.facts_of-facts.result c.send_reasons.result n.1 (rw named at c.facts_of-facts.ensures)
    (sends-weaker
    (all-of (λ a. a.items) _ c.string_reasons-reasons.result (rw named at c.string_reasons-reasons.ensures.reasons))
    (λ e. tt) (rw (c.reasons_of-few.ensures.reasons, c.heading.ensures.heading) at c.send_reasons.ensures))
