use Rattle.std.proofs.Common.{◌&&◌, ◌∙◌, Bool, ap, length, nat_le, sym}
use Rattle.tlv_value.specs.Dates.{month_has_day}
use Rattle.tlv_value.specs.Times.{canonical_generalized_time_form, generalized_time_form}
use Rattle.tlv_value.proofs.CheckLemmas.NestedForms.{generalized_clear, time-clear}
use Rattle.tlv_value.proofs.short_look.is_generalized_clear.Goals as goal

pub returns-then-general_canonical-clause-clear : goal.returns-then-general_canonical-clause-clear
returns-then-general_canonical-clause-clear c =
    c.month_has_day.ensures
    ∙ ap (λ (b : Bool). b && month_has_day c.args.time.now) (sym c.if-general_canonical.true ∙ c.general_canonical.ensures)
    ∙ generalized_clear c.args.time.now

pub returns-then-general_canonical-clause-contents : goal.returns-then-general_canonical-clause-contents
returns-then-general_canonical-clause-contents c =
    λ h. time-clear (nat_le (length c.args.time.now) 64) (generalized_time_form c.args.time.now)
    (month_has_day c.args.time.now) (canonical_generalized_time_form c.args.time.now)
    (sym (returns-then-general_canonical-clause-clear c) ∙ h)
