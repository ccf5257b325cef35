use Rattle.std.proofs.Common.{◌&&◌, ◌∙◌, Bool, ap, length, nat_le, sym}
use Rattle.tlv_value.specs.Dates.{month_has_day_in_some_century}
use Rattle.tlv_value.specs.Times.{canonical_utc_time_form, utc_time_form}
use Rattle.tlv_value.proofs.CheckLemmas.NestedForms.{utc_clear, time-clear}
use Rattle.tlv_value.proofs.short_look.is_utc_clear.Goals as goal

pub returns-then-utc_canonical-clause-clear : goal.returns-then-utc_canonical-clause-clear
returns-then-utc_canonical-clause-clear c =
    c.month_has_day_in_some_century.ensures
    ∙ ap (λ (b : Bool). b && month_has_day_in_some_century c.args.time.now) (sym c.if-utc_canonical.true ∙ c.utc_canonical.ensures)
    ∙ utc_clear c.args.time.now

pub returns-then-utc_canonical-clause-contents : goal.returns-then-utc_canonical-clause-contents
returns-then-utc_canonical-clause-contents c =
    λ h. time-clear (nat_le (length c.args.time.now) 64) (utc_time_form c.args.time.now)
    (month_has_day_in_some_century c.args.time.now) (canonical_utc_time_form c.args.time.now)
    (sym (returns-then-utc_canonical-clause-clear c) ∙ h)
