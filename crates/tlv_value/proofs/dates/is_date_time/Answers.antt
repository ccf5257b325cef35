use Rattle.std.proofs.Common.{sym, ◌∙◌}
use Rattle.tlv_value.specs.Dates.{time_of_day_form}
use Rattle.tlv_value.proofs.dates.is_date_time.Goals as goal

pub returns-in-Some : goal.returns-in-Some
returns-in-Some c = c.is_time_of_day.ensures ∙ sym (c.in-Some.ensures time_of_day_form)

pub returns-in-None : goal.returns-in-None
returns-in-None c = sym (c.in-None.ensures time_of_day_form)
