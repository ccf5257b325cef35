use Rattle.std.proofs.Common.{option_copied}
use Rattle.std.specs.Prelude.{None}
use Rattle.tlv_value.specs.Times.{month_and_day, two_digits, ◌followed_by◌}
use Rattle.tlv_value.proofs.CheckLemmas.Forms.{no_rest_then, rest_then}
use Rattle.tlv_value.proofs.dates.after_date.Goals as goal

pub returns-in_err-rest : goal.returns-in_err-rest
returns-in_err-rest c =
    rw c.from_residual.ensures
    (no_rest_then (two_digits 0 99) (two_digits 0 99 followed_by month_and_day) c.args.octets.now c.in_err-rest.ensures)

pub returns-in_err-rest-2 : goal.returns-in_err-rest-2
returns-in_err-rest-2 c =
    rw c.from_residual-in_err-rest-2.ensures
    (rest_then (two_digits 0 99) (two_digits 0 99 followed_by month_and_day) c.args.octets.now c.in_ok-rest.rest.now
    None c.in_ok-rest.ensures
    (no_rest_then (two_digits 0 99) month_and_day c.in_ok-rest.rest.now c.in_err-rest-2.ensures))

pub returns : goal.returns
returns c =
    rest_then (two_digits 0 99) (two_digits 0 99 followed_by month_and_day) c.args.octets.now c.in_ok-rest.rest.now
    (option_copied c.after_month_and_day.result) c.in_ok-rest.ensures
    (rest_then (two_digits 0 99) month_and_day c.in_ok-rest.rest.now c.in_ok-rest-2.rest.now
    (option_copied c.after_month_and_day.result) c.in_ok-rest-2.ensures c.after_month_and_day.ensures)
