use Rattle.std.proofs.Common.{option_copied}
use Rattle.std.specs.Prelude.{None}
use Rattle.tlv_value.specs.Times.{minute, month_and_day, second, two_digits, ◌followed_by◌}
use Rattle.tlv_value.proofs.CheckLemmas.Forms.{no_rest_then, rest_then}
use Rattle.tlv_value.proofs.time.after_canonical_second.Goals as goal

pub returns-in_err-rest : goal.returns-in_err-rest
returns-in_err-rest c =
    rw c.from_residual.ensures
    (no_rest_then (two_digits 0 99) (month_and_day followed_by two_digits 0 23 followed_by minute followed_by second)
    c.args.octets.now c.in_err-rest.ensures)

pub returns-in_err-rest-2 : goal.returns-in_err-rest-2
returns-in_err-rest-2 c =
    rw c.from_residual-in_err-rest-2.ensures
    (rest_then (two_digits 0 99) (month_and_day followed_by two_digits 0 23 followed_by minute followed_by second)
    c.args.octets.now c.in_ok-rest.rest.now
    None c.in_ok-rest.ensures
    (no_rest_then month_and_day (two_digits 0 23 followed_by minute followed_by second)
    c.in_ok-rest.rest.now c.in_err-rest-2.ensures))

pub returns-in_err-rest-3 : goal.returns-in_err-rest-3
returns-in_err-rest-3 c =
    rw c.from_residual-in_err-rest-3.ensures
    (rest_then (two_digits 0 99) (month_and_day followed_by two_digits 0 23 followed_by minute followed_by second)
    c.args.octets.now c.in_ok-rest.rest.now
    None c.in_ok-rest.ensures
    (rest_then month_and_day (two_digits 0 23 followed_by minute followed_by second) c.in_ok-rest.rest.now c.in_ok-rest-2.rest.now
    None c.in_ok-rest-2.ensures
    (no_rest_then (two_digits 0 23) (minute followed_by second) c.in_ok-rest-2.rest.now c.in_err-rest-3.ensures)))

pub returns-in_err-rest-4 : goal.returns-in_err-rest-4
returns-in_err-rest-4 c =
    rw c.from_residual-in_err-rest-4.ensures
    (rest_then (two_digits 0 99) (month_and_day followed_by two_digits 0 23 followed_by minute followed_by second)
    c.args.octets.now c.in_ok-rest.rest.now
    None c.in_ok-rest.ensures
    (rest_then month_and_day (two_digits 0 23 followed_by minute followed_by second) c.in_ok-rest.rest.now c.in_ok-rest-2.rest.now
    None c.in_ok-rest-2.ensures
    (rest_then (two_digits 0 23) (minute followed_by second) c.in_ok-rest-2.rest.now c.in_ok-rest-3.rest.now
    None c.in_ok-rest-3.ensures
    (no_rest_then minute second c.in_ok-rest-3.rest.now c.in_err-rest-4.ensures))))

pub returns : goal.returns
returns c =
    rest_then (two_digits 0 99) (month_and_day followed_by two_digits 0 23 followed_by minute followed_by second)
    c.args.octets.now c.in_ok-rest.rest.now
    (option_copied c.after_two_digits-4.result) c.in_ok-rest.ensures
    (rest_then month_and_day (two_digits 0 23 followed_by minute followed_by second) c.in_ok-rest.rest.now c.in_ok-rest-2.rest.now
    (option_copied c.after_two_digits-4.result) c.in_ok-rest-2.ensures
    (rest_then (two_digits 0 23) (minute followed_by second) c.in_ok-rest-2.rest.now c.in_ok-rest-3.rest.now
    (option_copied c.after_two_digits-4.result) c.in_ok-rest-3.ensures
    (rest_then minute second c.in_ok-rest-3.rest.now c.in_ok-rest-4.rest.now
    (option_copied c.after_two_digits-4.result) c.in_ok-rest-4.ensures
    c.after_two_digits-4.ensures)))
