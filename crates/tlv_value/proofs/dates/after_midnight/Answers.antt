use Rattle.std.proofs.Common.{option_copied}
use Rattle.std.specs.Prelude.{None}
use Rattle.tlv_value.specs.Times.{two_digits, ◌followed_by◌}
use Rattle.tlv_value.proofs.CheckLemmas.Forms.{no_rest_then, rest_then}
use Rattle.tlv_value.proofs.dates.after_midnight.Goals as goal

pub returns-in_err-rest : goal.returns-in_err-rest
returns-in_err-rest c =
    rw c.from_residual.ensures
    (no_rest_then (two_digits 24 24) (two_digits 0 0 followed_by two_digits 0 0) c.args.octets.now c.in_err-rest.ensures)

pub returns-in_err-rest-2 : goal.returns-in_err-rest-2
returns-in_err-rest-2 c =
    rw c.from_residual-in_err-rest-2.ensures
    (rest_then (two_digits 24 24) (two_digits 0 0 followed_by two_digits 0 0) c.args.octets.now c.in_ok-rest.rest.now
    None c.in_ok-rest.ensures
    (no_rest_then (two_digits 0 0) (two_digits 0 0) c.in_ok-rest.rest.now c.in_err-rest-2.ensures))

pub returns : goal.returns
returns c =
    rest_then (two_digits 24 24) (two_digits 0 0 followed_by two_digits 0 0) c.args.octets.now c.in_ok-rest.rest.now
    (option_copied c.after_two_digits-3.result) c.in_ok-rest.ensures
    (rest_then (two_digits 0 0) (two_digits 0 0) c.in_ok-rest.rest.now c.in_ok-rest-2.rest.now
    (option_copied c.after_two_digits-3.result) c.in_ok-rest-2.ensures c.after_two_digits-3.ensures)
