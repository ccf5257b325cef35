use Rattle.std.proofs.Common.{option_copied}
use Rattle.tlv_value.specs.Times.{two_digits}
use Rattle.tlv_value.proofs.CheckLemmas.Forms.{no_rest_then, rest_then}
use Rattle.tlv_value.proofs.time.after_month_and_day.Goals as goal

pub returns-in_err-rest : goal.returns-in_err-rest
returns-in_err-rest c =
    rw c.from_residual.ensures
    (no_rest_then (two_digits 1 12) (two_digits 1 31) c.args.octets.now c.in_err-rest.ensures)

pub returns : goal.returns
returns c =
    rest_then (two_digits 1 12) (two_digits 1 31) c.args.octets.now c.in_ok-rest.rest.now
    (option_copied c.after_two_digits-2.result) c.in_ok-rest.ensures
    c.after_two_digits-2.ensures
