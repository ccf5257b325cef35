use Rattle.std.proofs.Common.{arith, ◌-◌, drop, length, option_copied, take}
use Rattle.std.proofs.lemmas.Grind.{common_steps}
use Rattle.std.proofs.lemmas.Bool.Decides.{nat_tests}
use Rattle.tlv_value.specs.Times.{hour, sign}
use Rattle.tlv_value.proofs.CheckLemmas.Forms.{has-one, no-one, no_rest_then, one-of-two, rest_then}
use Rattle.tlv_value.proofs.time.after_difference.Goals as goal

pub returns-in-43 : goal.returns-in-43
returns-in-43 c =
    rest_then sign hour c.args.octets.now (take (length c.args.octets.now - 1) (drop 1 c.args.octets.now))
    (option_copied c.after_two_digits.result)
    (has-one (one-of-two 43 45) c.args.octets.now c.in-43.len_at_least (grind (arith, common_steps, nat_tests)))
    c.after_two_digits.ensures

pub returns-in_default : goal.returns-in_default
returns-in_default c =
    no_rest_then sign hour c.args.octets.now
    (no-one (one-of-two 43 45) c.args.octets.now (λ h. grind (arith, common_steps, nat_tests)))
