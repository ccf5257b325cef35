use Rattle.std.proofs.Common.{arith}
use Rattle.std.proofs.lemmas.Grind.{common_steps}
use Rattle.std.proofs.lemmas.Bool.Decides.{nat_tests}
use Rattle.tlv_value.proofs.CheckLemmas.Forms.{has-two, no-two}
use Rattle.tlv_value.proofs.time.after_two_digits.Goals as goal

pub returns-in_default : goal.returns-in_default
returns-in_default c = no-two c.args.low c.args.high c.args.octets.now (λ h. grind (arith, common_steps, nat_tests))

pub returns-then-number-low : goal.returns-then-number-low
returns-then-number-low c =
    no-two c.args.low c.args.high c.args.octets.now (λ h. grind (arith, common_steps, nat_tests))

pub returns : goal.returns
returns c =
    has-two c.args.low c.args.high c.args.octets.now c.in-48-to-57.len_at_least (grind (arith, common_steps, nat_tests))
