use Rattle.std.proofs.Common.{arith}
use Rattle.std.proofs.lemmas.Grind.{common_steps}
use Rattle.std.proofs.lemmas.Bool.Decides.{nat_tests}
use Rattle.tlv_value.proofs.CheckLemmas.Forms.{has-one, no-one, one-octet}
use Rattle.tlv_value.proofs.time.after_mark.Goals as goal

pub returns-in-len1-up : goal.returns-in-len1-up
returns-in-len1-up c =
    has-one (one-octet c.args.octet c.args.octet) c.args.octets.now c.in-len1-up.len_at_least
    (grind (arith, common_steps, nat_tests))

pub returns-in_default : goal.returns-in_default
returns-in_default c =
    no-one (one-octet c.args.octet c.args.octet) c.args.octets.now (λ h. grind (arith, common_steps, nat_tests))
