use Rattle.std.proofs.Common.{arith, ◌∙◌}
use Rattle.std.proofs.lemmas.Grind.{common_steps}
use Rattle.std.proofs.lemmas.Bool.Decides.{nat_tests}
use Rattle.tlv_value.specs.Times.{generalized_zone, maybe}
use Rattle.tlv_value.proofs.CheckLemmas.FractionForms.{digit-first, has-fraction, no-digit, no-fraction}
use Rattle.tlv_value.proofs.time.is_fraction_and_zone.Goals as goal

pub returns-in_default : goal.returns-in_default
returns-in_default c =
    no-fraction (maybe generalized_zone) c.args.octets.now (λ h. grind (arith, common_steps, nat_tests))

pub returns-in_default-2 : goal.returns-in_default-2
returns-in_default-2 c =
    no-fraction (maybe generalized_zone) c.args.octets.now (λ h. grind (arith, common_steps, nat_tests))

pub returns-in_default-3 : goal.returns-in_default-3
returns-in_default-3 c =
    no-fraction (maybe generalized_zone) c.args.octets.now (λ h. grind (arith, common_steps, nat_tests))

pub returns-in_default-4 : goal.returns-in_default-4
returns-in_default-4 c =
    no-fraction (maybe generalized_zone) c.args.octets.now (λ h. grind (arith, common_steps, nat_tests))

pub loop-rest-init : goal.loop-rest-init
loop-rest-init c =
    has-fraction (maybe generalized_zone) c.args.octets.now c.in-46.len_at_least
    (grind (arith, common_steps, nat_tests))

pub loop-rest-preserved : goal.loop-rest-preserved
loop-rest-preserved c =
    digit-first c.loop-rest.rest.now c.in-48-to-57.len_at_least (grind (arith, common_steps, nat_tests))
    ∙ c.loop-rest.invariant

pub returns : goal.returns
returns c =
    c.is_generalized_zone_or_nothing.ensures
    ∙ no-digit (maybe generalized_zone) c.loop-rest.rest.now (λ h. grind (arith, common_steps, nat_tests))
    ∙ c.loop-rest.invariant
