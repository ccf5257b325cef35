use Rattle.std.proofs.Common.{arith, ◌∙◌}
use Rattle.std.proofs.lemmas.Grind.{common_steps}
use Rattle.std.proofs.lemmas.Bool.Decides.{nat_tests}
use Rattle.tlv_value.proofs.CheckLemmas.FractionForms.{none-left, skips-digit}
use Rattle.tlv_value.proofs.time.is_canonical_fraction_rest.Goals as goal

pub loop-rest-preserved : goal.loop-rest-preserved
loop-rest-preserved c =
    skips-digit c.loop-rest.rest.now c.in-48-to-57.len_at_least (grind (arith, common_steps, nat_tests))
    (grind (arith, common_steps, nat_tests))
    ∙ c.loop-rest.invariant

pub returns-in_default-2 : goal.returns-in_default-2
returns-in_default-2 c =
    none-left c.loop-rest.rest.now (λ h. grind (arith, common_steps, nat_tests)) ∙ c.loop-rest.invariant

pub returns-in_default-3 : goal.returns-in_default-3
returns-in_default-3 c =
    none-left c.loop-rest.rest.now (λ h. grind (arith, common_steps, nat_tests)) ∙ c.loop-rest.invariant
