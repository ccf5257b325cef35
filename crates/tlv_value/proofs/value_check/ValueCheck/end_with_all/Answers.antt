use Rattle.std.proofs.Common.{ap, ◌∙◌}
use Rattle.tlv_value.specs.ValueCheckState.{ValueCheckState, findings_in}
use Rattle.tlv_value.proofs.CheckLemmas.CheckPieces.{findings-end}
use Rattle.tlv_value.proofs.value_check.ValueCheck.end_with_all.Goals as goal

pub returns-clause-all_contents : goal.returns-clause-all_contents
returns-clause-all_contents c h octets e size =
    c.findings.ensures ∙ ap (λ (s : ValueCheckState). findings_in s) e ∙ findings-end h octets size
