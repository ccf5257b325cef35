use Rattle.tlv_view_program.specs.WritesReasons.{of_octets}
use Rattle.tlv_view_program.proofs.reasons.write_fault_reasons.Goals as goal

pub returns : goal.returns
returns g c = of_octets c.closed_facts-facts.result _ c.closed_facts-facts.ensures c.explain_octets.ensures
