use Rattle.std.proofs.Common.{refl}
use Rattle.tlv_open.proofs.FinderLemmas.Inputs.{octets-fit}
use Rattle.tlv_view_program.specs.WritesReasons.{of_nothing, of_string}
use Rattle.tlv_view_program.proofs.reasons.write_explained.Goals as goal

pub returns-in-Nothing-clause-reasons : goal.returns-in-Nothing-clause-reasons
returns-in-Nothing-clause-reasons g c = rw c.in-Nothing.is (of_nothing _ refl)

pub returns-in-Nothing-clause-octets : goal.returns-in-Nothing-clause-octets
returns-in-Nothing-clause-octets g c = octets-fit c.args.octets.now c.type_inv.octets

pub returns-in-Octets-clause-reasons : goal.returns-in-Octets-clause-reasons
returns-in-Octets-clause-reasons g c = rw c.in-Octets.is c.write_fault_reasons.ensures

pub returns-in-Octets-clause-octets : goal.returns-in-Octets-clause-octets
returns-in-Octets-clause-octets g c = octets-fit c.args.octets.now c.type_inv.octets

pub returns-in-String-clause-reasons : goal.returns-in-String-clause-reasons
returns-in-String-clause-reasons g c = rw c.in-String.is (of_string c.in-String.string _ c.explain_string.ensures)

pub returns-in-String-clause-octets : goal.returns-in-String-clause-octets
returns-in-String-clause-octets g c = octets-fit c.args.octets.now c.type_inv.octets
