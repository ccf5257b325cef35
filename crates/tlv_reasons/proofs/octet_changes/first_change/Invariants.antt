use Rattle.std.proofs.Common.{drop}
use Rattle.std.specs.Prelude.{Option}
use Rattle.tlv_reasons.specs.declared.octet_changes.OctetChange.{OctetChange}
use Rattle.tlv_reasons.specs.OneOctet.{IsFirstChange}
use Rattle.tlv_reasons.proofs.octet_changes.first_change.Given as goal

abbrev pub invariant-loop-candidate : goal.invariant-loop-candidate
invariant-loop-candidate l =
    (found : Option OctetChange) → IsFirstChange l.framing l.octets (drop l.candidate-index l.candidates) found
    → IsFirstChange l.framing l.octets l.candidates found
