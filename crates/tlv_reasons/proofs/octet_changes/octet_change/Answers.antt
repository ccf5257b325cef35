use Rattle.tlv_reasons.specs.OneOctet.{another_length}
use Rattle.tlv_reasons.proofs.octet_changes.octet_change.Goals as goal

pub returns-in-Some : goal.returns-in-Some
returns-in-Some c = rw c.in-Some.is (another_length _)
