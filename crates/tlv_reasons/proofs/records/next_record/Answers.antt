use Rattle.tlv_reasons.specs.NextRecord.{another_start}
use Rattle.tlv_reasons.proofs.records.next_record.Goals as goal

pub returns-in-Some : goal.returns-in-Some
returns-in-Some c = rw c.in-Some.is (another_start c.in-Some.field-0)
