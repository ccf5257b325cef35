use Rattle.std.proofs.Common.{rules}
use Rattle.tlv_run.proofs.report.device_report.Goals as goal

pub returns-in-WriteFailed : goal.returns-in-WriteFailed
returns-in-WriteFailed c = search rules
