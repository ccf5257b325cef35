use Rattle.std.proofs.Common.{rules}
use Rattle.tlv_run.proofs.report.Report.with_message.Goals as goal

pub returns : goal.returns
returns c = search rules
