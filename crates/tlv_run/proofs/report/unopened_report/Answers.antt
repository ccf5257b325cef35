use Rattle.std.proofs.Common.{rules}
use Rattle.tlv_run.proofs.report.unopened_report.Goals as goal

pub returns : goal.returns
returns c = search rules
