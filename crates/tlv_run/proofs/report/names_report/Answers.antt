use Rattle.std.proofs.Common.{rules}
use Rattle.tlv_run.proofs.report.names_report.Goals as goal

pub returns-in-BadName : goal.returns-in-BadName
returns-in-BadName c = search rules
