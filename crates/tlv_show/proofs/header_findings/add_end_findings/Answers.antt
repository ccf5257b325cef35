use Rattle.std.proofs.Common.{rules}
use Rattle.tlv_show.proofs.header_findings.add_end_findings.Goals as goal

pub returns-after-frame-3 : goal.returns-after-frame-3
returns-after-frame-3 c = search rules
