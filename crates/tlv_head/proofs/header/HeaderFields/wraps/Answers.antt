use Rattle.std.proofs.Common.{rules}
use Rattle.tlv_head.proofs.header.HeaderFields.wraps.Goals as goal

pub returns-in-Universal-eq4 : goal.returns-in-Universal-eq4
returns-in-Universal-eq4 c = search rules

pub returns-in-Universal-eq3 : goal.returns-in-Universal-eq3
returns-in-Universal-eq3 c = search rules
