use Rattle.std.proofs.Common.{rules}
use Rattle.tlv_io.proofs.out.Out.put.Goals as goal

pub returns-clause-puts : goal.returns-clause-puts
returns-clause-puts g c = search rules
