use Rattle.std.proofs.Common.{rules}
use Rattle.tlv_io.proofs.out.Out.new.Goals as goal

pub returns-clause-empty : goal.returns-clause-empty
returns-clause-empty g c = search rules
