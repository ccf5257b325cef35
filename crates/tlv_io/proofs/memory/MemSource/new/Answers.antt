use Rattle.std.proofs.Common.{rules}
use Rattle.tlv_io.proofs.memory.MemSource.new.Goals as goal

pub returns : goal.returns
returns c = search rules
