use Rattle.std.proofs.Common.{rules}
use Rattle.tlv_io.proofs.memory.MemDrain.written.Goals as goal

pub returns-clause-taken : goal.returns-clause-taken
returns-clause-taken c = search rules
