use Rattle.std.proofs.Common.{rules}
use Rattle.tlv_io.proofs.stream.WriteDrainDrain.write.Goals as goal

pub returns-in-Ok : goal.returns-in-Ok
returns-in-Ok g c = search rules
