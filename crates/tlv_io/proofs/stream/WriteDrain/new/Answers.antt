use Rattle.std.proofs.Common.{rules}
use Rattle.tlv_io.proofs.stream.WriteDrain.new.Goals as goal

pub returns : goal.returns
returns g c = search rules
