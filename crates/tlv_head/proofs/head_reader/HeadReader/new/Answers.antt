use Rattle.std.proofs.Common.{refl}
use Rattle.tlv_head.proofs.head_reader.HeadReader.new.Goals as goal

pub returns : goal.returns
returns c = rw c.new.ensures refl
