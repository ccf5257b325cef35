use Rattle.std.proofs.Common.{rules}
use Rattle.tlv_show.proofs.holder_frame.frame_of.Goals as goal

pub returns : goal.returns
returns c = search rules
