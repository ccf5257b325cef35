use Rattle.std.proofs.Common.{rules}
use Rattle.tlv_show.proofs.holder_frame.set_frame_after.Goals as goal

pub returns : goal.returns
returns c = search rules
