use Rattle.std.proofs.Common.{rules}
use Rattle.tlv_walk.proofs.one_piece.follow_event.Goals as goal

pub returns : goal.returns
returns g c = search rules
