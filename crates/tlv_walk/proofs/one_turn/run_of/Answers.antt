use Rattle.std.proofs.Common.{rules}
use Rattle.tlv_walk.proofs.one_turn.run_of.Goals as goal

pub returns : goal.returns
returns c = search rules
