use Rattle.std.proofs.Common.{rules}
use Rattle.tlv_show.proofs.dump_follower.Dump.of.Goals as goal

pub returns : goal.returns
returns g c = search rules
