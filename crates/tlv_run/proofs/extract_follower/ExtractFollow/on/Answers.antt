use Rattle.std.proofs.Common.{rules}
use Rattle.tlv_run.proofs.extract_follower.ExtractFollow.on.Goals as goal

pub returns-in-Unused : goal.returns-in-Unused
returns-in-Unused g c = search rules

pub returns-in-Close-None : goal.returns-in-Close-None
returns-in-Close-None g c = search rules
