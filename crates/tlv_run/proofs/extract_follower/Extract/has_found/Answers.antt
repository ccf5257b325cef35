use Rattle.std.proofs.Common.{rules}
use Rattle.tlv_run.proofs.extract_follower.Extract.has_found.Goals as goal

pub returns : goal.returns
returns c = search rules
