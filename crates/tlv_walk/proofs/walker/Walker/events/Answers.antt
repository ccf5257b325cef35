use Rattle.std.proofs.Common.{rules}
use Rattle.tlv_walk.proofs.walker.Walker.events.Goals as goal

pub returns-clause-value : goal.returns-clause-value
returns-clause-value c = search rules
