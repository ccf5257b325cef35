use Rattle.std.proofs.Common.{rules}
use Rattle.tlv_walk.proofs.WalkerLemmas.Waiting.{waiting-returned}
use Rattle.tlv_walk.proofs.walker.Walker.waiting.Goals as goal

pub returns-in-InPrimitive : goal.returns-in-InPrimitive
returns-in-InPrimitive c = waiting-returned c.args.self.now _ (search rules)

pub returns-in-Between : goal.returns-in-Between
returns-in-Between c = waiting-returned c.args.self.now _ (search rules)

pub returns-in_default : goal.returns-in_default
returns-in_default c = waiting-returned c.args.self.now _ (search rules)
