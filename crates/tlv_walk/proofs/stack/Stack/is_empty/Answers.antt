use Rattle.std.proofs.Common.{arith}
use Rattle.std.proofs.lemmas.Grind.{common_steps}
use Rattle.tlv_walk.proofs.StackLemmas.{length-frames}
use Rattle.tlv_walk.proofs.stack.Stack.is_empty.Goals as goal

pub returns : goal.returns
returns c =
    let e = length-frames c.self.inside.innermost c.self.inside.outer c.args.self.now c.self.view_is in
    grind (arith, common_steps, e)
