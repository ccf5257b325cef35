use Rattle.std.proofs.Common.{arith}
use Rattle.tlv_walk.proofs.StackLemmas.{bound-frames, within_bound}
use Rattle.tlv_walk.proofs.stack.Stack.is_within.Goals as goal

pub returns : goal.returns
returns c =
    let bound = within_bound c.self.inside.innermost.bound c.args.end (omega arith) in
    rw (bound-frames c.self.inside.innermost c.self.inside.outer _ c.self.invariant c.self.view_is)
    (grind (arith, bound))
