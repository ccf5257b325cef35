use Rattle.std.proofs.Common.{rules}
use Rattle.tlv_walk.proofs.StackLemmas.{in_wrapper}
use Rattle.tlv_walk.proofs.stack.Stack.is_in_wrapper.Goals as goal

pub returns-in-Wrapper : goal.returns-in-Wrapper
returns-in-Wrapper c =
    let k = in_wrapper c.self.inside.innermost c.self.inside.outer c.self.invariant in
    rw (← c.self.view_is) (search (rules, k))

pub returns-in_default : goal.returns-in_default
returns-in_default c =
    let k = in_wrapper c.self.inside.innermost c.self.inside.outer c.self.invariant in
    rw (← c.self.view_is) (search (rules, k))
