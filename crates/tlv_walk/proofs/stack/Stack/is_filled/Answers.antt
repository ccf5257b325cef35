use Rattle.std.proofs.Common.{rules}
use Rattle.tlv_walk.proofs.StackLemmas.{is_filled}
use Rattle.tlv_walk.proofs.stack.Stack.is_filled.Goals as goal

pub returns-in-Definite : goal.returns-in-Definite
returns-in-Definite c =
    let k = is_filled c.self.inside.innermost c.self.inside.outer c.args.offset c.self.invariant in
    rw (← c.self.view_is) (search (rules, k))

pub returns-in_default : goal.returns-in_default
returns-in_default c =
    let k = is_filled c.self.inside.innermost c.self.inside.outer c.args.offset c.self.invariant in
    rw (← c.self.view_is) (search (rules, k))

pub returns-else-self-offset : goal.returns-else-self-offset
returns-else-self-offset c =
    let k = is_filled c.self.inside.innermost c.self.inside.outer c.args.offset c.self.invariant in
    rw (← c.self.view_is) (search (rules, k))
