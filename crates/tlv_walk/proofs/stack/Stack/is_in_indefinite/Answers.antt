use Rattle.std.proofs.Common.{rules}
use Rattle.tlv_walk.proofs.StackLemmas.{in_indefinite}
use Rattle.tlv_walk.proofs.stack.Stack.is_in_indefinite.Goals as goal

pub returns-in-Indefinite : goal.returns-in-Indefinite
returns-in-Indefinite c =
    let k = in_indefinite c.self.inside.innermost c.self.inside.outer c.self.invariant in
    rw (← c.self.view_is) (search (rules, k))

pub returns-in_default : goal.returns-in_default
returns-in_default c =
    let k = in_indefinite c.self.inside.innermost c.self.inside.outer c.self.invariant in
    rw (← c.self.view_is) (search (rules, k))
