use Rattle.std.proofs.Common.{sym, ◌∙◌}
use Rattle.tlv_walk.proofs.StackLemmas.{bound-frames, no_bound, some_bound}
use Rattle.tlv_walk.proofs.stack.Stack.bound.Goals as goal

pub returns-then-self : goal.returns-then-self
returns-then-self c =
    sym (no_bound _ c.if-self.true)
    ∙ sym (bound-frames c.self.inside.innermost c.self.inside.outer _ c.self.invariant c.self.view_is)

pub returns-else-self : goal.returns-else-self
returns-else-self c =
    sym (some_bound _ c.if-self.false)
    ∙ sym (bound-frames c.self.inside.innermost c.self.inside.outer _ c.self.invariant c.self.view_is)
