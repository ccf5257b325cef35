use Rattle.std.proofs.Common.{sym, ◌∙◌}
use Rattle.tlv_walk.proofs.StackLemmas.{length-frames}
use Rattle.tlv_walk.proofs.stack.Stack.len.Goals as goal

pub returns-clause-count : goal.returns-clause-count
returns-clause-count c =
    c.len.ensures.count ∙ sym (length-frames c.self.inside.innermost c.self.inside.outer _ c.self.view_is)
