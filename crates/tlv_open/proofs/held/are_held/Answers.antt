use Rattle.std.proofs.Common.{sym, ◌∙◌}
use Rattle.tlv_open.proofs.ElementLemmas.Held.{holds-by, holds-nothing}
use Rattle.tlv_open.proofs.held.are_held.Goals as goal

pub returns-then-not-is_empty-clause-held : goal.returns-then-not-is_empty-clause-held
returns-then-not-is_empty-clause-held c = λ h contents e.
    holds-by c.args.depth h contents c.args.octets.now e c.elements_size.result c.is_some.result
    c.if-depth-ge-DEPTH_LIMIT.false (sym c.is_empty.ensures ∙ c.if-not-is_empty.true) c.is_some.ensures
    c.elements_size.ensures

pub returns-else-not-is_empty-clause-held : goal.returns-else-not-is_empty-clause-held
returns-else-not-is_empty-clause-held c = λ h contents e. (
  λ t. absurd (cc (c.if-not-is_empty.false, t)),
  λ s.
      absurd (holds-nothing c.args.depth h contents c.args.octets.now e
      (sym c.is_empty.ensures ∙ c.if-not-is_empty.false) s),
)
