use Rattle.std.proofs.Common.{rules, refl}
use Rattle.tlv_head.proofs.header.Header.identifier.Goals as goal

pub returns-clause-value : goal.returns-clause-value
returns-clause-value c = rw (← c.self.view_is, c.from.ensures, c.as_slice.ensures.value) refl

pub returns-clause-short : goal.returns-clause-short
returns-clause-short c = search rules
