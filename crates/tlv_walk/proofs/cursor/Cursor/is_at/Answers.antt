use Rattle.std.proofs.Common.{rules}
use Rattle.tlv_walk.proofs.CursorLemmas.{is_next}
use Rattle.tlv_walk.proofs.cursor.Cursor.is_at.Goals as goal

pub returns-clause-value : goal.returns-clause-value
returns-clause-value c =
    is_next _ c.if-self-offset.self _ c.requires.rising (search rules) c.requires.limit (search rules)
