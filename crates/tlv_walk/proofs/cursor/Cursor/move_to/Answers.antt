use Rattle.std.proofs.Common.{rules}
use Rattle.tlv_walk.proofs.CursorLemmas.{passes_next}
use Rattle.tlv_walk.proofs.cursor.Cursor.move_to.Goals as goal

pub loop-self-preserved : goal.loop-self-preserved
loop-self-preserved c =
    passes_next _ c.loop-self.self _ _ c.loop-self.invariant (search rules) c.next_after-self.ensures
