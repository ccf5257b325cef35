use Rattle.std.proofs.Common.{◌-◌, length}
use Rattle.tlv_walk.specs.Private.Cursor.{IsCursorAt}
use Rattle.tlv_walk.proofs.cursor.Cursor.move_to.Given as goal

abbrev pub invariant-loop-self : goal.invariant-loop-self
invariant-loop-self l = IsCursorAt l.inside l.self l.offset

abbrev pub decreases-loop-self : goal.decreases-loop-self
decreases-loop-self l = length l.inside - l.self.passed
