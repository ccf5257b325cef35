use Rattle.std.proofs.Common.{◌≤◌, ◌+◌, ◌-◌, length}
use Rattle.tlv_examples.proofs.walk.walk_over_a_slice.Given as goal

abbrev pub invariant-steps : goal.invariant-steps
invariant-steps g l = l.walker.offset + length l.piece ≤ 5

-- each event counts, and no more events are yielded than octets are taken
abbrev pub decreases-steps : goal.decreases-steps
decreases-steps g l = l.walker.offset + length l.piece - l.walker.events
