use Rattle.std.proofs.Common.{◌-◌, length}
use Rattle.tlv_reasons.proofs.KindLemmas.{Counted}
use Rattle.tlv_reasons.proofs.element_kinds.outermost_kinds.Given as goal

abbrev pub invariant-loop-offset : goal.invariant-loop-offset
invariant-loop-offset l = Counted l.padding l.octets l.offset l.counts

abbrev pub decreases-loop-offset : goal.decreases-loop-offset
decreases-loop-offset l = length l.octets - l.offset
