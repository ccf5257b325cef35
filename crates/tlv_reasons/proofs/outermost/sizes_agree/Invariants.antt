use Rattle.std.proofs.Common.{◌-◌, length}
use Rattle.std.specs.Prelude.{◌↔◌}
use Rattle.tlv_reasons.specs.OutermostSizes.{SizesAgree}
use Rattle.tlv_reasons.proofs.outermost.sizes_agree.Given as goal

abbrev pub invariant-loop-offset : goal.invariant-loop-offset
invariant-loop-offset l = SizesAgree l.padding l.octets l.top ↔ SizesAgree l.padding l.octets l.offset

abbrev pub decreases-loop-offset : goal.decreases-loop-offset
decreases-loop-offset l = length l.octets - l.offset
