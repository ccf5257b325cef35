use Rattle.std.proofs.Common.{arith}
use Rattle.tlv_reasons.proofs.OutermostLemmas.{sizes-end}
use Rattle.tlv_reasons.proofs.outermost.sizes_agree.Goals as goal

pub returns : goal.returns
returns c =
    sizes-end c.args.padding c.args.octets.now c.args.top c.loop-offset.offset (omega arith) c.loop-offset.invariant
