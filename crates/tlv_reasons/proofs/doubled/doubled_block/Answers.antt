use Rattle.std.proofs.Common.{sym}
use Rattle.tlv_reasons.specs.Doubled.{no_size}
use Rattle.tlv_reasons.proofs.doubled.doubled_block.Goals as goal

pub returns-in-None : goal.returns-in-None
returns-in-None c =
    rw (sym c.size_difference.ensures.difference, sym c.block_size.ensures.size, c.in-None.is) no_size
